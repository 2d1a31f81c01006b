use Rattle.std.proofs.Common.{◌-◌, ◌<◌, length, ap, refl, sym, arith}
use Rattle.ma_lines.proofs.ByName.{by_name-write, shown-write_last}
use Rattle.ma_lines.proofs.sections.Sections.add.Goals as goal

pub invariant_of-self-in_default-push : goal.invariant_of-self-in_default-push
invariant_of-self-in_default-push c =
    by_name-write c.self.inside.by_name.entries _ c.in-Some.last.now (record { line = c.in-Some.last.now.line; name = c.in-Some.last.now.name; entries = c.push.new.self })
    (sym c.in-Some.ensures.value) refl c.self.invariant

pub invariant_of-self-2 : goal.invariant_of-self-2
invariant_of-self-2 c =
    by_name-write c.self.inside.by_name.entries _ c.in-Some.last.now (record { line = c.in-Some.last.now.line; name = c.in-Some.last.now.name; entries = c.push.new.self })
    (sym c.in-Some.ensures.value) refl c.self.invariant

pub returns : goal.returns
returns c =
    let some : 0 < length c.self.inside.by_name.entries = c.in-Some.ensures.found.0 refl in
    rw (← c.self.view_is)
    (shown-write_last c.self.inside.by_name.entries (length c.self.inside.by_name.entries - 1) c.in-Some.last.now
    (record { line = c.in-Some.last.now.line; name = c.in-Some.last.now.name; entries = c.push.new.self }) c.args.entry (omega arith) (sym c.in-Some.ensures.value)
    (ap (λ es. record { line = c.in-Some.last.now.line; name = c.in-Some.last.now.name; entries = es }) c.in-Ok.ensures.items))
