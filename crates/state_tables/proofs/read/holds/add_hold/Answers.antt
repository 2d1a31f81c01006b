use Rattle.std.proofs.Common.{◌≡◌, ◌<◌, length, None, true, false, not, get_or, sym, ap, ◌∙◌}
use Rattle.std.specs.Option.{is_some}
use Rattle.std.proofs.lemmas.List.{get_or_read}
use Rattle.state_tables.specs.Reading.{hold_read}
use Rattle.state_tables.proofs.Holds.{keep_new, keep_old, new_hold}
use Rattle.state_tables.proofs.read.holds.add_hold.Goals as goal

pub returns-then-is_some-clause-holds : goal.returns-then-is_some-clause-holds
returns-then-is_some-clause-holds c before has =
    let lt : c.in-Some.state < length c.args.holds.now.items = rw c.in-Some.is at c.requires in
    let there : is_some (get_or c.args.holds.now.items c.in-Some.state None) ≡ true = ap is_some (sym (get_or_read c.args.holds.now.items _ _ lt c.index.ensures None)) ∙ sym c.is_some.ensures ∙ c.if-is_some.true in
    rw c.in-Some.is (keep_old c.args.holds.now.items before (hold_read (c.in-Some.state, c.in-Some.hold)) there has)

pub returns-then-is_some-clause-is_new : goal.returns-then-is_some-clause-is_new
returns-then-is_some-clause-is_new c before has =
    let lt : c.in-Some.state < length c.args.holds.now.items = rw c.in-Some.is at c.requires in
    let there : is_some (get_or c.args.holds.now.items c.in-Some.state None) ≡ true = ap is_some (sym (get_or_read c.args.holds.now.items _ _ lt c.index.ensures None)) ∙ sym c.is_some.ensures ∙ c.if-is_some.true in
    rw c.in-Some.is (ap not (sym there) ∙ new_hold c.args.holds.now.items before (hold_read (c.in-Some.state, c.in-Some.hold)) lt has)

pub returns-clause-holds : goal.returns-clause-holds
returns-clause-holds c before has =
    let lt : c.in-Some.state < length c.args.holds.now.items = rw c.in-Some.is at c.requires in
    let free : is_some (get_or c.args.holds.now.items c.in-Some.state None) ≡ false = ap is_some (sym (get_or_read c.args.holds.now.items _ _ lt c.index.ensures None)) ∙ sym c.is_some.ensures ∙ c.if-is_some.false in
    rw c.in-Some.is (keep_new c.args.holds.now.items before c.in-Some.state c.in-Some.hold lt free has)

pub returns-clause-is_new : goal.returns-clause-is_new
returns-clause-is_new c before has =
    let lt : c.in-Some.state < length c.args.holds.now.items = rw c.in-Some.is at c.requires in
    let free : is_some (get_or c.args.holds.now.items c.in-Some.state None) ≡ false = ap is_some (sym (get_or_read c.args.holds.now.items _ _ lt c.index.ensures None)) ∙ sym c.is_some.ensures ∙ c.if-is_some.false in
    rw c.in-Some.is (ap not (sym free) ∙ new_hold c.args.holds.now.items before (hold_read (c.in-Some.state, c.in-Some.hold)) lt has)
