use Rattle.std.proofs.Common.{◌++◌, append-nil, ap, sym, ◌∙◌}
use Rattle.atomic_kinds.proofs.cpu.give_due.Goals as goal

pub returns : goal.returns
returns c = record {
  ok = sym (append-nil c.loop-given.into.items) ∙ ap (λ given. c.loop-given.into.items ++ given) (sym c.in_default.ensures) ∙ c.loop-given.invariant.0;
  err = tt;
}
