use Rattle.std.proofs.Common.{sym, ap, ◌∙◌, arith}
use Rattle.atomic_face.specs.Classes.{is_at}
use Rattle.atomic_kinds.specs.Pairs.{left_at}
use Rattle.atomic_kinds.proofs.Rising.{first_leaves, none_due, rest_rises}
use Rattle.atomic_kinds.proofs.cpu.leave.Goals as goal

pub loop-now-preserved : goal.loop-now-preserved
loop-now-preserved c =
    let here = c.loop-now.invariant in
    let due = sym (ap (is_at c.args.now) c.first_time.ensures) ∙ sym c.is_at.ensures ∙ c.loop-now-test.true in (
      ap (left_at c.args.now) c.pop_front.ensures.rest ∙ first_leaves c.args.now c.loop-now.pairs.items here.1 due ∙ here.0,
      rw c.pop_front.ensures.rest (rest_rises c.loop-now.pairs.items here.1),
      omega arith,
      c.pop_front.ensures.capacity ∙ here.3,
    )

pub returns-clause-items : goal.returns-clause-items
returns-clause-items c =
    let none = sym (ap (is_at c.args.now) c.first_time.ensures) ∙ sym c.is_at.ensures ∙ c.loop-now-test.false in
    sym (none_due c.args.now c.loop-now.pairs.items none) ∙ c.loop-now.invariant.0
