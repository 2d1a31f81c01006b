use Rattle.std.proofs.Common.{◌≡◌, ℕ, Option, sym, subst}
use Rattle.std.specs.Prelude.{IfOk}
use Rattle.std.specs.Option.{option_map}
use Rattle.run_leaves.specs.Marking.{at_seed}
use Rattle.asked_run.specs.Ways.{marking_in}
use Rattle.asked_run.proofs.start.run_at_start.Goals as goal

pub returns-in-None-clause-marked : goal.returns-in-None-clause-marked
returns-in-None-clause-marked g c =
    subst (λ (o : Option ℕ). IfOk c.flat_at_start.result (λ w. marking_in w ≡ option_map at_seed o)) (sym c.in-None.is) c.flat_at_start.ensures.marked

pub returns-in-Some-clause-marked : goal.returns-in-Some-clause-marked
returns-in-Some-clause-marked g c =
    subst (λ (o : Option ℕ). IfOk c.served_at_start.result (λ w. marking_in w ≡ option_map at_seed o)) (sym c.in-Some.is) c.served_at_start.ensures.marked
