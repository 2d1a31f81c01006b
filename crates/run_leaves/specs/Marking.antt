-- The seed and the mark of a run whose messages are served in the order of a seed, and what a call
-- for the next cycle leaves of them.
use Rattle.std.specs.Prelude.{◌≡◌, ℕ, Option, Some, None, [], ⊤}
use Rattle.std.specs.declared.result.Result.{Result}
use Rattle.std.specs.declared.result.Result.TheVariants.{Ok, Err}
use Rattle.model_tree.specs.Tree.{Tree}
use Rattle.run_model.specs.Run.{RunState}
use Rattle.served_tree.specs.Order.{Serving, serve_cycle}
use Rattle.run_leaves.specs.declared.progress.Progress.{Progress}
use Rattle.run_leaves.specs.declared.progress.Progress.TheVariants.{Cycled, Done}
use Rattle.run_model.specs.declared.stop.Stop.{Stop}
use Rattle.run_model.specs.declared.stop.Stop.TheVariants.{NoTrueRule, Overflow, BadDelay, TooManyCycles, Memory}
use Rattle.run_leaves.specs.Standing.{Standing, tree_in}

-- the seed that is left, and the mark
pub record Marking : Type 0 where
  pub seed : ℕ
  pub mark : ℕ

-- those of a run before its first cycle
abbrev pub at_seed : ℕ → Marking
at_seed seed = record { seed = seed; mark = 0 }

-- a service that goes on from these
abbrev pub serving_from : Marking → Serving
serving_from m =
    record { seed = m.seed; service = record { waiting = []; kept = [] }; mark = m.mark }

-- those of a service
abbrev pub service_marking : Serving → Marking
service_marking v = record { seed = v.seed; mark = v.mark }

-- those behind the cycle at an instant
abbrev pub marking_behind : Tree → ℕ → RunState → Marking → Marking
marking_behind tree t s m = service_marking (serve_cycle tree t s (serving_from m))

-- by what a call answers: behind a cycle those of its service, and the same where none was begun; a
-- cycle that stops leaves any
abbrev pub MarksBy : Marking → Standing → Result Progress Stop → Option Marking → Type 0
MarksBy m s (Ok (Cycled t)) m' = m' ≡ Some (marking_behind (tree_in s) t s.state m)
MarksBy m s (Ok Done) m' = m' ≡ Some m
MarksBy m s (Err (NoTrueRule leaf t)) m' = ⊤
MarksBy m s (Err (Overflow leaf t)) m' = ⊤
MarksBy m s (Err (BadDelay leaf t delay)) m' = ⊤
MarksBy m s (Err (TooManyCycles t)) m' = m' ≡ Some m
MarksBy m s (Err Memory) m' = ⊤

-- the same, where the run has an order of service; after a stop that was answered before they stay
abbrev pub Marks : Option Marking → Option Stop → Standing → Result Progress Stop
    → Option Marking → Type 0
Marks None w s result m' = m' ≡ None
Marks (Some m) None s result m' = MarksBy m s result m'
Marks (Some m) (Some why) s result m' = m' ≡ Some m
