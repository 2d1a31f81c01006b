-- What a cycle that was served leaves of the seed and the mark.
use Rattle.std.proofs.Common.{◌≡◌, ℕ, ◌*◌, Option, Some, None, refl, sym, ◌∙◌, ap}
use Rattle.std.specs.declared.result.Result.{Result}
use Rattle.std.specs.declared.result.Result.TheVariants.{Ok, Err}
use Rattle.rule_tree.specs.declared.outcome.RuleStop.{RuleStop}
use Rattle.model_tree.specs.Tree.{Tree}
use Rattle.run_model.specs.Cycle.{output_bags, moves, first_stop}
use Rattle.run_model.specs.Run.{Cycle as ACycle, RunState, Verdict, done, too_many, stop, Next, ended, cycled, unless_stop, at_top, cycle_of, state_after, cycled_at}
use Rattle.text_forms.specs.declared.records.Records.{Records}
use Rattle.run_leaves.specs.declared.progress.Progress.{Progress}
use Rattle.run_leaves.specs.declared.progress.Progress.TheVariants as progress
use Rattle.run_model.specs.declared.stop.Stop.{Stop}
use Rattle.run_model.specs.declared.stop.Stop.TheVariants.{NoTrueRule, Overflow, BadDelay, TooManyCycles, Memory}
use Rattle.run_leaves.specs.Standing.{Standing}
use Rattle.run_leaves.specs.Steps.{Steps}
use Rattle.run_leaves.specs.Marking.{Marking, serving_from, service_marking, marking_behind, MarksBy, Marks}
use Rattle.served_tree.specs.Processors.{size}
use Rattle.served_tree.specs.Service.{instant_of, service_at_start}
use Rattle.served_tree.specs.Order.{Serving, serve_times, serve_cycle}
use Rattle.tree_serve.specs.declared.started.Started.{Started}
use Rattle.tree_serve.specs.declared.started.Started.TheVariants.{Cycle}
use Rattle.tree_serve.specs.declared.ordered.Order.{Order}
use Rattle.tree_serve.specs.Processing.{Processing, tree_on, standing_at}
use Rattle.tree_serve.specs.InCycle.{InCycle}
use Rattle.tree_serve.specs.Calls.{Starts}
use Rattle.tree_serve.specs.Ordered.{serving_of, marking_of, ServesSo, EndsCycle, MarksCycle}
use Rattle.tree_serve.proofs.Ordering.{tree-same}

-- ---- all messages of a cycle

pub marked-cycle : (p p' : Processing) (o o' : Order) → ServesSo (4 * size (tree_on p)) p o p' o' → (s : RunState) (t : ℕ) → InCycle s t 0 p → p.service ≡ service_at_start (instant_of (tree_on p) t s) → marking_of o' ≡ marking_behind (tree_on p) t s (marking_of o)
marked-cycle p p' o o' serves s t h is =
    let at = instant_of (tree_on p) t s in
    let v : Serving = record { seed = o.seed; service = service_at_start at; mark = o.mark } in
    let begins : serving_of p o ≡ v = λ i. record { seed = o.seed; service = is i; mark = o.mark } in
    let all : serving_of p' o' ≡ serve_cycle (tree_on p) t s (serving_from (marking_of o)) = (serves s t h).order ∙ ap (serve_times (4 * size (tree_on p)) at) begins in
    ap service_marking all

-- ---- what a cycle comes to

abbrev cycle_in : Next → ACycle → ACycle
cycle_in (ended v) d = d
cycle_in (cycled c n) d = c

abbrev verdict_in : Next → Verdict
verdict_in (ended v) = v
verdict_in (cycled c n) = done

-- a cycle at its instant, and no other verdict than the stop of a leaf
time_is : (t : ℕ) (o : Option (ℕ × RuleStop)) (d c : ACycle) (m n : RunState) → unless_stop t o d m ≡ cycled c n → d.time ≡ c.time
time_is t None d c m n is = ap (λ (x : Next). (cycle_in x d).time) is
time_is t (Some p) d c m n is =
    let e : ended (stop p.0 t p.1) ≡ cycled c n = is in absurd cc

not_many : (t u : ℕ) (o : Option (ℕ × RuleStop)) (d : ACycle) (m : RunState) → unless_stop t o d m ≡ ended (too_many u) → ⊥
not_many t u None d m is =
    let e : cycled d m ≡ ended (too_many u) = is in cc
not_many t u (Some p) d m is =
    let e : stop p.0 t p.1 ≡ too_many u = ap verdict_in is in cc

cycled-time : (tree : Tree) (t : ℕ) (s n : RunState) (c : ACycle) → cycled_at tree t s ≡ cycled c n → t ≡ c.time
cycled-time tree t s n c is =
    let gave = output_bags t s.leaf_states in
    let top = at_top tree t s.events in
    let ms = moves tree t s.leaf_states gave top in
    time_is t (first_stop 0 ms) (cycle_of tree t gave top ms) c (state_after t s ms) n is

never-many : (tree : Tree) (t u : ℕ) (s : RunState) → cycled_at tree t s ≡ ended (too_many u) → ⊥
never-many tree t u s is =
    let gave = output_bags t s.leaf_states in
    let top = at_top tree t s.events in
    let ms = moves tree t s.leaf_states gave top in
    not_many t u (first_stop 0 ms) (cycle_of tree t gave top ms) (state_after t s ms) is

-- ---- a call for the next cycle

module _ (p : Processing) (t : ℕ) (p' p'' : Processing) (o o' : Order) (records : Records) where
  marks-by : (result : Result Progress Stop) → Starts None p (Ok (Cycle t)) p' → Steps (standing_at p' p.standing.state) result p''.standing records → MarksCycle p' o result o' → MarksBy (marking_of o) p.standing result (Some (marking_of o'))
  marks-by (Ok (progress.Cycled u)) starts step marks =
      let s = p.standing.state in
      let same = tree-same p.standing p'.standing starts.keeps in
      let time : t ≡ u = cycled-time (tree_on p') t s p''.standing.state step.cycle (sym starts.cycle.next ∙ step.next) ∙ step.time in
      let begins : p'.service ≡ service_at_start (instant_of (tree_on p') t s) = starts.begun_at ∙ ap (λ (tree : Tree). service_at_start (instant_of tree t s)) (sym same) in
      let is = marks s t starts.cycle begins in
      ap (λ (m : Marking). Some m) (is ∙ (λ i. marking_behind (same i) (time i) s (marking_of o)))
  marks-by (Ok progress.Done) starts step marks = absurd marks
  marks-by (Err (NoTrueRule leaf u)) starts step marks = tt
  marks-by (Err (Overflow leaf u)) starts step marks = tt
  marks-by (Err (BadDelay leaf u delay)) starts step marks = tt
  marks-by (Err (TooManyCycles u)) starts step marks = absurd (never-many (tree_on p') t u p.standing.state (sym starts.cycle.next ∙ step.next))
  marks-by (Err Memory) starts step marks = tt

  pub marks-behind : (w : Option Stop) (result : Result Progress Stop) → Starts w p (Ok (Cycle t)) p' → EndsCycle p' result p'' records → MarksCycle p' o result o' → Marks (Some (marking_of o)) w p.standing result (Some (marking_of o'))
  marks-behind None result starts ends marks = marks-by result starts (ends p.standing.state t starts.cycle) marks
  marks-behind (Some why) result starts ends marks =
      let e : ◌≡◌ {A = Result Started Stop} (Ok (Cycle t)) (Err why) = starts.0 in absurd cc

-- nothing was served
pub marks-stop : (m : Marking) (w : Option Stop) (s : Standing) (why : Stop) → Marks (Some m) w s (Err why) (Some m)
marks-stop m (Some before) s why = refl
marks-stop m None s (NoTrueRule leaf t) = tt
marks-stop m None s (Overflow leaf t) = tt
marks-stop m None s (BadDelay leaf t delay) = tt
marks-stop m None s (TooManyCycles t) = refl
marks-stop m None s Memory = tt

pub marks-done : (m : Marking) (w : Option Stop) (s : Standing) → Marks (Some m) w s (Ok progress.Done) (Some m)
marks-done m None s = refl
marks-done m (Some before) s = refl
