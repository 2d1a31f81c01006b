-- A run's log is drawable.
use Rattle.std.proofs.Common.{◌≡◌, ℕ, ◌+◌, ◌≤◌, Bool, true, None, List, [], ◌∷◌, refl, sym, ap, ◌∙◌, subst, arith, length, map, nat_lt, nat_le}
use Rattle.std.proofs.lemmas.List.{length-map}
use Rattle.std.specs.List.{list_all, flat_map, enumerate_from}
use Rattle.std.proofs.lemmas.List.Folds.{list_all-append}
use Rattle.std.proofs.lemmas.Bool.Decides.{nat_tests}
use Rattle.quantity.specs.declared.value.Value.{Value}
use Rattle.atomic_face.specs.Classes.{Bag}
use Rattle.cell_grid.specs.Space.{Space}
use Rattle.model_tree.specs.Tree.{Word, Tree, leaves}
use Rattle.run_model.specs.Cycle.{LeafState, initial_leaf, collected_of, output_bags, Moved, all_after}
use Rattle.run_model.specs.Run.{PortRecord, Cycle, RunState, Verdict, cycle_of, at_top, state_after, start, port_records, records_of_bags, is_of_out}
use Rattle.run_model.specs.Runs.{Runs, ends, goes}
use Rattle.run_model.specs.Instants.{InstantsNeverFall}
use Rattle.run_model.proofs.Steps.{moves_at, is_cycled}
use Rattle.run_model.proofs.WaitingCycle.{start-stands}
use Rattle.run_model.proofs.Ends.{instants-of-runs}
use Rattle.text_forms.specs.DrawnLines.{AreDrawable, never_fall, have_leaves}
use Rattle.quantity.proofs.Written.{and_true}
use Rattle.text_forms.proofs.Drawn.{all_kept, drawn_from_cycles}
use Rattle.answer_model.specs.Cdpp.{run_on}
use Rattle.answer_model.specs.DrawnRuns.{DrawnAgrees}
use Rattle.answer_model.proofs.Resumes.{is_run}

-- ---- each record is of a leaf

abbrev is_below : ℕ → PortRecord → Bool
is_below m r = nat_lt r.leaf m

bag_below : (m k : ℕ) (b : Bag) → nat_lt k m ≡ true → list_all (is_below m) (port_records (k, b)) ≡ true
bag_below m k [] h = refl
bag_below m k (o ∷ os) h = and_true _ _ h (bag_below m k os h)

bags_below : (m k : ℕ) (bags : List Bag) → k + length bags ≤ m → list_all (is_below m) (flat_map port_records (enumerate_from k bags)) ≡ true
bags_below m k [] h = refl
bags_below m k (b ∷ bs) h =
    let here : nat_lt k m ≡ true = grind (arith, nat_tests) in
    list_all-append (is_below m) (port_records (k, b)) (flat_map port_records (enumerate_from (k + 1) bs)) ∙ and_true _ _ (bag_below m k b here) (bags_below m (k + 1) bs (omega arith))

cycle_leaves : (tree : Tree) (t : ℕ) (s : RunState) (ms : List Moved) (top : Word → List Value) → length s.leaf_states ≤ length (leaves tree) → have_leaves (leaves tree) (cycle_of tree t (output_bags t s.leaf_states) top ms) ≡ true
cycle_leaves tree t s ms top le =
    let gave = output_bags t s.leaf_states in
    let same : length gave ≡ length s.leaf_states = length-map s.leaf_states (collected_of t) in
    all_kept (is_below (length (leaves tree))) is_of_out (records_of_bags gave) (bags_below (length (leaves tree)) 0 gave (omega arith))

all_after_short : (ss : List LeafState) (ms : List Moved) → length (all_after ss ms) ≤ length ss
all_after_short [] ms = omega arith
all_after_short (s ∷ ss) [] = omega arith
all_after_short (s ∷ ss) (m ∷ ms) = omega (arith, all_after_short ss ms)

runs_leaves : (tree : Tree) (end limit : ℕ) (s l : RunState) (cs : List Cycle) (v : Verdict) → length s.leaf_states ≤ length (leaves tree) → Runs tree end limit s cs v l → list_all (have_leaves (leaves tree)) cs ≡ true
runs_leaves tree end limit s l _ v le (ends e) = refl
runs_leaves tree end limit s l _ v le (goes {n} {c} {cs} e q) =
    let k = is_cycled tree end limit s n c e in
    let ms = moves_at tree k.0 s in
    let short = all_after_short s.leaf_states ms in
    let fewer : length (state_after k.0 s ms).leaf_states ≤ length (leaves tree) = omega arith in
    and_true _ _ (ap (have_leaves (leaves tree)) k.1.cycle ∙ cycle_leaves tree k.0 s ms (at_top tree k.0 s.events) le)
    (runs_leaves tree end limit n l cs v (subst (λ (r : RunState). length r.leaf_states ≤ length (leaves tree)) (sym k.1.next) fewer) q)

-- ---- instants never fall

falls_never : (low : ℕ) (cs : List Cycle) → InstantsNeverFall low cs → never_fall low cs ≡ true
falls_never low [] h = refl
falls_never low (c ∷ cs) h = and_true _ _ (here c.time h.0) (falls_never c.time cs h.1)
  where
    here : (t : ℕ) → low ≤ t → nat_le low t ≡ true
    here t le = grind (arith, nat_tests)

-- ---- the log of a run

pub drawn_agrees : DrawnAgrees
drawn_agrees tree events end limit letters name g p d y same =
    let r = run_on tree events end limit None in
    let runs = is_run tree events limit end None tt in
    let begun : length (map initial_leaf (leaves tree)) ≡ length (leaves tree) = length-map (leaves tree) initial_leaf in
    let drawable : AreDrawable g.1.space name g.0 (leaves tree) r.cycles = record {
      names = d.names;
      lines = d.lines;
      times = falls_never 0 r.cycles (instants-of-runs tree end limit 0 (start tree events) r.left r.cycles r.verdict (start-stands tree events limit) runs).never_fall;
      leaves = runs_leaves tree end limit (start tree events) r.left r.cycles r.verdict (omega arith) runs;
    } in
    drawn_from_cycles tree r.cycles letters name g.0 p (subst (λ (space : Space). AreDrawable space name g.0 (leaves tree) r.cycles) (sym same) drawable) y
