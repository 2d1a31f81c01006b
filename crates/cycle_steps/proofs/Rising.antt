-- X records stand by rising leaf where the paths do.
use Rattle.std.proofs.Common.{ℕ, zero, suc, ◌<◌, ◌≤◌, Bool, true, false, cond, List, [], ◌∷◌, ◌++◌, map, length, get_or, sym, subst, arith}
use Rattle.std.specs.Prelude.{⊤}
use Rattle.std.specs.List.{filter, cons_option, flat_map}
use Rattle.std.specs.List.Sorted.{IsNonDecreasingBy}
use Rattle.quantity.specs.declared.value.Value.{Value}
use Rattle.model_leaves.specs.declared.path.Path.{Path}
use Rattle.model_leaves.specs.declared.path.Source.{Source}
use Rattle.model_leaves.specs.declared.path.TargetPort.{TargetPort}
use Rattle.model_leaves.specs.declared.path.TargetPort.TheVariants as target
use Rattle.run_model.specs.Run.{PortRecord}
use Rattle.text_forms.specs.declared.records.XRecord.{XRecord}
use Rattle.text_forms.specs.Held.{x_at}
use Rattle.cycle_steps.specs.Routed.{fed_to, fed_in, numbers}
use Rattle.cycle_steps.specs.Paths.{leaf_in, target_leaves}
use Rattle.cycle_steps.proofs.Halves.{flat-first, in-order}

module _ {A : Type 0} (n : A → ℕ) where
  abbrev Rises : ℕ → List A → Type 0
  Rises k [] = ⊤
  Rises k (z ∷ zs) = (k ≤ n z) × Rises (n z) zs

  weaker : (j k : ℕ) (zs : List A) → j ≤ k → Rises k zs → Rises j zs
  weaker j k [] le h = tt
  weaker j k (z ∷ zs) le h = let low = h.0 in (omega (arith, le, low), h.1)

  low : (k : ℕ) (zs : List A) → Rises k zs → (j : ℕ) (d : A) → j < length zs → k ≤ n (get_or zs j d)
  low k [] h j d lt = absurd (omega (arith, lt))
  low k (z ∷ zs) h zero d lt = h.0
  low k (z ∷ zs) h (suc j) d lt = let first = h.0 in let later = low (n z) zs h.1 j d (omega (arith, lt)) in omega (arith, first, later)

  rising : (k : ℕ) (zs : List A) → Rises k zs → IsNonDecreasingBy n zs
  rising k [] h i j d le lt = absurd (omega (arith, lt))
  rising k (z ∷ zs) h zero zero d le lt = omega arith
  rising k (z ∷ zs) h zero (suc j) d le lt = low (n z) zs h.1 j d (omega (arith, lt))
  rising k (z ∷ zs) h (suc i) zero d le lt = absurd (omega (arith, le))
  rising k (z ∷ zs) h (suc i) (suc j) d le lt = rising (n z) zs h.1 i j d (omega (arith, le)) (omega (arith, lt))

  risen : (k : ℕ) (zs : List A) → ((j : ℕ) (d : A) → j < length zs → k ≤ n (get_or zs j d)) → IsNonDecreasingBy n zs → Rises k zs
  risen k [] low h = tt
  risen k (z ∷ zs) low h =
      (low 0 z (omega arith), risen (n z) zs (λ j d lt. h 0 (suc j) d (omega arith) (omega (arith, lt))) (λ i j d le lt. h (suc i) (suc j) d (omega (arith, le)) (omega (arith, lt))))

leaf_of_x : XRecord → ℕ
leaf_of_x r = r.leaf

number : ℕ → ℕ
number k = k

module _ (t : ℕ) where
  values-then : (l port : ℕ) (vs : List Value) (rest : List PortRecord) → Rises leaf_of_x l (map (x_at t) rest) → Rises leaf_of_x l (map (x_at t) (map (λ v. let r : PortRecord = record { leaf = l; port = port; value = v } in r) vs ++ rest))
  unfolding leaf_of_x
  values-then l port [] rest h = h
  values-then l port (v ∷ vs) rest h = (omega arith, values-then l port vs rest h)

  one-rises : (to : TargetPort) (vs : List Value) (b : Bool) (k : ℕ) (rest : List PortRecord) (more : List ℕ) → Rises number k (cons_option (leaf_in to) more)
      → ((j : ℕ) → Rises number j more → Rises leaf_of_x j (map (x_at t) rest)) → Rises leaf_of_x k (map (x_at t) (cond b (fed_to to vs) [] ++ rest))
  unfolding number
  one-rises (target.Leaf l port) vs true k rest more h on =
      weaker leaf_of_x k l (map (x_at t) (fed_to (target.Leaf l port) vs ++ rest)) h.0 (values-then l port.0 vs rest (on l h.1))
  one-rises (target.Leaf l port) vs false k rest more h on = weaker leaf_of_x k l (map (x_at t) rest) h.0 (on l h.1)
  one-rises (target.TopOut o) vs true k rest more h on = on k h
  one-rises (target.TopOut o) vs false k rest more h on = on k h

  all-rise : (from : Source → List Value) (test : Path → Bool) (k : ℕ) (ps : List Path) → Rises number k (target_leaves ps)
      → Rises leaf_of_x k (map (x_at t) (flat_map (λ (p : Path). fed_to p.to (from p.from)) (filter test ps)))
  all-rise from test k [] h = tt
  all-rise from test k (p ∷ ps) h =
      let f = λ (p : Path). fed_to p.to (from p.from) in
      subst (λ (rs : List PortRecord). Rises leaf_of_x k (map (x_at t) rs)) (sym (flat-first f (test p) p (filter test ps)))
      (one-rises p.to (from p.from) (test p) k (flat_map f (filter test ps)) (target_leaves ps) h (λ j rises. all-rise from test j ps rises))

pub fed-rises : (t : ℕ) (from : Source → List Value) (test : Path → Bool) (ps : List Path) → IsNonDecreasingBy (λ (k : ℕ). k) (target_leaves ps) → IsNonDecreasingBy (λ (r : XRecord). r.leaf) (map (x_at t) (fed_in from ps (numbers test ps)))
unfolding number leaf_of_x
fed-rises t from test ps h =
    subst (λ (rs : List PortRecord). IsNonDecreasingBy (λ (r : XRecord). r.leaf) (map (x_at t) rs)) (sym (in-order (λ (p : Path). fed_to p.to (from p.from)) test ps))
    (rising leaf_of_x 0 (map (x_at t) (flat_map (λ (p : Path). fed_to p.to (from p.from)) (filter test ps))) (all-rise t from test 0 ps (risen number 0 (target_leaves ps) (λ j d lt. omega arith) h)))
