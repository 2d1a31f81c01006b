-- The X records of a cycle, and that they stand by rising leaf.
use Rattle.std.proofs.Common.{◌≡◌, ℕ, zero, suc, ◌+◌, ◌<◌, ◌≤◌, Bool, true, false, cond, List, [], ◌∷◌, ◌++◌, map, length, get_or, refl, sym, ◌∙◌, subst, arith}
use Rattle.std.specs.Prelude.{⊤}
use Rattle.std.specs.List.{All, AllByRecursion, filter, flat_map, enumerate_from}
use Rattle.std.specs.List.Sorted.{IsNonDecreasingBy}
use Rattle.quantity.specs.declared.value.Value.{Value}
use Rattle.model_tree.specs.Tree.{Tree, ins_of}
use Rattle.model_tree.specs.Pull.{Source, leaf_source, top_source, sources}
use Rattle.run_model.specs.Run.{PortRecord, RunState, at_top}
use Rattle.sparse_cycle.specs.Sparse.{Path, paths, paths_to_port, paths_to_leaf, given_among, due_leaves, from_source, brings, fed_by, fed_among, cycle_parts}
use Rattle.sparse_cycle.proofs.Feeding.{feeds-by-number, y-shows-given}
use Rattle.sparse_cycle.proofs.TopInputs.{top-by-number}
use Rattle.sparse_cycle.specs.Collect.{y_of}
use Rattle.sparse_cycle.specs.Feed.{AreDistinct, AreAtInputs, values_of}
use Rattle.sparse_cycle.specs.Feed.{y_at, inputs_at, FeedsParts, XRises}

pub values-are : (tree : Tree) (t : ℕ) (s : RunState) → AreDistinct (ins_of tree) → AreAtInputs (ins_of tree) s.events
    → (w : Source) → values_of (ins_of tree) (y_of (given_among t s.leaf_states (due_leaves t s.leaf_states))) (inputs_at t s.events) w ≡ from_source (given_among t s.leaf_states (due_leaves t s.leaf_states)) (at_top tree t s.events) w
values-are tree t s distinct within (leaf_source l) = y-shows-given l (given_among t s.leaf_states (due_leaves t s.leaf_states))
values-are tree t s distinct within (top_source name) = top-by-number tree t s.events name distinct within

pub fed-is : (tree : Tree) (t : ℕ) (s : RunState) → AreDistinct (ins_of tree) → AreAtInputs (ins_of tree) s.events
    → (let from = values_of (ins_of tree) (y_of (given_among t s.leaf_states (due_leaves t s.leaf_states))) (inputs_at t s.events) in
    fed_among from (filter (brings from) (paths tree)) ≡ (cycle_parts tree t s).fed)
fed-is tree t s distinct within =
    λ i. fed_among (λ w. values-are tree t s distinct within w i) (filter (brings (λ w. values-are tree t s distinct within w i)) (paths tree))

pub feeds-parts : FeedsParts
feeds-parts tree t s distinct within =
    feeds-by-number (ins_of tree) (paths tree) (y_at t s) (inputs_at t s.events) ∙ fed-is tree t s distinct within

-- ---- by rising leaf

module _ {A : Type 0} (n : A → ℕ) where
  abbrev Rises : ℕ → List A → Type 0
  Rises k [] = ⊤
  Rises k (z ∷ zs) = (k ≤ n z) × Rises (n z) zs

  weaker : (j k : ℕ) (zs : List A) → j ≤ k → Rises k zs → Rises j zs
  weaker j k [] le h = tt
  weaker j k (z ∷ zs) le h = let low = h.0 in (omega (arith, le, low), h.1)

  low : (k : ℕ) (zs : List A) → Rises k zs → (j : ℕ) (d : A) → j < length zs → k ≤ n (get_or zs j d)
  low k [] h j d lt = absurd (omega (arith, lt))
  low k (z ∷ zs) h zero d lt = h.0
  low k (z ∷ zs) h (suc j) d lt = let first = h.0 in let later = low (n z) zs h.1 j d (omega (arith, lt)) in omega (arith, first, later)

  rising : (k : ℕ) (zs : List A) → Rises k zs → IsNonDecreasingBy n zs
  rising k [] h i j d le lt = absurd (omega (arith, lt))
  rising k (z ∷ zs) h zero zero d le lt = omega arith
  rising k (z ∷ zs) h zero (suc j) d le lt = low (n z) zs h.1 j d (omega (arith, lt))
  rising k (z ∷ zs) h (suc i) zero d le lt = absurd (omega (arith, le))
  rising k (z ∷ zs) h (suc i) (suc j) d le lt = rising (n z) zs h.1 i j d (omega (arith, le)) (omega (arith, lt))

  kept-by : (k : ℕ) (b : Bool) (z : A) (zs : List A) → k ≤ n z → Rises (n z) zs → Rises k (cond b (z ∷ zs) zs)
  kept-by k true z zs le h = (le, h)
  kept-by k false z zs le h = weaker k (n z) zs le h

  kept : (p : A → Bool) (k : ℕ) (zs : List A) → Rises k zs → Rises k (filter p zs)
  kept p k [] h = tt
  kept p k (z ∷ zs) h = kept-by k (p z) z (filter p zs) h.0 (kept p (n z) zs h.1)

  same-then : (l : ℕ) (zs rest : List A) → AllByRecursion (λ z. n z ≡ l) zs → Rises l rest → Rises l (zs ++ rest)
  same-then l [] rest all h = h
  same-then l (z ∷ zs) rest all h =
      let is = all.0 in (omega (arith, is), subst (λ k. Rises k (zs ++ rest)) (sym is) (same-then l zs rest all.1 h))

pub all-append : {A : Type 0} (P : A → Type 0) (a b : List A) → AllByRecursion P a → AllByRecursion P b → AllByRecursion P (a ++ b)
all-append P [] b h k = k
all-append P (x ∷ xs) b h k = (h.0, all-append P xs b h.1 k)

unfoldable pub to_of : Path → ℕ
to_of p = p.to

leaf_of_record : PortRecord → ℕ
leaf_of_record r = r.leaf

port-paths : (l port : ℕ) (ss : List Source) → AllByRecursion (λ p. to_of p ≡ l) (paths_to_port l (port, ss))
unfolding to_of
port-paths l port [] = tt
port-paths l port (s ∷ ss) = (refl, port-paths l port ss)

pub leaf-paths : (l k : ℕ) (ports : List (List Source)) → AllByRecursion (λ p. to_of p ≡ l) (flat_map (paths_to_port l) (enumerate_from k ports))
leaf-paths l k [] = tt
leaf-paths l k (ss ∷ ports) =
    all-append (λ p. to_of p ≡ l) (paths_to_port l (k, ss)) (flat_map (paths_to_port l) (enumerate_from (k + 1) ports)) (port-paths l k ss) (leaf-paths l (k + 1) ports)

all-paths : (k : ℕ) (ls : List (List (List Source))) → Rises to_of k (flat_map paths_to_leaf (enumerate_from k ls))
all-paths k [] = tt
all-paths k (ports ∷ ls) =
    let rest = flat_map paths_to_leaf (enumerate_from (k + 1) ls) in
    same-then to_of k (paths_to_leaf (k, ports)) rest (leaf-paths k 0 ports) (weaker to_of k (k + 1) rest (omega arith) (all-paths (k + 1) ls))

module _ (from : Source → List Value) where
  one-fed : (p : Path) (vs : List Value) → AllByRecursion (λ r. leaf_of_record r ≡ to_of p) (map (λ v. let r : PortRecord = record { leaf = p.to; port = p.port; value = v } in r) vs)
  unfolding to_of leaf_of_record
  one-fed p [] = tt
  one-fed p (v ∷ vs) = (refl, one-fed p vs)

  all-fed : (k : ℕ) (ps : List Path) → Rises to_of k ps → Rises leaf_of_record k (fed_among from ps)
  all-fed k [] h = tt
  all-fed k (p ∷ ps) h =
      let rest = fed_among from ps in
      weaker leaf_of_record k (to_of p) (fed_by from p ++ rest) h.0
      (same-then leaf_of_record (to_of p) (fed_by from p) rest (one-fed p (from p.source)) (all-fed (to_of p) ps h.1))

pub x-rises : XRises
unfolding leaf_of_record
x-rises tree from test =
    rising leaf_of_record 0 (fed_among from (filter test (paths tree))) (all-fed from 0 (filter test (paths tree)) (kept to_of test 0 (paths tree) (all-paths 0 (sources tree))))

pub all-at : {A : Type 0} (P : A → Type 0) (xs : List A) → AllByRecursion P xs → All P xs
all-at P [] h k d lt = absurd (omega (arith, lt))
all-at P (x ∷ xs) h zero d lt = h.0
all-at P (x ∷ xs) h (suc k) d lt = all-at P xs h.1 k d (omega (arith, lt))
