-- What the numbers of paths bring, and the order of the Y records.
use Rattle.std.proofs.Common.{◌≡◌, ℕ, zero, suc, ◌+◌, ◌<◌, ◌≤◌, Bool, true, false, cond, ◌||◌, eqb, eqb-true, eq-eqb, ltb-true, List, [], ◌∷◌, ◌++◌, map, length, get_or, refl, sym, ◌∙◌, ap, subst, arith}
use Rattle.std.specs.List.{filter, flat_map, list_any, range_with_len}
use Rattle.std.specs.List.Sorted.{IsNonDecreasingBy}
use Rattle.std.specs.Prelude.{⊤}
use Rattle.std.specs.Str.{bytes_eq}
use Rattle.std.proofs.lemmas.List.Elements.{filter-append}
use Rattle.std.proofs.lemmas.List.Folds.{flat_map-map}
use Rattle.std.proofs.lemmas.Bool.{and_parts}
use Rattle.quantity.specs.declared.value.Value.{Value}
use Rattle.cell_grid.proofs.Rising.{has, has-filter, has-range, same_answer, has-from_Contains}
use Rattle.atomic_face.specs.Classes.{Bag}
use Rattle.model_tree.specs.Tree.{Word}
use Rattle.model_tree.specs.Pull.{Source, leaf_source, top_source}
use Rattle.run_model.specs.Cycle.{LeafState, collected_of}
use Rattle.run_model.specs.Run.{PortRecord, port_records, is_of_out}
use Rattle.sparse_cycle.specs.Sparse.{Path, leaf_of, is_due, due_leaves, given_by, given_among, records_at, has_some, brings, fed_by}
use Rattle.sparse_cycle.specs.Laws.{path_at}
use Rattle.sparse_cycle.proofs.Numbers.{paths-by-number}
use Rattle.sparse_cycle.specs.Collect.{y_of}
use Rattle.sparse_cycle.specs.Feed.{input_name, values_of, reaches}
use Rattle.sparse_cycle.specs.Feed.{FeedsByNumber, NumbersAreWithin, YShowsGiven, YRises}

eqb-comm : (a b : ℕ) → eqb a b ≡ eqb b a
eqb-comm a b = same_answer (eqb a b) (eqb b a) (λ e. eq-eqb b a (sym (eqb-true a b e))) (λ e. eq-eqb a b (sym (eqb-true b a e)))

or-false : (b : Bool) → (b || false) ≡ b
or-false true = refl
or-false false = refl

any-none : {A : Type 0} (xs : List A) → list_any (λ (x : A). false) xs ≡ false
any-none [] = refl
any-none (x ∷ xs) = any-none xs

some-by : {A : Type 0} (f : A → Value) (b : Bool) (x : A) (xs : List A) → has_some (map f (cond b (x ∷ xs) xs)) ≡ (b || has_some (map f xs))
some-by f true x xs = refl
some-by f false x xs = refl

some-any : {A : Type 0} (f : A → Value) (test : A → Bool) (xs : List A) → has_some (map f (filter test xs)) ≡ list_any test xs
some-any f test [] = refl
some-any f test (x ∷ xs) = some-by f (test x) x (filter test xs) ∙ ap (λ b. test x || b) (some-any f test xs)

module _ (ins : List Word) (y : List PortRecord) (inputs : List (ℕ × Value)) where
  from-source : (to port : ℕ) (s : Source) → has_some (values_of ins y inputs s) ≡ reaches ins y inputs (record { to = to; port = port; source = s })
  from-source to port (leaf_source l) =
      some-any (λ (r : PortRecord). r.value) (λ (r : PortRecord). eqb r.leaf l) y
      ∙ (λ i. list_any (λ (r : PortRecord). eqb-comm r.leaf l i) y)
      ∙ sym (or-false (list_any (λ (r : PortRecord). eqb l r.leaf) y))
      ∙ ap (λ b. list_any (λ (r : PortRecord). eqb l r.leaf) y || b) (sym (any-none inputs))
  from-source to port (top_source name) =
      some-any (λ (e : ℕ × Value). e.1) (λ (e : ℕ × Value). bytes_eq name (input_name ins e.0)) inputs
      ∙ ap (λ b. b || list_any (λ (e : ℕ × Value). bytes_eq name (input_name ins e.0)) inputs) (sym (any-none y))

  brings-reaches : (p : Path) → brings (values_of ins y inputs) p ≡ reaches ins y inputs p
  brings-reaches p = from-source p.to p.port p.source

pub feeds-by-number : FeedsByNumber
feeds-by-number ins ps y inputs =
    let from = values_of ins y inputs in
    (λ i. flat_map (λ k. fed_by from (path_at ps k)) (filter (λ k. sym (brings-reaches ins y inputs (path_at ps k)) i) (range_with_len 0 (length ps))))
    ∙ sym (flat_map-map (fed_by from) (path_at ps) (filter (λ k. brings from (path_at ps k)) (range_with_len 0 (length ps))))
    ∙ ap (flat_map (fed_by from)) (paths-by-number (brings from) ps)

pub numbers-are-within : NumbersAreWithin
numbers-are-within test ps k d lt =
    let all = range_with_len 0 (length ps) in
    let t = λ (k : ℕ). test (path_at ps k) in
    let n = get_or (filter t all) k d in
    let parts = and_parts (has all n) (t n) (sym (has-filter t all n) ∙ has-from_Contains (filter t all) n (k, lt, default (filter t all) k d n lt)) in
    ltb-true n (length ps) (sym (has-range (length ps) n) ∙ parts.0)
  where
    default : (zs : List ℕ) (k : ℕ) (d e : ℕ) → k < length zs → get_or zs k e ≡ get_or zs k d
    default [] k d e lt = absurd (omega (arith, lt))
    default (z ∷ zs) zero d e lt = refl
    default (z ∷ zs) (suc k) d e lt = default zs k d e (omega (arith, lt))

-- ---- Y records

y-by : (l : ℕ) (out here : Bool) (r : PortRecord) (rs : List PortRecord) → here ≡ eqb r.leaf l → out ≡ is_of_out r
    → map (λ (r : PortRecord). r.value) (filter (λ (r : PortRecord). eqb r.leaf l) (filter is_of_out rs)) ≡ map (λ (r : PortRecord). r.value) (filter is_of_out (records_at l rs))
    → map (λ (r : PortRecord). r.value) (filter (λ (r : PortRecord). eqb r.leaf l) (cond out (r ∷ filter is_of_out rs) (filter is_of_out rs)))
    ≡ map (λ (r : PortRecord). r.value) (filter is_of_out (cond here (r ∷ records_at l rs) (records_at l rs)))
y-by l true true r rs is-here is-out rest =
    (λ i. map (λ (r : PortRecord). r.value) (cond (sym is-here i) (r ∷ filter (λ (r : PortRecord). eqb r.leaf l) (filter is_of_out rs)) (filter (λ (r : PortRecord). eqb r.leaf l) (filter is_of_out rs))))
    ∙ ap (λ vs. r.value ∷ vs) rest
    ∙ (λ i. map (λ (r : PortRecord). r.value) (cond (is-out i) (r ∷ filter is_of_out (records_at l rs)) (filter is_of_out (records_at l rs))))
y-by l true false r rs is-here is-out rest =
    (λ i. map (λ (r : PortRecord). r.value) (cond (sym is-here i) (r ∷ filter (λ (r : PortRecord). eqb r.leaf l) (filter is_of_out rs)) (filter (λ (r : PortRecord). eqb r.leaf l) (filter is_of_out rs))))
    ∙ rest
y-by l false true r rs is-here is-out rest =
    rest ∙ (λ i. map (λ (r : PortRecord). r.value) (cond (is-out i) (r ∷ filter is_of_out (records_at l rs)) (filter is_of_out (records_at l rs))))
y-by l false false r rs is-here is-out rest = rest

pub y-shows-given : YShowsGiven
y-shows-given l [] = refl
y-shows-given l (r ∷ rs) = y-by l (is_of_out r) (eqb r.leaf l) r rs refl refl (y-shows-given l rs)

-- from a leaf on, by rising leaf
RisesFrom : ℕ → List PortRecord → Type 0
RisesFrom k [] = ⊤
RisesFrom k (r ∷ rs) = (k ≤ r.leaf) × RisesFrom r.leaf rs

weaker : (j k : ℕ) (rs : List PortRecord) → j ≤ k → RisesFrom k rs → RisesFrom j rs
unfolding RisesFrom
weaker j k [] le h = tt
weaker j k (r ∷ rs) le h = let low = h.0 in (omega (arith, le, low), h.1)

low : (k : ℕ) (rs : List PortRecord) → RisesFrom k rs → (j : ℕ) (d : PortRecord) → j < length rs → k ≤ (get_or rs j d).leaf
unfolding RisesFrom
low k [] h j d lt = absurd (omega (arith, lt))
low k (r ∷ rs) h zero d lt = h.0
low k (r ∷ rs) h (suc j) d lt = let first = h.0 in let later = low r.leaf rs h.1 j d (omega (arith, lt)) in omega (arith, first, later)

rising : (k : ℕ) (rs : List PortRecord) → RisesFrom k rs → IsNonDecreasingBy (λ (r : PortRecord). r.leaf) rs
unfolding RisesFrom
rising k [] h i j d le lt = absurd (omega (arith, lt))
rising k (r ∷ rs) h zero zero d le lt = omega arith
rising k (r ∷ rs) h zero (suc j) d le lt = low r.leaf rs h.1 j d (omega (arith, lt))
rising k (r ∷ rs) h (suc i) zero d le lt = absurd (omega (arith, le))
rising k (r ∷ rs) h (suc i) (suc j) d le lt = rising r.leaf rs h.1 i j d (omega (arith, le)) (omega (arith, lt))

one-by : (l : ℕ) (b : Bool) (r : PortRecord) (rs : List PortRecord) (rest : List PortRecord) → r.leaf ≡ l → RisesFrom l (rs ++ rest) → RisesFrom l (cond b (r ∷ rs) rs ++ rest)
unfolding RisesFrom
one-by l true r rs rest is h = (omega (arith, is), subst (λ k. RisesFrom k (rs ++ rest)) (sym is) h)
one-by l false r rs rest is h = h

leaf-rises : (l : ℕ) (bag : Bag) (rest : List PortRecord) → RisesFrom l rest → RisesFrom l (y_of (port_records (l, bag)) ++ rest)
leaf-rises l [] rest h = h
leaf-rises l (o ∷ os) rest h =
    one-by l (eqb o.0.0 0) (record { leaf = l; port = o.0.0; value = o.1 }) (filter is_of_out (port_records (l, os))) rest refl (leaf-rises l os rest h)

module _ (t : ℕ) (all : List LeafState) where
  step-rises : (k : ℕ) (ls : List ℕ) (b : Bool) → RisesFrom (k + 1) (y_of (given_among t all ls)) → RisesFrom k (y_of (given_among t all (cond b (k ∷ ls) ls)))
  step-rises k ls true h =
      subst (RisesFrom k) (sym (filter-append is_of_out (given_by t all k) (given_among t all ls)))
      (leaf-rises k (collected_of t (leaf_of all k)) (y_of (given_among t all ls)) (weaker k (k + 1) (y_of (given_among t all ls)) (omega arith) h))
  step-rises k ls false h = weaker k (k + 1) (y_of (given_among t all ls)) (omega arith) h

  from-rises : (k n : ℕ) → RisesFrom k (y_of (given_among t all (filter (is_due t all) (range_with_len k n))))
  unfolding RisesFrom
  from-rises k zero = tt
  from-rises k (suc n) = step-rises k (filter (is_due t all) (range_with_len (k + 1) n)) (is_due t all k) (from-rises (k + 1) n)

pub y-rises : YRises
y-rises t states = rising 0 (y_of (given_among t states (due_leaves t states))) (from-rises t states 0 (length states))
