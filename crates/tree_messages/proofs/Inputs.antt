-- Values by rising inputs are a bag, and that of the events at an instant.
use Rattle.std.proofs.Common.{◌≡◌, ◌⊎◌, inl, inr, ℕ, zero, suc, ◌+◌, ◌<◌, ◌≤◌, Bool, true, false, cond, not, ◌&&◌, List, [], ◌∷◌, ◌++◌, map, length, refl, sym, ◌∙◌, ap, subst, arith, eq-eqb, ne_eqb}
use Rattle.std.specs.Prelude.{◌==◌, slice_get, unwrap_or}
use Rattle.std.specs.List.{All, filter, flat_map, enumerate_from, range_with_len}
use Rattle.std.specs.Ordering.{is_lt, nat_cmp}
use Rattle.std.proofs.lemmas.Bool.{cases_eq, cases_lt}
use Rattle.std.proofs.lemmas.Bool.Decides.{nat_tests}
use Rattle.std.proofs.lemmas.List.{map-append}
use Rattle.std.proofs.lemmas.Option.{unwrap_or-slice_get}
use Rattle.quantity.specs.declared.value.Value.{Value}
use Rattle.quantity.specs.declared.value.Value.TheVariants.{Undefined}
use Rattle.std.specs.Str.{bytes_eq}
use Rattle.event_list.specs.Events.{Event}
use Rattle.event_list.proofs.Sorting.{From, Rises, Rises-indexed, same}
use Rattle.model_tree.specs.Tree.{Word, Tree, ins_of}
use Rattle.run_model.specs.Cycle.{at_port, bag_of}
use Rattle.run_model.specs.Run.{at_top}
use Rattle.sparse_cycle.specs.Feed.{inputs_at, input_name, values_of_name, AreDistinct, AreAtInputs, TopByNumber}
use Rattle.served_tree.proofs.Finishing.{list-again}
use Rattle.tree_messages.specs.Starting.{at_input, input_of, of_input, values_at_input, SortsByInput, bag_of_inputs, AreInputsOf}

abbrev Input : Type 0
Input = ℕ × Value

-- ---- a test of the first

kept-first : (p : Input → Bool) (v : Input) (vs : List Input) → p v ≡ true
    → filter p (v ∷ vs) ≡ v ∷ filter p vs
kept-first p v vs e = ap (λ b. cond b (v ∷ filter p vs) (filter p vs)) e

left-first : (p : Input → Bool) (v : Input) (vs : List Input) → p v ≡ false
    → filter p (v ∷ vs) ≡ filter p vs
left-first p v vs e = ap (λ b. cond b (v ∷ filter p vs) (filter p vs)) e

-- ---- the values of the least input, and those behind

abbrev behind : ℕ → List Input → List Input
behind a vs = filter (λ v. not (input_of v == a)) vs

less : (a b : ℕ) (vs : List Input) → a ≤ b → From input_of b vs → From input_of a vs
less a b [] le h = tt
less a b (v ∷ vs) le h = let first = h.0 in (omega (arith, first, le), less a b vs le h.1)

none-of : (a : ℕ) (vs : List Input) → From input_of (suc a) vs → of_input a vs ≡ []
none-of a [] h = refl
none-of a (v ∷ vs) h =
    let first = h.0 in
    left-first (λ w. input_of w == a) v vs (ne_eqb v.0 a (λ e. omega (arith, e, first))) ∙ none-of a vs h.1

all-behind : (a : ℕ) (vs : List Input) → From input_of (suc a) vs → behind a vs ≡ vs
all-behind a [] h = refl
all-behind a (v ∷ vs) h =
    let first = h.0 in
    kept-first (λ w. not (input_of w == a)) v vs (ap not (ne_eqb v.0 a (λ e. omega (arith, e, first))))
    ∙ ap (λ l. v ∷ l) (all-behind a vs h.1)

split-first : (a : ℕ) (vs : List Input) → Rises input_of vs → From input_of a vs
    → vs ≡ of_input a vs ++ behind a vs
split-first a [] r h = refl
split-first a (v ∷ vs) r h = by (cases_eq v.0 a) (λ from. split-first a vs r.1 from)
  where
    by : (v.0 ≡ a) ⊎ (v.0 ≡ a → ⊥) → (From input_of a vs → vs ≡ of_input a vs ++ behind a vs)
        → v ∷ vs ≡ of_input a (v ∷ vs) ++ behind a (v ∷ vs)
    by (inl e) go =
        let rest : From input_of a vs = less a v.0 vs (omega (arith, e)) r.0 in
        ap (λ l. v ∷ l) (go rest)
        ∙ (λ i. sym (kept-first (λ w. input_of w == a) v vs (eq-eqb v.0 a e)) i ++ sym (left-first (λ w. not (input_of w == a)) v vs (ap not (eq-eqb v.0 a e))) i)
    by (inr ne) go =
        let first = h.0 in
        let all : From input_of (suc a) (v ∷ vs) = (let lt : suc a ≤ v.0 = omega (arith, first, ne) in lt, less (suc a) v.0 vs (omega (arith, first, ne)) r.0) in
        λ i. sym (none-of a (v ∷ vs) all) i ++ sym (all-behind a (v ∷ vs) all) i

-- what is left out leaves the others as they were
from-behind : (a : ℕ) (vs : List Input) → From input_of a vs → From input_of (suc a) (behind a vs)
from-behind a [] h = tt
from-behind a (v ∷ vs) h = by (cases_eq v.0 a) (from-behind a vs h.1)
  where
    by : (v.0 ≡ a) ⊎ (v.0 ≡ a → ⊥) → From input_of (suc a) (behind a vs)
        → From input_of (suc a) (behind a (v ∷ vs))
    by (inl e) rest =
        subst (From input_of (suc a)) (sym (left-first (λ w. not (input_of w == a)) v vs (ap not (eq-eqb v.0 a e))))
        rest
    by (inr ne) rest =
        let first = h.0 in
        subst (From input_of (suc a)) (sym (kept-first (λ w. not (input_of w == a)) v vs (ap not (ne_eqb v.0 a ne))))
        (let lt : suc a ≤ v.0 = omega (arith, first, ne) in lt, rest)

from-kept : (t a : ℕ) (vs : List Input) → From input_of t vs → From input_of t (behind a vs)
from-kept t a [] h = tt
from-kept t a (v ∷ vs) h = by (cases_eq v.0 a) (from-kept t a vs h.1)
  where
    by : (v.0 ≡ a) ⊎ (v.0 ≡ a → ⊥) → From input_of t (behind a vs)
        → From input_of t (behind a (v ∷ vs))
    by (inl e) rest =
        subst (From input_of t) (sym (left-first (λ w. not (input_of w == a)) v vs (ap not (eq-eqb v.0 a e)))) rest
    by (inr ne) rest =
        subst (From input_of t) (sym (kept-first (λ w. not (input_of w == a)) v vs (ap not (ne_eqb v.0 a ne)))) (h.0, rest)

rises-kept : (a : ℕ) (vs : List Input) → Rises input_of vs → Rises input_of (behind a vs)
rises-kept a [] r = tt
rises-kept a (v ∷ vs) r = by (cases_eq v.0 a) (rises-kept a vs r.1)
  where
    by : (v.0 ≡ a) ⊎ (v.0 ≡ a → ⊥) → Rises input_of (behind a vs)
        → Rises input_of (behind a (v ∷ vs))
    by (inl e) rest =
        subst (Rises input_of) (sym (left-first (λ w. not (input_of w == a)) v vs (ap not (eq-eqb v.0 a e)))) rest
    by (inr ne) rest =
        subst (Rises input_of) (sym (kept-first (λ w. not (input_of w == a)) v vs (ap not (ne_eqb v.0 a ne)))) (from-kept v.0 a vs r.0, rest)

abbrev Below : ℕ → List Input → Type 0
Below most [] = Unit {0}
Below most (v ∷ vs) = (v.0 < most) × Below most vs

below-kept : (most a : ℕ) (vs : List Input) → Below most vs → Below most (behind a vs)
below-kept most a [] h = tt
below-kept most a (v ∷ vs) h = by (cases_eq v.0 a) (below-kept most a vs h.1)
  where
    by : (v.0 ≡ a) ⊎ (v.0 ≡ a → ⊥) → Below most (behind a vs)
        → Below most (behind a (v ∷ vs))
    by (inl e) rest =
        subst (Below most) (sym (left-first (λ w. not (input_of w == a)) v vs (ap not (eq-eqb v.0 a e)))) rest
    by (inr ne) rest =
        subst (Below most) (sym (kept-first (λ w. not (input_of w == a)) v vs (ap not (ne_eqb v.0 a ne)))) (h.0, rest)

same-behind : (k a : ℕ) (vs : List Input) → (k ≡ a → ⊥) → of_input k (behind a vs) ≡ of_input k vs
same-behind k a [] apart = refl
same-behind k a (v ∷ vs) apart = by (cases_eq v.0 a) (same-behind k a vs apart)
  where
    by : (v.0 ≡ a) ⊎ (v.0 ≡ a → ⊥) → of_input k (behind a vs) ≡ of_input k vs
        → of_input k (behind a (v ∷ vs)) ≡ of_input k (v ∷ vs)
    by (inl e) rest =
        ap (of_input k) (left-first (λ w. not (input_of w == a)) v vs (ap not (eq-eqb v.0 a e)))
        ∙ rest
        ∙ sym (left-first (λ w. input_of w == k) v vs (ne_eqb v.0 k (λ f. apart (sym f ∙ e))))
    by (inr ne) rest =
        ap (of_input k) (kept-first (λ w. not (input_of w == a)) v vs (ap not (ne_eqb v.0 a ne)))
        ∙ ap (λ l. cond (v.0 == k) (v ∷ l) l) rest

-- ---- as a bag

at-one : (a : ℕ) (vs : List Input)
    → map at_input (of_input a vs) ≡ at_port (a, map (λ (v : Input). v.1) (of_input a vs))
at-one a [] = refl
at-one a (v ∷ vs) = by (cases_eq v.0 a) (at-one a vs)
  where
    by : (v.0 ≡ a) ⊎ (v.0 ≡ a → ⊥)
        → map at_input (of_input a vs) ≡ at_port (a, map (λ (w : Input). w.1) (of_input a vs))
        → map at_input (of_input a (v ∷ vs)) ≡ at_port (a, map (λ (w : Input). w.1) (of_input a (v ∷ vs)))
    by (inl e) rest =
        ap (map at_input) (kept-first (λ w. input_of w == a) v vs (eq-eqb v.0 a e))
        ∙ (λ i. (record { 0 = e i }, v.1) ∷ rest i)
        ∙ ap (λ l. at_port (a, map (λ (w : Input). w.1) l)) (sym (kept-first (λ w. input_of w == a) v vs (eq-eqb v.0 a e)))
    by (inr ne) rest =
        ap (map at_input) (left-first (λ w. input_of w == a) v vs (ne_eqb v.0 a ne))
        ∙ rest
        ∙ ap (λ l. at_port (a, map (λ (w : Input). w.1) l)) (sym (left-first (λ w. input_of w == a) v vs (ne_eqb v.0 a ne)))

over-range : {X : Type 0} (f g : ℕ → X) (a n : ℕ) → ((k : ℕ) → a ≤ k → f k ≡ g k)
    → map f (range_with_len a n) ≡ map g (range_with_len a n)
over-range f g a zero each = refl
over-range f g a (suc n) each =
    λ i. each a (omega arith) i ∷ over-range f g (a + 1) n (λ k le. each k (omega (arith, le))) i

no-more : (a : ℕ) (vs : List Input) → From input_of a vs → Below a vs → vs ≡ []
no-more a [] h b = refl
no-more a (v ∷ vs) h b = let x = h.0 in let y = b.0 in absurd (omega (arith, x, y))

grouped : (n a : ℕ) (vs : List Input) → Rises input_of vs → From input_of a vs → Below (a + n) vs
    → map at_input vs ≡ flat_map at_port (enumerate_from a (map (values_at_input vs) (range_with_len a n)))
grouped zero a vs r h b = ap (map at_input) (no-more a vs h (subst (λ m. Below m vs) (let e : a + 0 ≡ a = omega arith in e) b))
grouped (suc n) a vs r h b =
    let rest = grouped n (a + 1) (behind a vs) (rises-kept a vs r)
    (subst (λ m. From input_of m (behind a vs)) (let e : suc a ≡ a + 1 = omega arith in e) (from-behind a vs h))
    (subst (λ m. Below m (behind a vs)) (let e : a + suc n ≡ (a + 1) + n = omega arith in e) (below-kept (a + suc n) a vs b)) in
    ap (map at_input) (split-first a vs r h)
    ∙ map-append at_input (of_input a vs) (behind a vs)
    ∙ (λ i. at-one a vs i ++ rest i)
    ∙ ap (λ l. at_port (a, values_at_input vs a) ++ flat_map at_port (enumerate_from (a + 1) l))
    (over-range (values_at_input (behind a vs)) (values_at_input vs) (a + 1) n (λ k le.
    ap (map (λ (v : Input). v.1)) (same-behind k a vs (λ e. omega (arith, e, le)))))

all-from-zero : (vs : List Input) → From input_of 0 vs
all-from-zero [] = tt
all-from-zero (v ∷ vs) = (omega arith, all-from-zero vs)

all-below : (most : ℕ) (vs : List Input)
    → ((k : ℕ) → most ≤ k → of_input k vs ≡ []) → Below most vs
all-below most [] none = tt
all-below most (v ∷ vs) none = (by (cases_lt v.0 most), all-below most vs (λ k le. rest k le (cases_eq v.0 k)))
  where
    by : (v.0 < most) ⊎ (most ≤ v.0) → v.0 < most
    by (inl lt) = lt
    by (inr ge) =
        let here : v ∷ of_input v.0 vs ≡ [] = sym (kept-first (λ w. input_of w == v.0) v vs (eq-eqb v.0 v.0 refl)) ∙ none v.0 ge in
        absurd cc

    rest : (k : ℕ) → most ≤ k → (v.0 ≡ k) ⊎ (v.0 ≡ k → ⊥) → of_input k vs ≡ []
    rest k le (inl e) =
        let here : v ∷ of_input k vs ≡ [] = sym (kept-first (λ w. input_of w == k) v vs (eq-eqb v.0 k e)) ∙ none k le in
        absurd cc
    rest k le (inr ne) = sym (left-first (λ w. input_of w == k) v vs (ne_eqb v.0 k ne)) ∙ none k le

none-past : (most : ℕ) (vs : List Input) → Below most vs → (k : ℕ) → most ≤ k → of_input k vs ≡ []
none-past most [] b k le = refl
none-past most (v ∷ vs) b k le =
    let first = b.0 in
    left-first (λ w. input_of w == k) v vs (ne_eqb v.0 k (λ e. omega (arith, e, first, le))) ∙ none-past most vs b.1 k le

-- sorted values are a bag
pub sorted-bag : (old new : List Input) (count : ℕ) → SortsByInput old new → Below count old
    → map at_input new ≡ bag_of_inputs old count
sorted-bag old new count sorts below =
    grouped count 0 new (Rises-indexed input_of new sorts.rises) (all-from-zero new)
    (subst (λ m. Below m new) (let e : count ≡ 0 + count = omega arith in e)
    (all-below count new (λ k le. sorts.same k ∙ none-past count old below k le)))
    ∙ ap (λ l. flat_map at_port (enumerate_from 0 l))
    (over-range (values_at_input new) (values_at_input old) 0 count (λ k le. ap (map (λ (v : Input). v.1)) (sorts.same k)))

-- ---- events

inputs-below : (t count : ℕ) (es : List Event) → All (λ (e : Event). e.port < count) es
    → Below count (inputs_at t es)
inputs-below t count [] h = tt
inputs-below t count (e ∷ es) h =
    one (e.time == t) (h 0 e (omega arith)) (inputs-below t count es (λ k d lt. h (suc k) d (omega (arith, lt))))
  where
    one : (b : Bool) → e.port < count → Below count (inputs_at t es)
        → Below count (map (λ (x : Event). (x.port, x.value)) (cond b (e ∷ filter (λ (x : Event). x.time == t) es) (filter (λ (x : Event). x.time == t) es)))
    one true here rest = (here, rest)
    one false here rest = rest

-- what code takes is what the events put at the inputs
pub taken-inputs : (t : ℕ) (es : List Event) (new : List Input) → SortsByInput (inputs_at t es) new
    → AreInputsOf t es (map at_input new)
taken-inputs t es new sorts count h = sorted-bag (inputs_at t es) new count sorts (inputs-below t count es h)

-- ---- ties

tie-is : (a b : ℕ) → (not (is_lt (nat_cmp a b)) && not (is_lt (nat_cmp b a))) ≡ (b == a)
tie-is a b = grind (arith, nat_tests)

pub stable-same : (k : ℕ) (old new : List Input)
    → ((x : Input) → filter (same input_of x) new ≡ filter (same input_of x) old)
    → of_input k new ≡ of_input k old
stable-same k old new stable =
    ap (λ p. filter p new) (λ i (v : Input). sym (tie-is k v.0) i)
    ∙ stable (k, Undefined)
    ∙ ap (λ p. filter p old) (λ i (v : Input). tie-is k v.0 i)

-- ---- the inputs of top

by-name : (ins : List Word) (k : ℕ) (vs : List Input) → AreDistinct ins → k < length ins
    → Below (length ins) vs → values_of_name ins vs (input_name ins k) ≡ values_at_input vs k
by-name ins k [] distinct lt b = refl
by-name ins k (v ∷ vs) distinct lt b =
    let rest = by-name ins k vs distinct lt b.1 in
    let same : bytes_eq (input_name ins k) (input_name ins v.0) ≡ (v.0 == k) = distinct k v.0 lt b.0 in
    ap (λ c. map (λ (w : Input). w.1) (cond c (v ∷ filter (λ (w : Input). bytes_eq (input_name ins k) (input_name ins w.0)) vs) (filter (λ (w : Input). bytes_eq (input_name ins k) (input_name ins w.0)) vs))) same
    ∙ one (v.0 == k) rest
  where
    one : (c : Bool) → values_of_name ins vs (input_name ins k) ≡ values_at_input vs k
        → map (λ (w : Input). w.1) (cond c (v ∷ filter (λ (w : Input). bytes_eq (input_name ins k) (input_name ins w.0)) vs) (filter (λ (w : Input). bytes_eq (input_name ins k) (input_name ins w.0)) vs))
        ≡ map (λ (w : Input). w.1) (cond c (v ∷ of_input k vs) (of_input k vs))
    one true rest = ap (λ l. v.1 ∷ l) rest
    one false rest = rest

over-names : {X : Type 0} (f : Word → X) (g : ℕ → X) (ins : List Word) (a n : ℕ)
    → ((k : ℕ) → a ≤ k → k < a + n → f (input_name ins k) ≡ g k)
    → map f (map (input_name ins) (range_with_len a n)) ≡ map g (range_with_len a n)
over-names f g ins a zero each = refl
over-names f g ins a (suc n) each =
    λ i. each a (omega arith) (omega arith) i ∷ over-names f g ins (a + 1) n (λ k le lt. each k (omega (arith, le)) (omega (arith, lt))) i

names-again : (ins : List Word) → map (input_name ins) (range_with_len 0 (length ins)) ≡ ins
names-again ins =
    over-range (input_name ins) (λ l. unwrap_or (slice_get ins l) []) 0 (length ins) (λ k le. sym (unwrap_or-slice_get ins k []))
    ∙ list-again ins [] (length ins) refl

-- the bag is that of the definitions
pub inputs-are : TopByNumber → (tree : Tree) (t : ℕ) (es : List Event) (inputs : _) → AreDistinct (ins_of tree)
    → AreAtInputs (ins_of tree) es → AreInputsOf t es inputs
    → inputs ≡ bag_of (map (at_top tree t es) (ins_of tree))
inputs-are top tree t es inputs distinct there are =
    let ins = ins_of tree in
    are (length ins) there
    ∙ ap bag_of
    (sym (over-names (at_top tree t es) (values_at_input (inputs_at t es)) ins 0 (length ins) (λ k le lt.
    sym (top tree t es (input_name ins k) distinct there)
    ∙ by-name ins k (inputs_at t es) distinct (omega (arith, lt)) (inputs-below t (length ins) es there)))
    ∙ ap (map (at_top tree t es)) (names-again ins))
