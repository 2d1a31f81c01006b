-- A cell is woken just where it watches a cell that gave output.
use Rattle.std.proofs.Common.{◌≡◌, ℕ, zero, suc, ◌+◌, ◌<◌, ◌≤◌, Bool, true, false, ◌&&◌, ◌||◌, eqb, eq-eqb, ne_eqb, Option, Some, None, List, [], ◌∷◌, refl, sym, ◌∙◌, ap, ⊎_elim, ◌≢◌, arith}
use Rattle.std.specs.Option.{option_map}
use Rattle.std.specs.List.{list_any, range_with_len}
use Rattle.std.proofs.lemmas.Bool.{cases_eq}
use Rattle.quantity.specs.declared.place.Offset.{Offset}
use Rattle.cell_grid.specs.Space.{cell_count, neighbour}
use Rattle.cell_grid.specs.Watched.{is_this_cell}
use Rattle.cell_grid.proofs.Opposites.{neighbour-inside}
use Rattle.sparse_cycle.specs.Sparse.{gave_there}
use Rattle.sparse_cycle.specs.Woken.{WokenWatch}

and-false : (a : Bool) → (a && false) ≡ false
and-false true = refl
and-false false = refl

spread : (g a r : Bool) (x y : Bool) → ((g && (a || r)) || (x || y)) ≡ (((g && a) || x) || ((g && r) || y))
spread true true true x y = refl
spread true true false x y = refl
spread true false true true y = refl
spread true false true false y = refl
spread true false false x y = refl
spread false a r x y = refl

none-of : (G : ℕ → Bool) (cs : List ℕ) → list_any (λ c. G c && false) cs ≡ false
none-of G [] = refl
none-of G (c ∷ cs) = λ i. and-false (G c) i || none-of G cs i

both-of : (G A R : ℕ → Bool) (cs : List ℕ) → list_any (λ c. G c && (A c || R c)) cs ≡ (list_any (λ c. G c && A c) cs || list_any (λ c. G c && R c) cs)
both-of G A R [] = refl
both-of G A R (c ∷ cs) =
    ap (λ x. (G c && (A c || R c)) || x) (both-of G A R cs) ∙ spread (G c) (A c) (R c) (list_any (λ c. G c && A c) cs) (list_any (λ c. G c && R c) cs)

below-none : (G : ℕ → Bool) (n k m : ℕ) → n < k → list_any (λ c. G c && eqb n c) (range_with_len k m) ≡ false
below-none G n k zero lt = refl
below-none G n k (suc m) lt =
    let off : (G k && eqb n k) ≡ false = ap (λ b. G k && b) (ne_eqb n k (λ e. omega (arith, e, lt))) ∙ and-false (G k) in
    λ i. off i || below-none G n (k + 1) m (omega (arith, lt)) i

or-false : (b : Bool) → (b || false) ≡ b
or-false true = refl
or-false false = refl

and-true : (b : Bool) → (b && true) ≡ b
and-true true = refl
and-true false = refl

just-one : (G : ℕ → Bool) (n k m : ℕ) → k ≤ n → n < k + m → list_any (λ c. G c && eqb n c) (range_with_len k m) ≡ G n
just-one G n k zero le lt = absurd (omega (arith, le, lt))
just-one G n k (suc m) le lt = ⊎_elim
    (λ (e : n ≡ k).
    let here : (G k && eqb n k) ≡ G n = ap (λ b. G k && b) (eq-eqb n k e) ∙ and-true (G k) ∙ ap G (sym e) in
    let rest = below-none G n (k + 1) m (omega (arith, e)) in
    (λ i. here i || rest i) ∙ or-false (G n))
    (λ (ne : n ≢ k).
    let off : (G k && eqb n k) ≡ false = ap (λ b. G k && b) (ne_eqb n k ne) ∙ and-false (G k) in
    λ i. off i || just-one G n (k + 1) m (omega (arith, le, ne)) (omega (arith, lt)) i)
    (cases_eq n k)

one-neighbour : (gave : Option ℕ → Bool) (first count : ℕ) → gave None ≡ false → (o : Option ℕ) → ((n : ℕ) → o ≡ Some n → n < count)
    → gave (option_map (λ n. first + n) o) ≡ list_any (λ c. gave (Some (first + c)) && is_this_cell c o) (range_with_len 0 count)
one-neighbour gave first count lacks None within = lacks ∙ sym (none-of (λ c. gave (Some (first + c))) (range_with_len 0 count))
one-neighbour gave first count lacks (Some n) within =
    let lt = within n refl in sym (just-one (λ c. gave (Some (first + c))) n 0 count (omega arith) (omega (arith, lt)))

module _ (gave : Option ℕ → Bool) (lacks : gave None ≡ false) (first count : ℕ) (next : Offset → Option ℕ) (within : (o : Offset) (n : ℕ) → next o ≡ Some n → n < count) where
  each-neighbour : (os : List Offset) → list_any (λ o. gave (option_map (λ n. first + n) (next o))) os ≡ list_any (λ c. gave (Some (first + c)) && list_any (λ o. is_this_cell c (next o)) os) (range_with_len 0 count)
  each-neighbour [] = sym (none-of (λ c. gave (Some (first + c))) (range_with_len 0 count))
  each-neighbour (o ∷ os) =
      (λ i. one-neighbour gave first count lacks (next o) (within o) i || each-neighbour os i)
      ∙ sym (both-of (λ c. gave (Some (first + c))) (λ c. is_this_cell c (next o)) (λ c. list_any (λ o. is_this_cell c (next o)) os) (range_with_len 0 count))

pub woken-watch : WokenWatch
woken-watch g first cell given here =
    each-neighbour (gave_there given) refl first (cell_count g.space) (neighbour g.space cell) (λ o n is. neighbour-inside g.space cell n o here is) g.offsets
