-- The rising numbers of the paths that bring something.
use Rattle.std.proofs.Common.{◌≡◌, ℕ, Bool, true, false, ◌||◌, ◌&&◌, eqb, ltb, List, [], ◌∷◌, length, refl, sym, ◌∙◌, ap}
use Rattle.std.specs.Ordering.{nat_cmp}
use Rattle.std.specs.List.{list_any, dedup, range_with_len}
use Rattle.std.specs.List.Sorted.{IsPermutation, IsSorted}
use Rattle.std.proofs.lemmas.List.Sorted.{list_any-IsPermutation}
use Rattle.std.proofs.lemmas.List.Kept.{IsStrictlyIncreasing-filter}
use Rattle.std.proofs.lemmas.Map.Keys.{IsStrictlyIncreasing-dedup, sorted_from_strictly_increasing}
use Rattle.quantity.specs.declared.value.Value.{Value}
use Rattle.cell_grid.proofs.Rising.{same_rising, has-dedup, has-filter, has-range, range-rises}
use Rattle.model_leaves.specs.declared.path.Path.{Path}
use Rattle.model_leaves.specs.declared.path.Source.TheVariants.{Leaf, TopIn}
use Rattle.run_model.specs.Run.{PortRecord}
use Rattle.quantity.specs.Bytes.{has_number}
use Rattle.cycle_steps.specs.Routed.{numbers, path_at, is_from, reaches}
use Rattle.cycle_steps.specs.Leading.{leads_from_leaf, leads_from_top}

among-numbers : (test : Path → Bool) (ps : List Path) (k : ℕ) → has_number (numbers test ps) k ≡ (ltb k (length ps) && test (path_at ps k))
among-numbers test ps k =
    has-filter (λ k. test (path_at ps k)) (range_with_len 0 (length ps)) k
    ∙ ap (λ b. b && test (path_at ps k)) (has-range (length ps) k)

any-none : {A : Type 0} (xs : List A) → list_any (λ (x : A). false) xs ≡ false
any-none [] = refl
any-none (x ∷ xs) = any-none xs

and-any : {A : Type 0} (b : Bool) (f : A → Bool) (xs : List A) → list_any (λ x. b && f x) xs ≡ (b && list_any f xs)
and-any true f xs = refl
and-any false f xs = any-none xs

and-or : (a x y : Bool) → ((a && x) || (a && y)) ≡ (a && (x || y))
and-or true x y = refl
and-or false x y = refl

leads : {A : Type 0} (test : A → Path → Bool) (ps : List Path) (k : ℕ) (xs : List A) → list_any (λ x. has_number (numbers (test x) ps) k) xs ≡ (ltb k (length ps) && list_any (λ x. test x (path_at ps k)) xs)
leads test ps k xs =
    (λ i. list_any (λ x. among-numbers (test x) ps k i) xs)
    ∙ and-any (ltb k (length ps)) (λ x. test x (path_at ps k)) xs

pub numbers-are : (ps : List Path) (y : List PortRecord) (inputs : List (ℕ × Value)) (found ordered left : List ℕ)
    → ((k : ℕ) → has_number found k ≡ (list_any (leads_from_leaf ps k) y || list_any (leads_from_top ps k) inputs))
    → IsPermutation found ordered → IsSorted nat_cmp ordered → left ≡ dedup eqb ordered → left ≡ numbers (reaches y inputs) ps
numbers-are ps y inputs found ordered left members moved rises kept =
    kept
    ∙ same_rising (dedup eqb ordered) (numbers (reaches y inputs) ps)
    (sorted_from_strictly_increasing (dedup eqb ordered) (IsStrictlyIncreasing-dedup ordered rises))
    (sorted_from_strictly_increasing (numbers (reaches y inputs) ps) (IsStrictlyIncreasing-filter (λ k. reaches y inputs (path_at ps k)) (range_with_len 0 (length ps)) (range-rises (length ps))))
    (λ k.
    has-dedup ordered k ∙ sym (list_any-IsPermutation (λ y. eqb y k) found ordered moved) ∙ members k
    ∙ (λ i. leads (λ (r : PortRecord) (p : Path). is_from (Leaf r.leaf) p) ps k y i || leads (λ (e : ℕ × Value) (p : Path). is_from (TopIn e.0) p) ps k inputs i)
    ∙ and-or (ltb k (length ps)) (list_any (λ (r : PortRecord). is_from (Leaf r.leaf) (path_at ps k)) y) (list_any (λ (e : ℕ × Value). is_from (TopIn e.0) (path_at ps k)) inputs)
    ∙ sym (among-numbers (reaches y inputs) ps k))
