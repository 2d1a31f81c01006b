-- Offsets that are gathered one by one are the first 129 of the different ones.
use Rattle.std.proofs.Common.{◌≡◌, ℕ, ◌≤◌, Bool, true, false, not, cond, ◌||◌, List, [], ◌∷◌, ◌++◌, length, take, nat_lt, min, refl, sym, ap, ◌∙◌, append-nil, append_assoc, arith, length-append}
use Rattle.std.specs.Prelude.{◌&&◌, ℤ, ◌-ℤ◌}
use Rattle.std.specs.List.{filter, list_any}
use Rattle.std.proofs.lemmas.Bool.{and_parts}
use Rattle.std.proofs.lemmas.List.{length-take, take_all, take-append-le}
use Rattle.std.proofs.lemmas.List.Folds.{list_any-append}
use Rattle.std.proofs.lemmas.Bool.Decides.{nat_tests}
use Rattle.std.proofs.lemmas.Int.{ints}
use Rattle.quantity.specs.Arithmetic.{is_zero}
use Rattle.quantity.specs.declared.place.Offset.{Offset}
use Rattle.rule_tree.specs.Scope.{same_offset}
use Rattle.cell_grid.proofs.Opposites as offsets
use Rattle.model_text.specs.Spaces.{distinct_offsets}
use Rattle.model_spaces.specs.Gathered.{offsets_with_all}

abbrev among : List Offset → Offset → Bool
among found p = list_any (λ q. same_offset q p) found

abbrev new : List Offset → Offset → Bool
new found p = not (among found p)

same_step : (x y : ℤ) → is_zero (x -ℤ y) ≡ true → x ≡ y
same_step x y e = grind (arith, ints, nat_tests)

same : (o p : Offset) → same_offset o p ≡ true → o ≡ p
same o p e =
    let all = and_parts (is_zero (o.row -ℤ p.row) && is_zero (o.column -ℤ p.column)) (is_zero (o.plane -ℤ p.plane)) e in
    let two = and_parts (is_zero (o.row -ℤ p.row)) (is_zero (o.column -ℤ p.column)) all.0 in
    offsets.same_offset o p (same_step o.row p.row two.0) (same_step o.column p.column two.1) (same_step o.plane p.plane all.1)

-- what passes two filters passes a third
twice : (p q r : Offset → Bool) → ((x : Offset) → r x ≡ (q x && p x)) → (xs : List Offset) → filter p (filter q xs) ≡ filter r xs
twice p q r is [] = refl
twice p q r is (x ∷ xs) = by (q x) (is x) (twice p q r is xs)
  where
    by : (b : Bool) → r x ≡ (b && p x) → filter p (filter q xs) ≡ filter r xs → filter p (cond b (x ∷ filter q xs) (filter q xs)) ≡ cond (r x) (x ∷ filter r xs) (filter r xs)
    by true e h = λ i. cond (sym e i) (x ∷ h i) (h i)
    by false e h = h ∙ ap (λ v. cond v (x ∷ filter r xs) (filter r xs)) (sym e)

none_or : (a b : Bool) → not (a || (b || false)) ≡ (not b && not a)
none_or a b = grind arith

after : (os found : List Offset) → length found ≤ 129 → offsets_with_all found os ≡ take 129 (found ++ filter (new found) (distinct_offsets os))
after [] found le = sym (ap (take 129) (append-nil found) ∙ take_all 129 found le)
after (o ∷ os) found le = by (nat_lt 128 (length found)) (among found o) refl refl (after os)
  where
    other : Offset → Bool
    other p = not (same_offset o p)

    rest : List Offset
    rest = filter (new found) (filter other (distinct_offsets os))

    -- what is the same as one that is there is not new
    old : among found o ≡ true → (p : Offset) (b : Bool) → same_offset o p ≡ b → new found p ≡ (not b && new found p)
    old a p true e = ap not (ap (among found) (sym (same o p e)) ∙ a)
    old a p false e = refl

    by : (x y : Bool) → nat_lt 128 (length found) ≡ x → among found o ≡ y
        → ((found : List Offset) → length found ≤ 129 → offsets_with_all found os ≡ take 129 (found ++ filter (new found) (distinct_offsets os)))
        → offsets_with_all (cond (x || y) found (found ++ o ∷ [])) os ≡ take 129 (found ++ cond (not y) (o ∷ rest) rest)
    by true y ex ey h =
        let ge : 129 ≤ length found = grind (arith, nat_tests) in
        h found le ∙ take-append-le 129 found _ ge ∙ sym (take-append-le 129 found _ ge)
    by false true ex ey h =
        h found le ∙ ap (λ zs. take 129 (found ++ zs)) (sym (twice (new found) other (new found) (λ p. old ey p (same_offset o p) refl) (distinct_offsets os)))
    by false false ex ey h =
        let lt : length (found ++ o ∷ []) ≤ 129 = grind (arith, nat_tests, length-append found (o ∷ [])) in
        h (found ++ o ∷ []) lt ∙ ap (take 129) (append_assoc found (o ∷ []) _)
        ∙ ap (λ zs. take 129 (found ++ o ∷ zs))
        (sym (twice (new found) other (new (found ++ o ∷ [])) (λ p. ap not (list_any-append (λ q. same_offset q p) found (o ∷ [])) ∙ none_or (among found p) (same_offset o p)) (distinct_offsets os)))

pub gathered_are : (os : List Offset) → offsets_with_all [] os ≡ take 129 (distinct_offsets os)
gathered_are os = after os [] (omega arith) ∙ ap (take 129) (all_new (distinct_offsets os))
  where
    all_new : (ds : List Offset) → filter (new []) ds ≡ ds
    all_new [] = refl
    all_new (d ∷ ds) = ap (λ zs. d ∷ zs) (all_new ds)

-- there are as many up to the most that a group may have
pub counted : (os : List Offset) → nat_lt 128 (length (distinct_offsets os)) ≡ nat_lt 128 (length (offsets_with_all [] os))
counted os = sym (ap (λ found. nat_lt 128 (length found)) (gathered_are os) ∙ ap (nat_lt 128) (length-take 129 (distinct_offsets os)) ∙ by (length (distinct_offsets os)))
  where
    by : (n : ℕ) → nat_lt 128 (min 129 n) ≡ nat_lt 128 n
    by n = grind (arith, nat_tests)
