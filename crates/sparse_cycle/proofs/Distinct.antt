-- Names of which none stands twice are distinct.
use Rattle.std.proofs.Common.{◌≡◌, ℕ, zero, suc, ◌<◌, Bool, true, false, eqb, eqb-true, eq-eqb, List, [], ◌∷◌, length, refl, sym, ◌∙◌, ap, arith, rules}
use Rattle.std.specs.Prelude.{◌||◌}
use Rattle.std.specs.Str.{bytes_eq}
use Rattle.std.proofs.lemmas.Bool.{ne_eqb}
use Rattle.std.proofs.lemmas.Slice.Eq.{bytes_eq-Decides}
use Rattle.quantity.specs.Bytes.{is_among, has_repeat}
use Rattle.cell_grid.proofs.Rising.{same_answer}
use Rattle.model_tree.specs.Tree.{Word}
use Rattle.sparse_cycle.specs.Feed.{input_name, DistinctWhereOnce}

same_as_itself : (t : Word) → bytes_eq t t ≡ true
same_as_itself t = search (rules, bytes_eq-Decides)

differs_back : (a b : Word) → bytes_eq a b ≡ false → bytes_eq b a ≡ false
differs_back a b e = search (rules, bytes_eq-Decides)

both_false : (a b : Bool) → (a || b) ≡ false → (a ≡ false) × (b ≡ false)
both_false true b e = absurd (cc)
both_false false b e = (refl, e)

none_at : (t : Word) (ts : List Word) (k : ℕ) → is_among ts t ≡ false → k < length ts → bytes_eq t (input_name ts k) ≡ false
none_at t [] k e lt = absurd (omega (arith, lt))
none_at t (x ∷ xs) zero e lt = (both_false (bytes_eq t x) (is_among xs t) e).0
none_at t (x ∷ xs) (suc k) e lt = none_at t xs k (both_false (bytes_eq t x) (is_among xs t) e).1 (omega (arith, lt))

apart : (k : ℕ) → eqb (suc k) 0 ≡ false
apart k = ne_eqb (suc k) 0 (λ e. omega (arith, e))

also_apart : (k : ℕ) → eqb 0 (suc k) ≡ false
also_apart k = ne_eqb 0 (suc k) (λ e. omega (arith, e))

after_both : (k j : ℕ) → eqb (suc k) (suc j) ≡ eqb k j
after_both k j =
    same_answer (eqb (suc k) (suc j)) (eqb k j)
    (λ e. let same = eqb-true (suc k) (suc j) e in eq-eqb k j (omega (arith, same)))
    (λ e. eq-eqb (suc k) (suc j) (ap suc (eqb-true k j e)))

pub distinct-where-once : DistinctWhereOnce
distinct-where-once [] h j k jt kt = absurd (omega (arith, jt))
distinct-where-once (x ∷ xs) h zero zero jt kt = same_as_itself x
distinct-where-once (x ∷ xs) h zero (suc k) jt kt =
    none_at x xs k (both_false (is_among xs x) (has_repeat xs) h).0 (omega (arith, kt)) ∙ sym (apart k)
distinct-where-once (x ∷ xs) h (suc j) zero jt kt =
    differs_back x (input_name xs j) (none_at x xs j (both_false (is_among xs x) (has_repeat xs) h).0 (omega (arith, jt))) ∙ sym (also_apart j)
distinct-where-once (x ∷ xs) h (suc j) (suc k) jt kt =
    distinct-where-once xs (both_false (is_among xs x) (has_repeat xs) h).1 j k (omega (arith, jt)) (omega (arith, kt)) ∙ sym (after_both k j)
