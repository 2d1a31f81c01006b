-- Which words are times and values, and how large they are.
use Rattle.std.proofs.Common.{◌≡◌, ℕ, ◌^◌, ◌≤◌, Bool, true, false, true≢false, List, [], ◌∷◌, refl}
use Rattle.std.proofs.Common.{sym, ap, arith}
use Rattle.std.specs.Prelude.{◌&&◌, ◌||◌, nat_le, int_le, IfSome, Some, None, ℤ, pos, negsuc, ◌+ℤ◌}
use Rattle.std.specs.Prelude.{unsigned_abs, if◌then◌else◌}
use Rattle.std.specs.List.{All}
use Rattle.std.proofs.lemmas.List.Elements.{All-nil, All-cons}
use Rattle.std.proofs.lemmas.Bool.Decides.{nat_tests}
use Rattle.quantity.specs.declared.value.Value.{Value}
use Rattle.quantity.specs.declared.value.Value.TheVariants.{Undefined, Num}
use Rattle.quantity.specs.Roots.{IsBounded}
use Rattle.quantity.specs.Arithmetic.{value_in_bounds, sum_of}
use Rattle.atomic_face.specs.Words.{word_of, is_number, is_time_word, is_none_word, is_due_if}
use Rattle.atomic_face.specs.Words.{is_value_word, are_values}
use Rattle.saved_runs.specs.Kept.{IsSmall}

pub and-both : (a b : Bool) → (a && b) ≡ true → (a ≡ true) × (b ≡ true)
and-both true b e = (refl, e)
and-both false b e = absurd (true≢false (sym e))

pub both-and : (a b : Bool) → a ≡ true → b ≡ true → (a && b) ≡ true
both-and true b e f = f
both-and false b e f = e

pub value-word : (v : Value) → IsBounded v → is_value_word (word_of v) ≡ true
value-word Undefined h = refl
value-word (Num x) h =
    let test : nat_le (unsigned_abs x) (10 ^ 15) ≡ true = grind (arith, nat_tests) in
    ap (λ b. b || (int_le (pos (10 ^ 16)) x && int_le x (pos (10 ^ 16)))) test

pub time-word : (n : ℕ) → n ≤ 719999998 → is_time_word (pos n) ≡ true
time-word n le = grind (arith, nat_tests)

pub number-word : (most n : ℕ) → n ≤ most → is_number most (pos n) ≡ true
number-word most n le = grind (arith, nat_tests)

pub bounded-is : (z : ℤ) → IfSome (value_in_bounds z) IsBounded
bounded-is z = test (nat_le (unsigned_abs z) (10 ^ 15)) refl
  where
    test : (b : Bool) → nat_le (unsigned_abs z) (10 ^ 15) ≡ b
        → IfSome (if b then Some (Num z) else None) IsBounded
    test true e = let le : unsigned_abs z ≤ 10 ^ 15 = grind (arith, nat_tests) in le
    test false e = tt

pub sum-is : (a b : Value) → IfSome (sum_of a b) IsBounded
sum-is Undefined b = tt
sum-is (Num x) Undefined = tt
sum-is (Num x) (Num y) = bounded-is (x +ℤ y)

-- ---- sizes

pub number-small : (most : ℕ) (w : ℤ) → most ≤ 10 ^ 17 → is_number most w ≡ true → IsSmall w
number-small most (pos n) le h = let few : n ≤ most = grind (arith, nat_tests) in
    omega (arith, few, le)
number-small most (negsuc n) le h = absurd (true≢false (sym h))

pub time-small : (w : ℤ) → is_time_word w ≡ true → IsSmall w
time-small w h = number-small 719999998 w (omega arith) h

pub none-small : (w : ℤ) → is_none_word w ≡ true → IsSmall w
none-small (pos n) h = absurd (true≢false (sym h))
none-small (negsuc n) h = let none : n ≡ 0 = grind (arith, nat_tests) in omega (arith, none)

pub due-small : (b : Bool) (w : ℤ) → is_due_if b w ≡ true → IsSmall w
due-small true w h = time-small w h
due-small false w h = none-small w h

pub either-small : (w : ℤ) → (is_time_word w || is_none_word w) ≡ true → IsSmall w
either-small w h = test (is_time_word w) refl h
  where
    test : (b : Bool) → is_time_word w ≡ b → (b || is_none_word w) ≡ true → IsSmall w
    test true e k = time-small w e
    test false e k = none-small w k

pub value-small : (w : ℤ) → is_value_word w ≡ true → IsSmall w
value-small w h = test (nat_le (unsigned_abs w) (10 ^ 15)) refl h
  where
    large : (x : ℤ) → (int_le (pos (10 ^ 16)) x && int_le x (pos (10 ^ 16))) ≡ true → IsSmall x
    large (pos n) k = let p =
        and-both (int_le (pos (10 ^ 16)) (pos n)) (int_le (pos n) (pos (10 ^ 16))) k in
        let le : n ≤ 10 ^ 16 = grind (arith, nat_tests) in omega (arith, le)
    large (negsuc n) k = absurd
        (true≢false (sym (and-both (int_le (pos (10 ^ 16)) (negsuc n))
        (int_le (negsuc n) (pos (10 ^ 16))) k).0))

    test : (b : Bool) → nat_le (unsigned_abs w) (10 ^ 15) ≡ b
        → (b || (int_le (pos (10 ^ 16)) w && int_le w (pos (10 ^ 16)))) ≡ true → IsSmall w
    test true e k = let le : unsigned_abs w ≤ 10 ^ 15 = grind (arith, nat_tests) in
        omega (arith, le)
    test false e k = large w k

pub values-small : (ws : List ℤ) → are_values ws ≡ true → All IsSmall ws
values-small [] h = All-nil IsSmall
values-small (w ∷ ws) h =
    let p = and-both (is_value_word w) (are_values ws) h in
    All-cons IsSmall w ws (value-small w p.0) (values-small ws p.1)
