-- Operations on bounded values give bounded values.
use Rattle.std.proofs.Common.{◌≡◌, ℕ, zero, suc, ◌+◌, ◌*◌, ◌^◌, ◌/◌, ◌<◌, ◌≤◌, Bool, true, false, Option, Some, None, refl, ◌∙◌, ap, arith}
use Rattle.std.specs.Prelude.{IfSome, if◌then◌else◌, nat_le, ℤ, pos, negsuc, ◌+ℤ◌, ◌-ℤ◌, ◌*ℤ◌, neg_ℤ, unsigned_abs, int_lt, int_div, int_rem}
use Rattle.std.specs.Int.{int_signum}
use Rattle.std.proofs.lemmas.Int.{unsigned_abs-mul, rem_below}
use Rattle.std.proofs.lemmas.Bool.Decides.{nat_tests}
use Rattle.quantity.specs.declared.value.Value.{Value}
use Rattle.quantity.specs.declared.value.Value.TheVariants.{Undefined, Num}
use Rattle.quantity.specs.Arithmetic.{one, value_in_bounds, is_zero, on_both, on_numbers, on_number, sum_of, difference_of, product_of, quotient_of, remainder_of, least_of, greatest_of, negative_of, size_of, sign_of, whole_part, fraction_of, nearest_whole, root_digits, raw_root, root_of}
use Rattle.quantity.specs.Roots.{IsBounded}

pub bounded-is : (z : ℤ) → IfSome (value_in_bounds z) IsBounded
bounded-is z = test (nat_le (unsigned_abs z) (10 ^ 15)) refl
  where
    test : (b : Bool) → nat_le (unsigned_abs z) (10 ^ 15) ≡ b → IfSome (if b then Some (Num z) else None) IsBounded
    test true e = grind (arith, nat_tests)
    test false e = tt

on_both-is : (f : ℤ → ℤ → Option Value) → ((x y : ℤ) → IfSome (f x y) IsBounded) → (a b : Value) → IfSome (on_both f a b) IsBounded
on_both-is f is Undefined b = tt
on_both-is f is (Num x) Undefined = tt
on_both-is f is (Num x) (Num y) = is x y

pub sum-is : (a b : Value) → IfSome (sum_of a b) IsBounded
sum-is a b = on_both-is (λ x y. value_in_bounds (x +ℤ y)) (λ x y. bounded-is (x +ℤ y)) a b

pub difference-is : (a b : Value) → IfSome (difference_of a b) IsBounded
difference-is a b = on_both-is (λ x y. value_in_bounds (x -ℤ y)) (λ x y. bounded-is (x -ℤ y)) a b

pub product-is : (a b : Value) → IfSome (product_of a b) IsBounded
product-is a b = on_both-is (λ x y. value_in_bounds (int_div (x *ℤ y) one)) (λ x y. bounded-is (int_div (x *ℤ y) one)) a b

pub quotient-is : (a b : Value) → IfSome (quotient_of a b) IsBounded
quotient-is a b = on_both-is (λ x y. if is_zero y then Some Undefined else value_in_bounds (int_div (x *ℤ one) y)) (λ x y. test x y (is_zero y)) a b
  where
    test : (x y : ℤ) (b : Bool) → IfSome (if b then Some Undefined else value_in_bounds (int_div (x *ℤ one) y)) IsBounded
    test x y true = tt
    test x y false = bounded-is (int_div (x *ℤ one) y)

on_numbers-is : (f : ℤ → ℤ → Value) → ((x y : ℤ) → unsigned_abs x ≤ 10 ^ 15 → unsigned_abs y ≤ 10 ^ 15 → IsBounded (f x y)) → (a b : Value) → IsBounded a → IsBounded b → IsBounded (on_numbers f a b)
on_numbers-is f is Undefined b h k = tt
on_numbers-is f is (Num x) Undefined h k = tt
on_numbers-is f is (Num x) (Num y) h k = is x y h k

on_number-is : (f : ℤ → Value) → ((x : ℤ) → unsigned_abs x ≤ 10 ^ 15 → IsBounded (f x)) → (a : Value) → IsBounded a → IsBounded (on_number f a)
on_number-is f is Undefined h = tt
on_number-is f is (Num x) h = is x h

pub remainder-is : (a b : Value) → IsBounded a → IsBounded b → IsBounded (remainder_of a b)
remainder-is a b h k = on_numbers-is (λ x y. if is_zero y then Undefined else Num (int_rem x y)) (λ x y h k. test x y (is_zero y) refl k) a b h k
  where
    test : (x y : ℤ) (b : Bool) → is_zero y ≡ b → unsigned_abs y ≤ 10 ^ 15 → IsBounded (if b then Undefined else Num (int_rem x y))
    test x y true e k = tt
    test x y false e k = let some : 0 < unsigned_abs y = grind (arith, nat_tests) in omega (arith, rem_below x y some, k)

pub least-is : (a b : Value) → IsBounded a → IsBounded b → IsBounded (least_of a b)
least-is a b h k = on_numbers-is (λ x y. Num (if int_lt y x then y else x)) (λ x y h k. test x y (int_lt y x) h k) a b h k
  where
    test : (x y : ℤ) (b : Bool) → unsigned_abs x ≤ 10 ^ 15 → unsigned_abs y ≤ 10 ^ 15 → unsigned_abs (if b then y else x) ≤ 10 ^ 15
    test x y true h k = k
    test x y false h k = h

pub greatest-is : (a b : Value) → IsBounded a → IsBounded b → IsBounded (greatest_of a b)
greatest-is a b h k = on_numbers-is (λ x y. Num (if int_lt x y then y else x)) (λ x y h k. test x y (int_lt x y) h k) a b h k
  where
    test : (x y : ℤ) (b : Bool) → unsigned_abs x ≤ 10 ^ 15 → unsigned_abs y ≤ 10 ^ 15 → unsigned_abs (if b then y else x) ≤ 10 ^ 15
    test x y true h k = k
    test x y false h k = h

size-neg : (x : ℤ) → unsigned_abs (neg_ℤ x) ≡ unsigned_abs x
size-neg (pos zero) = refl
size-neg (pos (suc n)) = refl
size-neg (negsuc n) = refl

pub negative-is : (a : Value) → IsBounded a → IsBounded (negative_of a)
negative-is a h = on_number-is (λ x. Num (neg_ℤ x)) (λ x h. omega (arith, size-neg x, h)) a h

pub size-is : (a : Value) → IsBounded a → IsBounded (size_of a)
size-is a h = on_number-is (λ x. Num (pos (unsigned_abs x))) (λ x h. h) a h

size-signum : (x : ℤ) → unsigned_abs (int_signum x) ≤ 1
size-signum (pos n) = omega arith
size-signum (negsuc n) = omega arith

pub sign-is : (a : Value) → IsBounded a → IsBounded (sign_of a)
sign-is a h = on_number-is (λ x. Num (int_signum x *ℤ one)) (λ x h. omega (arith, unsigned_abs-mul (int_signum x) one, size-signum x)) a h

-- a whole number is at most the number that was cut
size-quot : (x : ℤ) → unsigned_abs (int_div x one) ≡ unsigned_abs x / 100000
size-quot (pos n) = refl
size-quot (negsuc n) = size-neg (pos (suc n / 100000))

size-whole : (x : ℤ) → unsigned_abs (int_div x one *ℤ one) ≡ unsigned_abs x / 100000 * 100000
size-whole x = unsigned_abs-mul (int_div x one) one ∙ ap (λ n. n * 100000) (size-quot x)

pub whole_part-is : (a : Value) → IsBounded a → IsBounded (whole_part a)
whole_part-is a h = on_number-is (λ x. Num (int_div x one *ℤ one)) (λ x h. omega (arith, size-whole x, h)) a h

pub fraction-is : (a : Value) → IsBounded a → IsBounded (fraction_of a)
fraction-is a h = on_number-is (λ x. Num (int_rem x one)) (λ x h. let small : unsigned_abs (int_rem x one) < 100000 = rem_below x one (omega arith) in omega (arith, small)) a h

-- half a whole away from zero
size-half : (x : ℤ) → unsigned_abs (x +ℤ (int_signum x *ℤ pos 50000)) ≤ unsigned_abs x + 50000
size-half (pos n) = omega arith
size-half (negsuc n) = omega arith

pub rounded-is : (a : Value) → IsBounded a → IsBounded (nearest_whole a)
rounded-is a h = on_number-is (λ x. Num (int_div (x +ℤ (int_signum x *ℤ pos 50000)) one *ℤ one)) (λ x h. omega (arith, size-whole (x +ℤ (int_signum x *ℤ pos 50000)), size-half x, h)) a h

-- a root of k digits is below 2 ^ k
root_digits-below : (k n r : ℕ) → root_digits k n r < r + 2 ^ k
root_digits-below zero n r = omega arith
root_digits-below (suc k) n r = test (nat_le ((r + 2 ^ k) * (r + 2 ^ k)) n) (root_digits-below k n)
  where
    test : (b : Bool) → ((q : ℕ) → root_digits k n q < q + 2 ^ k) → root_digits k n (if b then r + 2 ^ k else r) < r + 2 ^ (suc k)
    test true below = omega (arith, below (r + 2 ^ k))
    test false below = omega (arith, below r)

root_digits-bounded : (k n : ℕ) → 2 ^ k ≤ 10 ^ 15 → root_digits k n 0 ≤ 10 ^ 15
root_digits-bounded k n few = omega (arith, root_digits-below k n 0, few)

raw_root-is : (x : ℤ) → IsBounded (raw_root x)
raw_root-is (pos n) = root_digits-bounded 34 (n * 100000) (omega arith)
raw_root-is (negsuc n) = tt

pub root-is : (a : Value) → IsBounded a → IsBounded (root_of a)
root-is a h = on_number-is raw_root (λ x h. raw_root-is x) a h
