-- Each class has a number of its own.
use Rattle.std.proofs.Common.{◌≡◌, ℕ, zero, suc, ◌<◌, List, length, sym, ◌∙◌, ap, refl, Bool, true, false, cond, [], ◌∷◌, Some, arith}
use Rattle.std.specs.Prelude.{◌==◌, ◌≢◌, slice_get}
use Rattle.std.proofs.lemmas.Bool.Decides.{nat_tests}
use Rattle.atomic_face.specs.declared.class.Class.{Class}
use Rattle.atomic_face.specs.declared.class.Class.TheVariants.{Queue, Generator, Cpu, Counter, Table}
use Rattle.atomic_face.specs.ClassTable.{all_classes, class_number}
use Rattle.atomic_face.specs.Held.{same_class}

-- it stands there among all
at_number : (c : Class) → slice_get all_classes (class_number c) ≡ Some c
at_number Queue = refl
at_number Generator = refl
at_number Cpu = refl
at_number Counter = refl
at_number Table = refl

same-item : {X : Type 0} (x y : X) → Some x ≡ Some y → x ≡ y
same-item x y e = cc

pub same-number : (k c : Class) → class_number k ≡ class_number c → k ≡ c
same-number k c e =
    same-item k c (sym (at_number k) ∙ ap (λ n. slice_get all_classes n) e ∙ at_number c)

below-of : {X : Type 0} (xs : List X) (n : ℕ) (x : X) → slice_get xs n ≡ Some x → n < length xs
below-of [] zero x e = absurd cc
below-of [] (suc n) x e = absurd cc
below-of (y ∷ ys) zero x e = omega arith
below-of (y ∷ ys) (suc n) x e = let rest = below-of ys n x e in omega (arith, rest)

pub number-below : (c : Class) → class_number c < length all_classes
number-below c = below-of all_classes (class_number c) c (at_number c)

pub equal-if : (n m : ℕ) (b : Bool) → (n == m) ≡ b → cond b (n ≡ m) (n ≢ m)
equal-if n m true e = grind (arith, nat_tests)
equal-if n m false e = grind (arith, nat_tests)

pub same_class-is : (a b : Class) → same_class a b ≡ true → a ≡ b
same_class-is a b e = same-number a b (equal-if (class_number a) (class_number b) true e)

swapped : (n m : ℕ) → (n == m) ≡ (m == n)
swapped n m = grind (arith, nat_tests)

pub same_class-swapped : (a b : Class) → same_class a b ≡ same_class b a
same_class-swapped a b = swapped (class_number a) (class_number b)
