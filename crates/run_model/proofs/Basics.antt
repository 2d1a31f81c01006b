-- Options that are there, tests, and lists in two parts.
use Rattle.std.proofs.Common.{◌≡◌, Bool, true, false, Option, Some, None, List, [], ◌∷◌, ◌++◌, refl, ap, ◌∙◌}
use Rattle.std.specs.Prelude.{◌&&◌, ◌||◌}
use Rattle.std.specs.List.{AllByRecursion}
use Rattle.std.specs.Option.{option_map, option_and_then, option_or}
use Rattle.std.specs.Bool.{then_some}

-- ---- what can't be

pub true_false : true ≡ false → ⊥
true_false e = cc

pub none_some : {A : Type 0} {x : A} → None ≡ Some x → ⊥
none_some e = cc

pub some_none : {A : Type 0} {x : A} → Some x ≡ None → ⊥
some_none e = cc

pub cons_nil : {A : Type 0} {x : A} {xs : List A} → x ∷ xs ≡ [] → ⊥
cons_nil e = cc

-- ---- options

pub some_same : {A : Type 0} (x y : A) → ◌≡◌ {A = Option A} (Some x) (Some y) → x ≡ y
some_same x y e = cc

pub then_there : {A : Type 0} (b : Bool) (x y : A) → then_some b x ≡ Some y → (b ≡ true) × (x ≡ y)
then_there true x y e = (refl, some_same x y e)
then_there false x y e = absurd (none_some e)

pub map_there : {A B : Type 0} (f : A → B) (o : Option A) (y : B) → option_map f o ≡ Some y → (x : A) × (o ≡ Some x) × (f x ≡ y)
map_there f None y e = absurd (none_some e)
map_there f (Some x) y e = (x, refl, some_same (f x) y e)

pub on_there : {A B : Type 0} (f : A → Option B) (o : Option A) (y : B) → option_and_then f o ≡ Some y → (x : A) × (o ≡ Some x) × (f x ≡ Some y)
on_there f None y e = absurd (none_some e)
on_there f (Some x) y e = (x, refl, e)

pub both_none : {A : Type 0} (o p : Option A) → option_or o p ≡ None → (o ≡ None) × (p ≡ None)
both_none None p e = (refl, e)
both_none (Some x) p e = absurd (some_none e)

-- ---- tests

pub both_are : (a b : Bool) → a ≡ true → b ≡ true → (a && b) ≡ true
both_are a b e f = ap (λ c. c && b) e ∙ f

pub both_false : (a b : Bool) → (a || b) ≡ false → (a ≡ false) × (b ≡ false)
both_false true b e = absurd (true_false e)
both_false false b e = (refl, e)

-- ---- lists in two parts

pub both_empty : {A : Type 0} (xs ys : List A) → xs ++ ys ≡ [] → (xs ≡ []) × (ys ≡ [])
both_empty [] ys e = (refl, e)
both_empty (x ∷ xs) ys e = absurd (cons_nil e)

pub both_hold : {X : Type 0} (P : X → Type 0) (xs ys : List X) → AllByRecursion P xs → AllByRecursion P ys → AllByRecursion P (xs ++ ys)
both_hold P [] ys h k = k
both_hold P (x ∷ xs) ys h k = (h.0, both_hold P xs ys h.1 k)
