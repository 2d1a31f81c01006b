-- Lists of refusals that are empty, tests, lists, and names that differ.
use Rattle.std.proofs.Common.{◌≡◌, ◌≤◌, Bool, true, false, cond, Option, Some, None, List, [], ◌∷◌, ◌++◌, length, refl, arith, rules}
use Rattle.std.specs.List.{filter, filter_map, flat_map, list_all, AllByRecursion}
use Rattle.std.specs.Option.{IfSome, option_or, is_some}
use Rattle.std.specs.Str.{bytes_eq}
use Rattle.std.proofs.lemmas.List.Folds.{list_any-append}
use Rattle.std.proofs.lemmas.Slice.Eq.{bytes_eq-Decides}
use Rattle.quantity.specs.Bytes.{Bytes, is_among, has_repeat}
use Rattle.model_text.specs.Refusals.{Refusal}
use Rattle.model_text.specs.Keyed.{least_refusal}

-- ---- what can't be

pub none_some : {A : Type 0} {x : A} → None ≡ Some x → ⊥
none_some e = cc

pub cons_nil : {A : Type 0} {x : A} {xs : List A} → x ∷ xs ≡ [] → ⊥
cons_nil e = cc

pub true_false : true ≡ false → ⊥
true_false e = cc

-- ---- lists of refusals

pub least_none : (rs : List Refusal) → least_refusal rs ≡ None → rs ≡ []
least_none [] e = refl
least_none (r ∷ rs) e = cc

pub both_empty : {A : Type 0} (xs ys : List A) → xs ++ ys ≡ [] → (xs ≡ []) × (ys ≡ [])
both_empty [] ys e = (refl, e)
both_empty (x ∷ xs) ys e = absurd cc

pub each_empty : {X A : Type 0} (f : X → List A) (xs : List X) → flat_map f xs ≡ [] → AllByRecursion (λ x. f x ≡ []) xs
each_empty f [] e = tt
each_empty f (x ∷ xs) e = let p = both_empty (f x) (flat_map f xs) e in (p.0, each_empty f xs p.1)

-- what a phase that takes the least of all says of each
pub each_of_phase : {X : Type 0} (f : X → List Refusal) (xs : List X) → least_refusal (flat_map f xs) ≡ None → AllByRecursion (λ x. f x ≡ []) xs
each_of_phase f xs e = each_empty f xs (least_none (flat_map f xs) e)

pub both_none : {A : Type 0} (o p : Option A) → option_or o p ≡ None → (o ≡ None) × (p ≡ None)
both_none o p e = grind arith

-- ---- tests

-- a test that is nobody's refusal
pub if_none : {A : Type 0} (b : Bool) (x : A) (o : Option A) → cond b (Some x) o ≡ None → (b ≡ false) × (o ≡ None)
if_none b x o e = grind arith

pub if_empty : {A : Type 0} (b : Bool) (x : A) (xs : List A) → cond b (x ∷ xs) [] ≡ [] → b ≡ false
if_empty b x xs e = grind arith

-- ---- what holds of each element

pub all_imply : {X : Type 0} {P Q : X → Type 0} → ((x : X) → P x → Q x) → (xs : List X) → AllByRecursion P xs → AllByRecursion Q xs
all_imply f [] h = tt
all_imply f (x ∷ xs) h = (f x h.0, all_imply f xs h.1)

pub both_of_all : {X : Type 0} (P Q : X → Type 0) (xs : List X) → AllByRecursion P xs → AllByRecursion Q xs → AllByRecursion (λ x. P x × Q x) xs
both_of_all P Q [] h k = tt
both_of_all P Q (x ∷ xs) h k = ((h.0, k.0), both_of_all P Q xs h.1 k.1)

pub unfiltered : {X : Type 0} (P : X → Type 0) (test : X → Bool) (xs : List X) → AllByRecursion P (filter test xs) → AllByRecursion (λ x. test x ≡ true → P x) xs
unfiltered P test [] h = tt
unfiltered P test (x ∷ xs) h = grind (arith, unfiltered P test xs)

pub found_of_all : {X Y : Type 0} (Q : X → Type 0) (P : Y → Type 0) (f : X → Option Y) → ((x : X) → Q x → IfSome (f x) P) → (xs : List X) → AllByRecursion Q xs → AllByRecursion P (filter_map f xs)
found_of_all Q P f each [] h = tt
found_of_all Q P f each (x ∷ xs) h = grind (arith, each x, found_of_all Q P f each xs)

pub all_found : {X Y : Type 0} (P : Y → Type 0) (f : X → Option Y) → ((x : X) → IfSome (f x) P) → (xs : List X) → AllByRecursion P (filter_map f xs)
all_found P f each [] = tt
all_found P f each (x ∷ xs) = grind (arith, each x, all_found P f each xs)

pub all_pass : {X : Type 0} (test : X → Bool) (xs : List X) → AllByRecursion (λ x. test x ≡ true) xs → list_all test xs ≡ true
all_pass test [] h = refl
all_pass test (x ∷ xs) h = grind (arith, all_pass test xs)

pub all_kept : {X : Type 0} (test p : X → Bool) (xs : List X) → list_all test xs ≡ true → list_all test (filter p xs) ≡ true
all_kept test p [] h = refl
all_kept test p (x ∷ xs) h = grind (arith, all_kept test p xs)

pub all_there_long : {X Y : Type 0} (f : X → Option Y) (xs : List X) → list_all (λ x. is_some (f x)) xs ≡ true → length (filter_map f xs) ≡ length xs
all_there_long f [] h = refl
all_there_long f (x ∷ xs) h = grind (arith, all_there_long f xs)

pub shorter : {X Y : Type 0} (f : X → Option Y) (xs : List X) → length (filter_map f xs) ≤ length xs
shorter f [] = omega arith
shorter f (x ∷ xs) = grind (arith, shorter f xs)

-- ---- names that differ

pub same_as_itself : (t : Bytes) → bytes_eq t t ≡ true
same_as_itself t = search (rules, bytes_eq-Decides)

pub differs_back : (a b : Bytes) → bytes_eq a b ≡ false → bytes_eq b a ≡ false
differs_back a b e = search (rules, bytes_eq-Decides)

-- one more name, that none of those before is
pub repeat_last : (xs : List Bytes) (y : Bytes) → has_repeat xs ≡ false → is_among xs y ≡ false → has_repeat (xs ++ y ∷ []) ≡ false
repeat_last [] y h m = refl
repeat_last (x ∷ xs) y h m = grind (arith, list_any-append (bytes_eq x) xs (y ∷ []), repeat_last xs y, differs_back y x)
