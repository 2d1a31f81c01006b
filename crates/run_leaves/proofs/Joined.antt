-- Places of one list behind another.
use Rattle.std.proofs.Common.{◌≡◌, ℕ, zero, suc, ◌+◌, ◌<◌, true, Some, List, [], ◌∷◌, ◌++◌, map, length, refl, ◌∙◌, ap, subst, arith}
use Rattle.std.specs.Prelude.{slice_get}
use Rattle.std.specs.Bool.{if◌then◌else◌}
use Rattle.std.specs.Result.{is_ok}
use Rattle.std.specs.declared.result.Result.{Result}
use Rattle.std.specs.List.{range_with_len}
use Rattle.run_leaves.proofs.Places.{none-some, some-is}

-- an element stands in the first list or in the second
pub get-joined : {A : Type 0} (P : Type 0) (xs ys : List A) (k : ℕ) (x : A) → slice_get (xs ++ ys) k ≡ Some x → (slice_get xs k ≡ Some x → P)
    → ((j : ℕ) → length xs + j ≡ k → slice_get ys j ≡ Some x → P) → P
get-joined P [] ys k x e left right = right k (omega arith) e
get-joined P (a ∷ xs) ys zero x e left right = left e
get-joined P (a ∷ xs) ys (suc k) x e left right = get-joined P xs ys k x e left (λ j on there. right j (omega (arith, on)) there)

pub get-left : {A : Type 0} (xs ys : List A) (k : ℕ) (x : A) → slice_get xs k ≡ Some x → slice_get (xs ++ ys) k ≡ Some x
get-left [] ys k x e = absurd (none-some e)
get-left (a ∷ xs) ys zero x e = e
get-left (a ∷ xs) ys (suc k) x e = get-left xs ys k x e

pub get-right : {A : Type 0} (xs ys : List A) (j k : ℕ) (x : A) → length xs + j ≡ k → slice_get ys j ≡ Some x → slice_get (xs ++ ys) k ≡ Some x
get-right [] ys j k x on e = let same : k ≡ j = omega (arith, on) in ap (slice_get ys) same ∙ e
get-right (a ∷ xs) ys j zero x on e = absurd (omega (arith, on))
get-right (a ∷ xs) ys j (suc k) x on e = get-right xs ys j k x (omega (arith, on)) e

-- what holds of each element holds of one more
pub each-more : {A : Type 0} (P : ℕ → A → Type 0) (xs : List A) (y : A) → ((k : ℕ) (x : A) → slice_get xs k ≡ Some x → P k x) → P (length xs) y
    → (k : ℕ) (x : A) → slice_get (xs ++ y ∷ []) k ≡ Some x → P k x
each-more P [] y each last zero x e = subst (P 0) (some-is y x e) last
each-more P [] y each last (suc k) x e = absurd (none-some e)
each-more P (a ∷ xs) y each last zero x e = each zero x e
each-more P (a ∷ xs) y each last (suc k) x e = each-more (λ n. P (suc n)) xs y (λ j z there. each (suc j) z there) last k x e

-- ---- numbers in a row

pub row-get : {A : Type 0} (f : ℕ → A) (a n k j : ℕ) → k < n → a + k ≡ j → slice_get (map f (range_with_len a n)) k ≡ Some (f j)
row-get f a zero k j lt on = absurd (omega (arith, lt))
row-get f a (suc n) zero j lt on = let same : a ≡ j = omega (arith, on) in ap (λ x. Some (f x)) same
row-get f a (suc n) (suc k) j lt on = row-get f (a + 1) n k j (omega (arith, lt)) (omega (arith, on))

-- ---- two lists of which the same is made

pub maps-same : {A B C : Type 0} (f : A → C) (h : B → C) (xs : List A) (ys : List B) → length xs ≡ length ys
    → ((k : ℕ) (x : A) (y : B) → slice_get xs k ≡ Some x → slice_get ys k ≡ Some y → f x ≡ h y) → map f xs ≡ map h ys
maps-same f h [] [] long same = refl
maps-same f h [] (y ∷ ys) long same = absurd (omega (arith, long))
maps-same f h (x ∷ xs) [] long same = absurd (omega (arith, long))
maps-same f h (x ∷ xs) (y ∷ ys) long same =
    let here : f x ≡ h y = same 0 x y refl refl in
    let rest = maps-same f h xs ys (omega (arith, long)) (λ k a b at there. same (suc k) a b at there) in
    λ i. here i ∷ rest i

-- what was pushed
pub pushed : {Z E : Type 0} (r : Result Unit E) (old new : List Z) (z : Z) → new ≡ if◌then◌else◌ (is_ok r) (old ++ z ∷ []) old → is_ok r ≡ true → new ≡ old ++ z ∷ []
pushed r old new z e ok = e ∙ ap (λ b. if◌then◌else◌ b (old ++ z ∷ []) old) ok
