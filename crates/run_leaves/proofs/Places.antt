-- One place of a list is made anew.
use Rattle.std.proofs.Common.{◌≡◌, ◌≢◌, ℕ, zero, suc, ◌<◌, Option, Some, None, List, [], ◌∷◌, map, length, refl, sym, ◌∙◌, ap, subst, arith}
use Rattle.std.specs.Prelude.{slice_get, slice_set, slice_index_or}
use Rattle.std.specs.Option.{unwrap_or}

pub some-is : {A : Type 0} (a b : A) → Some a ≡ Some b → a ≡ b
some-is a b e = ap (λ o. unwrap_or o a) e

pub map-same : {A B : Type 0} (f g : A → B) (xs : List A) → ((k : ℕ) (a : A) → slice_get xs k ≡ Some a → g a ≡ f a) → map g xs ≡ map f xs
map-same f g [] same = refl
map-same f g (x ∷ xs) same = λ i. same 0 x refl i ∷ map-same f g xs (λ k a at. same (suc k) a at) i

pub none-some : {A : Type 0} {a : A} → None ≡ Some a → ⊥
none-some {A} e = subst is-none e tt
  where
    is-none : Option A → Type 0
    is-none None = Unit {0}
    is-none (Some a) = ⊥

-- what is made of each element stays, but for one place
pub map-set : {A B : Type 0} (f g : A → B) (xs : List A) (l : ℕ) (x : A) (y : B) → slice_get xs l ≡ Some x → g x ≡ y
    → ((k : ℕ) (a : A) → slice_get xs k ≡ Some a → k ≢ l → g a ≡ f a) → map g xs ≡ slice_set (map f xs) l y
map-set f g [] l x y at made others = refl
map-set f g (a ∷ xs) zero x y at made others =
    let here : g a ≡ y = ap g (some-is a x at) ∙ made in
    λ i. here i ∷ map-same f g xs (λ k b there. others (suc k) b there (λ is. omega (arith, is))) i
map-set f g (a ∷ xs) (suc l) x y at made others =
    let here : g a ≡ f a = others 0 a refl (λ is. omega (arith, is)) in
    λ i. here i ∷ map-set f g xs l x y at made (λ k b there not. others (suc k) b there (λ is. not (omega (arith, is)))) i

-- the element at a place
pub get-set : {A : Type 0} (xs : List A) (l : ℕ) (x y : A) → slice_get xs l ≡ Some x → slice_get (slice_set xs l y) l ≡ Some y
get-set [] l x y at = absurd (none-some at)
get-set (a ∷ xs) zero x y at = refl
get-set (a ∷ xs) (suc l) x y at = get-set xs l x y at

pub get-other : {A : Type 0} (xs : List A) (k l : ℕ) (y : A) → k ≢ l → slice_get (slice_set xs l y) k ≡ slice_get xs k
get-other [] k l y not = refl
get-other (a ∷ xs) zero zero y not = absurd (not refl)
get-other (a ∷ xs) zero (suc l) y not = refl
get-other (a ∷ xs) (suc k) zero y not = refl
get-other (a ∷ xs) (suc k) (suc l) y not = get-other xs k l y (λ is. not (ap suc is))

-- setting what stands there changes nothing
pub set-same : {A : Type 0} (xs : List A) (l : ℕ) (x : A) → slice_get xs l ≡ Some x → slice_set xs l x ≡ xs
set-same [] l x at = refl
set-same (a ∷ xs) zero x at = λ i. some-is x a (sym at) i ∷ xs
set-same (a ∷ xs) (suc l) x at = λ i. a ∷ set-same xs l x at i

pub get-map : {A B : Type 0} (f : A → B) (xs : List A) (l : ℕ) (x : A) → slice_get xs l ≡ Some x → slice_get (map f xs) l ≡ Some (f x)
get-map f [] l x at = absurd (none-some at)
get-map f (a ∷ xs) zero x at = ap (λ b. Some (f b)) (some-is a x at)
get-map f (a ∷ xs) (suc l) x at = get-map f xs l x at

pub get-within : {A : Type 0} (xs : List A) (l : ℕ) (x : A) → slice_get xs l ≡ Some x → l < length xs
get-within [] l x at = absurd (none-some at)
get-within (a ∷ xs) zero x at = omega arith
get-within (a ∷ xs) (suc l) x at = let on = get-within xs l x at in omega (arith, on)

pub within-get : {A : Type 0} (xs : List A) (l : ℕ) (d : A) → l < length xs → slice_get xs l ≡ Some (slice_index_or xs l d)
within-get [] l d lt = absurd (omega (arith, lt))
within-get (a ∷ xs) zero d lt = refl
within-get (a ∷ xs) (suc l) d lt = within-get xs l d (omega (arith, lt))

pub index-get : {A : Type 0} (xs : List A) (l : ℕ) (x d : A) → slice_get xs l ≡ Some x → slice_index_or xs l d ≡ x
index-get [] l x d at = absurd (none-some at)
index-get (a ∷ xs) zero x d at = some-is a x at
index-get (a ∷ xs) (suc l) x d at = index-get xs l x d at

-- what is made of all elements stays, where one is made anew with the same
pub map-kept : {A B : Type 0} (f : A → B) (xs : List A) (l : ℕ) (x y : A) → slice_get xs l ≡ Some x → f y ≡ f x → map f (slice_set xs l y) ≡ map f xs
map-kept f [] l x y at same = refl
map-kept f (a ∷ xs) zero x y at same = λ i. (same ∙ ap f (sym (some-is a x at))) i ∷ map f xs
map-kept f (a ∷ xs) (suc l) x y at same = λ i. f a ∷ map-kept f xs l x y at same i

-- an element that was read
pub read-at : {A : Type 0} (xs : List A) (l : ℕ) (o : A) → l < length xs → o ≡ slice_index_or xs l o → slice_get xs l ≡ Some o
read-at xs l o lt read = within-get xs l o lt ∙ ap Some (sym read)

-- what stands where something was made of it
pub get-map-back : {A B : Type 0} (f : A → B) (xs : List A) (l : ℕ) (y : B) (x : A) → slice_get (map f xs) l ≡ Some y → slice_get xs l ≡ Some x → f x ≡ y
get-map-back f xs l y x made at = some-is (f x) y (sym (get-map f xs l x at) ∙ made)

-- what stands at a place that there is
pub found-at : {A : Type 0} (xs : List A) (l : ℕ) → l < length xs → (x : A) × (slice_get xs l ≡ Some x)
found-at [] l lt = absurd (omega (arith, lt))
found-at (a ∷ xs) zero lt = (a, refl)
found-at (a ∷ xs) (suc l) lt = found-at xs l (omega (arith, lt))
