-- Lists that fit place by place.
use Rattle.std.proofs.Common.{◌≡◌, ℕ, suc, ◌+◌, ◌<◌, ◌≤◌, Some, List, [], ◌∷◌, ◌++◌, map, length, sym, ◌∙◌, ap, subst, arith}
use Rattle.std.specs.Prelude.{slice_get, IsSomeAnd}
use Rattle.std.specs.List.{All, AllZip, enumerate_from}
use Rattle.std.proofs.lemmas.List.Elements.{All-nil, All-cons}

pub zip-append : {A B : Type 0} (R : A → B → Type 0) (xs vs : List A) (ys ws : List B) → AllZip R xs ys → AllZip R vs ws → AllZip R (xs ++ vs) (ys ++ ws)
zip-append R [] vs [] ws h k = k
zip-append R [] vs (y ∷ ys) ws h k = absurd h
zip-append R (x ∷ xs) vs [] ws h k = absurd h
zip-append R (x ∷ xs) vs (y ∷ ys) ws h k = (h.0, zip-append R xs vs ys ws h.1 k)

-- both lists are made from one
pub zip-maps : {A B C : Type 0} (R : A → B → Type 0) (f : C → A) (g : C → B) → ((c : C) → R (f c) (g c)) → (cs : List C) → AllZip R (map f cs) (map g cs)
zip-maps R f g each [] = tt
zip-maps R f g each (c ∷ cs) = (each c, zip-maps R f g each cs)

-- the second list is changed place by place
pub zip-map : {A B C : Type 0} (R : A → B → Type 0) (Q : A → C → Type 0) (f : B → C) → ((a : A) (b : B) → R a b → Q a (f b)) → (xs : List A) (ys : List B) → AllZip R xs ys → AllZip Q xs (map f ys)
zip-map R Q f each [] [] h = tt
zip-map R Q f each [] (y ∷ ys) h = h
zip-map R Q f each (x ∷ xs) [] h = h
zip-map R Q f each (x ∷ xs) (y ∷ ys) h = (each x y h.0, zip-map R Q f each xs ys h.1)

pub zip-from : {A B : Type 0} (R : A → B → Type 0) (f : A → B) → ((a : A) → R a (f a)) → (xs : List A) → AllZip R xs (map f xs)
zip-from R f each [] = tt
zip-from R f each (x ∷ xs) = (each x, zip-from R f each xs)

-- each numbered element is that of the place with its number
pub numbered : {A B : Type 0} (R : A → B → Type 0) (all xs : List A) (ys : List B) (n : ℕ) → ((k : ℕ) → slice_get all (n + k) ≡ slice_get xs k) → AllZip R xs ys → All (λ (p : ℕ × B). IsSomeAnd (slice_get all p.0) (λ a. R a p.1)) (enumerate_from n ys)
numbered {A} {B} R all [] [] n same h = All-nil (λ (p : ℕ × B). IsSomeAnd (slice_get all p.0) (λ a. R a p.1))
numbered {A} {B} R all [] (y ∷ ys) n same h = absurd h
numbered {A} {B} R all (x ∷ xs) [] n same h = absurd h
numbered {A} {B} R all (x ∷ xs) (y ∷ ys) n same h =
    let here : slice_get all n ≡ Some x = ap (slice_get all) (omega arith) ∙ same 0 in
    let later : (k : ℕ) → slice_get all (n + 1 + k) ≡ slice_get xs k = λ k. ap (slice_get all) (omega arith) ∙ same (suc k) in
    All-cons (λ (p : ℕ × B). IsSomeAnd (slice_get all p.0) (λ a. R a p.1)) (n, y) (enumerate_from (n + 1) ys)
    (subst (λ o. IsSomeAnd o (λ a. R a y)) (sym here) h.0) (numbered R all xs ys (n + 1) later h.1)

-- the numbers are below the length
pub numbers-below : {B : Type 0} (ys : List B) (n most : ℕ) → n + length ys ≤ most → All (λ (p : ℕ × B). p.0 < most) (enumerate_from n ys)
numbers-below {B} [] n most le = All-nil (λ (p : ℕ × B). p.0 < most)
numbers-below {B} (y ∷ ys) n most le =
    All-cons (λ (p : ℕ × B). p.0 < most) (n, y) (enumerate_from (n + 1) ys) (omega (arith, le)) (numbers-below ys (n + 1) most (omega (arith, le)))
