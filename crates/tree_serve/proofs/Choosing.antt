-- Lists whose items are chosen, numbered or changed at one place.
use Rattle.std.proofs.Common.{◌≡◌, ℕ, zero, suc, ◌+◌, ◌<◌, Option, Some, None, List, [], ◌∷◌, ◌++◌, length, set, refl, ◌∙◌, ap, arith}
use Rattle.std.specs.Prelude.{slice_get}
use Rattle.std.specs.List.{filter_map, enumerate_from, cons_option}
use Rattle.std.specs.Option.{option_map}

-- ---- an item of a list

pub get-same : {X : Type 0} (xs : List X) (n : ℕ) (x y : X) → slice_get xs n ≡ Some x
    → slice_get (set xs n y) n ≡ Some y
get-same [] n x y is = absurd cc
get-same (z ∷ xs) zero x y is = refl
get-same (z ∷ xs) (suc n) x y is = get-same xs n x y is

pub get-other : {X : Type 0} (xs : List X) (n k : ℕ) (y : X) → (k ≡ n → ⊥)
    → slice_get (set xs n y) k ≡ slice_get xs k
get-other [] n k y ne = refl
get-other (z ∷ xs) zero zero y ne = absurd (ne refl)
get-other (z ∷ xs) zero (suc k) y ne = refl
get-other (z ∷ xs) (suc n) zero y ne = refl
get-other (z ∷ xs) (suc n) (suc k) y ne = get-other xs n k y (λ e. ne (ap suc e))

-- ---- those that have something

-- one more, where there is something
abbrev pub more : {Y : Type 0} → Option Y → ℕ → ℕ
more None k = k
more (Some y) k = suc k

-- how many of the first so many have something
abbrev pub place : {X Y : Type 0} → (X → Option Y) → List X → ℕ → ℕ
place g xs zero = 0
place g [] (suc n) = 0
place g (x ∷ xs) (suc n) = more (g x) (place g xs n)

get-more : {Y : Type 0} (o : Option Y) (ys : List Y) (k : ℕ) (y : Y) → slice_get ys k ≡ Some y
    → slice_get (cons_option o ys) (more o k) ≡ Some y
get-more None ys k y is = is
get-more (Some z) ys k y is = is

get-first : {Y : Type 0} (o : Option Y) (ys : List Y) (y : Y) → o ≡ Some y
    → slice_get (cons_option o ys) 0 ≡ Some y
get-first o ys y is = ap (λ p. slice_get (cons_option p ys) 0) is

pub found-at-place : {X Y : Type 0} (g : X → Option Y) (xs : List X) (n : ℕ) (x : X) (y : Y)
    → slice_get xs n ≡ Some x → g x ≡ Some y
    → slice_get (filter_map g xs) (place g xs n) ≡ Some y
found-at-place g [] n x y is has = absurd cc
found-at-place g (z ∷ xs) zero x y is has =
    let same : z ≡ x = cc in
    get-first (g z) (filter_map g xs) y (ap g same ∙ has)
found-at-place g (z ∷ xs) (suc n) x y is has =
    get-more (g z) (filter_map g xs) (place g xs n) y (found-at-place g xs n x y is has)

more-rises : {Y : Type 0} (o : Option Y) (a b : ℕ) → a < b → more o a < more o b
more-rises None a b lt = lt
more-rises (Some y) a b lt = omega (arith, lt)

more-some : {Y : Type 0} (o : Option Y) (y : Y) (k : ℕ) → o ≡ Some y → 0 < more o k
more-some None y k is = absurd cc
more-some (Some z) y k is = omega arith

pub place-rises : {X Y : Type 0} (g : X → Option Y) (xs : List X) (i j : ℕ) (x : X) (y : Y)
    → slice_get xs i ≡ Some x → g x ≡ Some y → i < j → place g xs i < place g xs j
place-rises g xs i zero x y is has lt = absurd (omega (arith, lt))
place-rises g [] i (suc j) x y is has lt = absurd cc
place-rises g (z ∷ xs) zero (suc j) x y is has lt =
    let same : z ≡ x = cc in
    more-some (g z) y (place g xs j) (ap g same ∙ has)
place-rises g (z ∷ xs) (suc i) (suc j) x y is has lt =
    more-rises (g z) (place g xs i) (place g xs j) (place-rises g xs i j x y is has (omega (arith, lt)))

-- each that there is comes from somewhere
pub record Comes {X Y : Type 0} (g : X → Option Y) (xs : List X) (y : Y) : Type 0 where
  pub at : ℕ
  pub item : X
  pub there : slice_get xs at ≡ Some item
  pub has : g item ≡ Some y

later : {X Y : Type 0} (g : X → Option Y) (z : X) (xs : List X) (y : Y) → Comes g xs y
    → Comes g (z ∷ xs) y
later g z xs y c = record { at = suc c.at; item = c.item; there = c.there; has = c.has }

comes-more : {X Y : Type 0} (g : X → Option Y) (z : X) (xs : List X) (o : Option Y) (k : ℕ) (y : Y)
    → g z ≡ o → slice_get (cons_option o (filter_map g xs)) k ≡ Some y
    → ((j : ℕ) → slice_get (filter_map g xs) j ≡ Some y → Comes g xs y) → Comes g (z ∷ xs) y
comes-more g z xs None k y is there rest = later g z xs y (rest k there)
comes-more g z xs (Some w) zero y is there rest =
    let same : w ≡ y = cc in
    record { at = 0; item = z; there = refl; has = is ∙ ap Some same }
comes-more g z xs (Some w) (suc k) y is there rest = later g z xs y (rest k there)

pub comes-from : {X Y : Type 0} (g : X → Option Y) (xs : List X) (k : ℕ) (y : Y)
    → slice_get (filter_map g xs) k ≡ Some y → Comes g xs y
comes-from g [] k y there = absurd cc
comes-from g (z ∷ xs) k y there =
    comes-more g z xs (g z) k y refl there (λ j h. comes-from g xs j y h)

option-front : {Y : Type 0} (o : Option Y) (xs ys : List Y)
    → cons_option o (xs ++ ys) ≡ cons_option o xs ++ ys
option-front None xs ys = refl
option-front (Some y) xs ys = refl

pub chosen-append : {X Y : Type 0} (g : X → Option Y) (xs ys : List X)
    → filter_map g (xs ++ ys) ≡ filter_map g xs ++ filter_map g ys
chosen-append g [] ys = refl
chosen-append g (x ∷ xs) ys =
    ap (cons_option (g x)) (chosen-append g xs ys)
    ∙ option-front (g x) (filter_map g xs) (filter_map g ys)

-- ---- numbered items

pub get-numbered : {X : Type 0} (f : ℕ) (xs : List X) (k : ℕ)
    → slice_get (enumerate_from f xs) k ≡ option_map (λ x. (f + k, x)) (slice_get xs k)
get-numbered f [] k = refl
get-numbered f (x ∷ xs) zero = ap (λ n. Some (n, x)) (let e : f ≡ f + 0 = omega arith in e)
get-numbered f (x ∷ xs) (suc k) =
    get-numbered (f + 1) xs k
    ∙ ap (λ n. option_map (λ y. (n, y)) (slice_get xs k)) (let e : (f + 1) + k ≡ f + suc k = omega arith in e)

pub numbered-append : {X : Type 0} (f n : ℕ) (xs ys : List X) → n ≡ f + length xs
    → enumerate_from f (xs ++ ys) ≡ enumerate_from f xs ++ enumerate_from n ys
numbered-append f n [] ys e = ap (λ k. enumerate_from k ys) (let g : f ≡ n = omega (arith, e) in g)
numbered-append f n (x ∷ xs) ys e =
    ap (λ l. (f, x) ∷ l) (numbered-append (f + 1) n xs ys (omega (arith, e)))
