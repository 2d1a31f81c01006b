-- Lists in which an element that stands many times behind itself is kept once.
use Rattle.std.proofs.Common.{◌≡◌, ℕ, zero, suc, ◌+◌, ◌-◌, ◌<◌, Option, Some, None, List, [], ◌∷◌, ◌++◌, length, refl, sym, ◌∙◌, ap, arith, length-append, append_assoc}
use Rattle.std.specs.Prelude.{slice_get}
use Rattle.run_leaves.specs.Repeated.{there, elements_at, AreRepeated}
use Rattle.run_leaves.proofs.Places.{some-is, found-at}
use Rattle.run_leaves.proofs.Joined.{get-left, get-right, each-more}

abbrev AreInside : {A : Type 0} → List A → List ℕ → Type 0
AreInside xs numbers = (k n : ℕ) → slice_get numbers k ≡ Some n → n < length xs

pub elements-long : {A : Type 0} (xs : List A) (numbers : List ℕ) → AreInside xs numbers → length (elements_at xs numbers) ≡ length numbers
elements-long xs [] inside = refl
elements-long {A} xs (n ∷ numbers) inside =
    let found = found-at xs n (inside 0 n refl) in
    ap (λ (o : Option A). length (there o ++ elements_at xs numbers)) found.1
    ∙ ap suc (elements-long xs numbers (λ k m at. inside (suc k) m at))

pub element-at : {A : Type 0} (xs : List A) (numbers : List ℕ) → AreInside xs numbers → (k n : ℕ) (x : A) → slice_get numbers k ≡ Some n → slice_get xs n ≡ Some x → slice_get (elements_at xs numbers) k ≡ Some x
element-at xs [] inside k n x at is = absurd cc
element-at {A} xs (m ∷ numbers) inside zero n x at is =
    let same : slice_get xs m ≡ Some x = ap (slice_get xs) (some-is m n at) ∙ is in
    ap (λ (o : Option A). slice_get (there o ++ elements_at xs numbers) 0) same
element-at {A} xs (m ∷ numbers) inside (suc k) n x at is =
    let found = found-at xs m (inside 0 m refl) in
    ap (λ (o : Option A). slice_get (there o ++ elements_at xs numbers) (suc k)) found.1
    ∙ element-at xs numbers (λ j p here. inside (suc j) p here) k n x at is

there-alone : {A : Type 0} (o : Option A) → there o ++ [] ≡ there o
there-alone None = refl
there-alone (Some x) = refl

elements-more : {A : Type 0} (xs : List A) (numbers : List ℕ) (n : ℕ) → elements_at xs (numbers ++ n ∷ []) ≡ elements_at xs numbers ++ there (slice_get xs n)
elements-more xs [] n = there-alone (slice_get xs n)
elements-more xs (m ∷ numbers) n =
    ap (λ ys. there (slice_get xs m) ++ ys) (elements-more xs numbers n)
    ∙ sym (append_assoc (there (slice_get xs m)) (elements_at xs numbers) (there (slice_get xs n)))

elements-kept : {A : Type 0} (xs : List A) (y : A) (numbers : List ℕ) → AreInside xs numbers → elements_at (xs ++ y ∷ []) numbers ≡ elements_at xs numbers
elements-kept xs y [] inside = refl
elements-kept xs y (n ∷ numbers) inside =
    let found = found-at xs n (inside 0 n refl) in
    let here : slice_get (xs ++ y ∷ []) n ≡ slice_get xs n = get-left xs (y ∷ []) n found.0 found.1 ∙ sym found.1 in
    let rest = elements-kept xs y numbers (λ k m at. inside (suc k) m at) in
    λ i. there (here i) ++ rest i

-- the last of one more
last-is : (numbers : List ℕ) (m k n : ℕ) → suc k ≡ length (numbers ++ m ∷ []) → slice_get (numbers ++ m ∷ []) k ≡ Some n → n ≡ m
last-is numbers m k n end at =
    let longer = length-append numbers (m ∷ []) in
    some-is n m (sym at ∙ get-right numbers (m ∷ []) 0 k m (omega (arith, end, longer)) refl)

module _ {A : Type 0} (xs : List A) (numbers : List ℕ) (many : ℕ) (are : AreRepeated xs numbers many) where
  pub inside : AreInside xs numbers
  inside k n at = let lt = are.inside k n at in let each = are.each in omega (arith, lt, each)

  pub long : length (elements_at xs numbers) ≡ length numbers
  long = elements-long xs numbers inside

  pub some-begun : 0 < length (elements_at xs numbers) → 0 < many
  some-begun some =
      let as_long = long in
      let last = found-at numbers 0 (omega (arith, some, as_long)) in
      let lt = are.inside 0 last.0 last.1 in
      omega (arith, lt)

  -- ---- the last element again

  pub again-repeated : 0 < many → AreRepeated xs (numbers ++ (many - 1) ∷ []) many
  again-repeated some =
      record {
        each = are.each;
        inside = each-more (λ k n. n < many) numbers (many - 1) are.inside (omega (arith, some));
        last = λ k n end at. (let is = last-is numbers (many - 1) k n end at in omega (arith, is, some));
      }

  last-element : (x : A) → 0 < length (elements_at xs numbers) → slice_get (elements_at xs numbers) (length (elements_at xs numbers) - 1) ≡ Some x → slice_get xs (many - 1) ≡ Some x
  last-element x some at =
      let as_long = long in
      let end = length (elements_at xs numbers) - 1 in
      let number = found-at numbers end (omega (arith, some, as_long)) in
      let last = are.last end number.0 (omega (arith, some, as_long)) number.1 in
      let element = found-at xs number.0 (inside end number.0 number.1) in
      let same : element.0 ≡ x = some-is element.0 x (sym (element-at xs numbers inside end number.0 element.0 number.1 element.1) ∙ at) in
      let place : many - 1 ≡ number.0 = omega (arith, last) in
      ap (slice_get xs) place ∙ element.1 ∙ ap Some same

  pub again-more : (x : A) → 0 < length (elements_at xs numbers) → slice_get (elements_at xs numbers) (length (elements_at xs numbers) - 1) ≡ Some x
      → elements_at xs (numbers ++ (many - 1) ∷ []) ≡ elements_at xs numbers ++ x ∷ []
  again-more x some at =
      elements-more xs numbers (many - 1) ∙ ap (λ (o : Option A). elements_at xs numbers ++ there o) (last-element x some at)

  -- ---- another element

  pub begun-repeated : (x : A) → AreRepeated (xs ++ x ∷ []) (numbers ++ many ∷ []) (many + 1)
  begun-repeated x =
      let longer = length-append xs (x ∷ []) in
      let each = are.each in
      record {
        each = omega (arith, longer, each);
        inside = each-more (λ k n. n < many + 1) numbers many (λ k n at. (let lt = are.inside k n at in omega (arith, lt))) (omega arith);
        last = λ k n end at. (let is = last-is numbers many k n end at in omega (arith, is));
      }

  pub begun-more : (x : A) → elements_at (xs ++ x ∷ []) (numbers ++ many ∷ []) ≡ elements_at xs numbers ++ x ∷ []
  begun-more x =
      let each = are.each in
      let kept = elements-kept xs x numbers inside in
      let last : slice_get (xs ++ x ∷ []) many ≡ Some x = get-right xs (x ∷ []) 0 many x (omega (arith, each)) refl in
      elements-more (xs ++ x ∷ []) numbers many ∙ (λ i. kept i ++ there (last i))
