-- Private: lists in which an element that stands many times behind itself is kept once.
use Rattle.std.specs.Prelude.{◌≡◌, ℕ, suc, ◌<◌, Option, Some, None, List, [], ◌∷◌, ◌++◌, length, slice_get}

-- what there is, as a list
abbrev pub there : {A : Type 0} → Option A → List A
there None = []
there (Some x) = x ∷ []

-- the elements by the numbers of their stretches
abbrev pub elements_at : {A : Type 0} → List A → List ℕ → List A
elements_at xs [] = []
elements_at xs (n ∷ numbers) = there (slice_get xs n) ++ elements_at xs numbers

-- an element for each stretch, and the last stretch is that of the last number
pub record AreRepeated {A : Type 0} (xs : List A) (numbers : List ℕ) (many : ℕ) : Type 0 where
  pub each : many ≡ length xs
  pub inside : (k n : ℕ) → slice_get numbers k ≡ Some n → n < many
  pub last : (k n : ℕ) → suc k ≡ length numbers → slice_get numbers k ≡ Some n → suc n ≡ many
