-- What holds of every letter. Nothing has a clause for each.
use Rattle.std.proofs.Common.{◌≡◌, ℕ, ◌==◌, ◌||◌, Bool, true, false, cond, Some}
use Rattle.std.proofs.Common.{List, [], ◌∷◌, refl, sym, ap, ◌∙◌}
use Rattle.std.specs.List.{find, list_any, list_all}
use Rattle.std.proofs.lemmas.Bool.{eqb-true, and_parts}
use Rattle.text_forms.specs.declared.letter.Letter.{Letter}
use Rattle.text_forms.specs.declared.letter.Letter.TheVariants.{Y, S}
use Rattle.text_forms.specs.declared.letter.Tells.TheVariants.{Moved}
use Rattle.text_forms.specs.Letters.{all_letters, letter_byte, letter_named, told_by}
use Rattle.text_forms.proofs.NothingElse.{same_some}

-- a letter that is written is read: its byte names it, and no other; the second clause is checked
-- for each letter but the first
pub letter_back : (letter : Letter) → letter_named (letter_byte letter) ≡ Some letter
letter_back Y = refl
letter_back letter = refl

-- the letter of moves is S alone; the second clause is checked for each other letter
pub letter_of_moves : (letter : Letter) → told_by letter ≡ Moved → letter ≡ S
letter_of_moves S e = refl
letter_of_moves letter e = absurd cc

-- whether two letters have the same byte
abbrev pub same : Letter → Letter → Bool
same a b = letter_byte a == letter_byte b

pub same_letter : (a b : Letter) → same a b ≡ true → a ≡ b
same_letter a b e =
    let bytes = eqb-true (letter_byte a) (letter_byte b) e in
    same_some a b (sym (letter_back a) ∙ ap letter_named bytes ∙ letter_back b)

-- the letter that is found is written so
pub found : (c : ℕ) (xs : List Letter) (k : Letter)
    → find (λ letter. letter_byte letter == c) xs ≡ Some k → letter_byte k ≡ c
found c [] k e = absurd cc
found c (x ∷ xs) k e = by (letter_byte x == c) refl e (found c xs k)
  where
    by : (b : Bool) → (letter_byte x == c) ≡ b
        → cond b (Some x) (find (λ letter. letter_byte letter == c) xs) ≡ Some k
        → (find (λ letter. letter_byte letter == c) xs ≡ Some k → letter_byte k ≡ c)
        → letter_byte k ≡ c
    by true is e more = ap letter_byte (sym (same_some x k e)) ∙ eqb-true (letter_byte x) c is
    by false is e more = more e

-- one that is found is there
found_there : (c : ℕ) (xs : List Letter) (k : Letter)
    → find (λ letter. letter_byte letter == c) xs ≡ Some k
    → list_any (λ letter. letter_byte letter == c) xs ≡ true
found_there c [] k e = absurd cc
found_there c (x ∷ xs) k e = by (letter_byte x == c) e (found_there c xs k)
  where
    by : (b : Bool) → cond b (Some x) (find (λ letter. letter_byte letter == c) xs) ≡ Some k
        → (find (λ letter. letter_byte letter == c) xs ≡ Some k
        → list_any (λ letter. letter_byte letter == c) xs ≡ true)
        → (b || list_any (λ letter. letter_byte letter == c) xs) ≡ true
    by true e more = refl
    by false e more = more e

-- each letter is among all
pub is_there : (k : Letter) → list_any (λ x. same x k) all_letters ≡ true
is_there k = found_there (letter_byte k) all_letters k (letter_back k)

-- what holds of all in a list holds of the one that is found there
found_passes : (p : Letter → Bool) (c : ℕ) (xs : List Letter) (k : Letter)
    → find (λ letter. letter_byte letter == c) xs ≡ Some k → list_all p xs ≡ true → p k ≡ true
found_passes p c [] k e h = absurd cc
found_passes p c (x ∷ xs) k e h =
    let parts = and_parts (p x) (list_all p xs) h in
    by (letter_byte x == c) e parts.0 (λ e. found_passes p c xs k e parts.1)
  where
    by : (b : Bool) → cond b (Some x) (find (λ letter. letter_byte letter == c) xs) ≡ Some k
        → p x ≡ true → (find (λ letter. letter_byte letter == c) xs ≡ Some k → p k ≡ true)
        → p k ≡ true
    by true e here more = ap p (sym (same_some x k e)) ∙ here
    by false e here more = more e

-- what is seen of all letters holds of each
pub of_all : (p : Letter → Bool) → list_all p all_letters ≡ true → (k : Letter) → p k ≡ true
of_all p h k = found_passes p (letter_byte k) all_letters k (letter_back k) h
