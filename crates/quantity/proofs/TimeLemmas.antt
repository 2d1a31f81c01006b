-- Written times, cut at their first three marks.
use Rattle.std.proofs.Common.{◌≡◌, ◌==◌, ℕ, ◌<◌, ◌&&◌, Bool, true, false, cond, Option, Some, None, ◌⊎◌, List, [], ◌∷◌, refl, sym, ap, ◌∙◌, arith, inl, inr, length, get_or}
use Rattle.std.proofs.Math.ListN.{drop_of_length-le}
use Rattle.std.proofs.lemmas.Bool.{cases_lt}
use Rattle.std.proofs.lemmas.Bool.Decides.{nat_tests}
use Rattle.std.proofs.lemmas.List.Splits.{slice_split_first, slice_split_none, length-slice_split}
use Rattle.std.proofs.lemmas.List.Sums.{fails_before_first, passes_at_first}
use Rattle.std.specs.Bool.{then_some}
use Rattle.std.specs.List.{slice_split, onto_first, before_first, after_first, position_or_len}
use Rattle.std.specs.Str.{all_ascii_digits}
use Rattle.quantity.specs.Bytes.{Bytes, is_byte, in_front}
use Rattle.quantity.specs.Digits.{has_length, number_in, whole_number}
use Rattle.quantity.specs.Times.{numbers_in, parsed_parts}
use Rattle.quantity.proofs.DigitLemmas.{digit_at}

same_test : (c d : ℕ) → (d == c) ≡ is_byte c d
same_test c d = by (d == c) (c == d) refl refl
  where
    by : (a b : Bool) → (d == c) ≡ a → (c == d) ≡ b → (d == c) ≡ (c == d)
    by true true e f = e ∙ sym f
    by false false e f = e ∙ sym f
    by true false e f = absurd (let g : ⊥ = grind (arith, nat_tests) in g)
    by false true e f = absurd (let g : ⊥ = grind (arith, nat_tests) in g)

same_split : (c : ℕ) (text : Bytes) → slice_split (λ d. d == c) text ≡ slice_split (is_byte c) text
same_split c [] = refl
same_split c (d ∷ ds) =
    ap (λ b. cond b ([] ∷ slice_split (λ d. d == c) ds) (onto_first d (slice_split (λ d. d == c) ds))) (same_test c d)
    ∙ ap (λ ps. cond (is_byte c d) ([] ∷ ps) (onto_first d ps)) (same_split c ds)

in_front-none : (o : Option ℕ) → in_front o None ≡ None
in_front-none None = refl
in_front-none (Some x) = refl

-- a text with this byte in it, and one without
pub record IsCut (c : ℕ) (text : Bytes) : Type 0 where
  pub at : position_or_len (is_byte c) text < length text
  pub parts : slice_split (is_byte c) text ≡ before_first (is_byte c) text ∷ slice_split (is_byte c) (after_first (is_byte c) text)

pub record IsUncut (c : ℕ) (text : Bytes) : Type 0 where
  pub parts : slice_split (is_byte c) text ≡ text ∷ []
  pub rest : after_first (is_byte c) text ≡ []

cut : (c : ℕ) (text : Bytes) → IsCut c text ⊎ IsUncut c text
cut c text =
    elim (cases_lt (position_or_len (is_byte c) text) (length text)) [
      | inl lt ↦ inl (record { at = lt; parts = slice_split_first (is_byte c) text 0 lt })
      | inr ge ↦ inr (record { parts = slice_split_none (is_byte c) text (λ k d lt. fails_before_first (is_byte c) text k d (omega arith)); rest = drop_of_length-le text (omega arith) })
    ]

-- a text with a : in it is no number
not_digits : (text : Bytes) → position_or_len (is_byte 58) text < length text → (b : Bool) → all_ascii_digits text ≡ b → all_ascii_digits text ≡ false
not_digits text lt true e =
    let mark = passes_at_first (is_byte 58) text 0 lt in
    let digit = digit_at text (position_or_len (is_byte 58) text) e lt in
    let same : 58 ≡ get_or text (position_or_len (is_byte 58) text) 0 = grind (arith, nat_tests) in
    absurd (omega (arith, digit))
not_digits text lt false e = e

and_false : (a : Bool) → a && false ≡ false
and_false true = refl
and_false false = refl

no_number : (most : ℕ) (text : Bytes) → position_or_len (is_byte 58) text < length text → whole_number most text ≡ None
no_number most text lt =
    ap (λ b. then_some (has_length 1 most text && b) (number_in text)) (not_digits text lt (all_ascii_digits text) refl)
    ∙ ap (λ b. then_some b (number_in text)) (and_false (has_length 1 most text))

five_parts : (most : ℕ) (h m s ms : Bytes) (parts : List Bytes) → 0 < length parts → parsed_parts most (h ∷ m ∷ s ∷ ms ∷ parts) ≡ None
five_parts most h m s ms [] some = absurd (omega arith)
five_parts most h m s ms (x ∷ xs) some = refl

none_after_2 : (a b : Option ℕ) → in_front a (in_front b None) ≡ None
none_after_2 a b = ap (in_front a) (in_front-none b) ∙ in_front-none a

none_after_3 : (a b c : Option ℕ) → in_front a (in_front b (in_front c None)) ≡ None
none_after_3 a b c = ap (in_front a) (none_after_2 b c) ∙ in_front-none a

last_part : (most : ℕ) (h m s text : Bytes) → parsed_parts most (h ∷ m ∷ s ∷ slice_split (is_byte 58) text) ≡ numbers_in most h m s text
last_part most h m s text =
    elim (cut 58 text) [
      | inl k ↦
          ap (λ ps. parsed_parts most (h ∷ m ∷ s ∷ ps)) k.parts
          ∙ five_parts most h m s (before_first (is_byte 58) text) (slice_split (is_byte 58) (after_first (is_byte 58) text)) (omega (arith, length-slice_split (is_byte 58) (after_first (is_byte 58) text)))
          ∙ sym (ap (λ n. in_front (whole_number most h) (in_front (whole_number 2 m) (in_front (whole_number 2 s) (in_front n (Some []))))) (no_number 3 text k.at) ∙ none_after_3 (whole_number most h) (whole_number 2 m) (whole_number 2 s))
      | inr u ↦ ap (λ ps. parsed_parts most (h ∷ m ∷ s ∷ ps)) u.parts
    ]

last_two : (most : ℕ) (h m text : Bytes) → parsed_parts most (h ∷ m ∷ slice_split (is_byte 58) text) ≡ numbers_in most h m (before_first (is_byte 58) text) (after_first (is_byte 58) text)
last_two most h m text =
    elim (cut 58 text) [
      | inl k ↦ ap (λ ps. parsed_parts most (h ∷ m ∷ ps)) k.parts ∙ last_part most h m (before_first (is_byte 58) text) (after_first (is_byte 58) text)
      | inr u ↦
          ap (λ ps. parsed_parts most (h ∷ m ∷ ps)) u.parts
          ∙ sym (ap (λ r. numbers_in most h m (before_first (is_byte 58) text) r) u.rest ∙ none_after_3 (whole_number most h) (whole_number 2 m) (whole_number 2 (before_first (is_byte 58) text)))
    ]

last_three : (most : ℕ) (h text : Bytes) → parsed_parts most (h ∷ slice_split (is_byte 58) text)
    ≡ numbers_in most h (before_first (is_byte 58) text) (before_first (is_byte 58) (after_first (is_byte 58) text)) (after_first (is_byte 58) (after_first (is_byte 58) text))
last_three most h text =
    elim (cut 58 text) [
      | inl k ↦ ap (λ ps. parsed_parts most (h ∷ ps)) k.parts ∙ last_two most h (before_first (is_byte 58) text) (after_first (is_byte 58) text)
      | inr u ↦
          ap (λ ps. parsed_parts most (h ∷ ps)) u.parts
          ∙ sym (ap (λ r. numbers_in most h (before_first (is_byte 58) text) (before_first (is_byte 58) r) (after_first (is_byte 58) r)) u.rest ∙ none_after_2 (whole_number most h) (whole_number 2 (before_first (is_byte 58) text)))
    ]

-- a text is a time where the parts before its first three marks, and the rest, are numbers
all_parts : (most : ℕ) (text : Bytes) → parsed_parts most (slice_split (is_byte 58) text)
    ≡ numbers_in most (before_first (is_byte 58) text) (before_first (is_byte 58) (after_first (is_byte 58) text)) (before_first (is_byte 58) (after_first (is_byte 58) (after_first (is_byte 58) text))) (after_first (is_byte 58) (after_first (is_byte 58) (after_first (is_byte 58) text)))
all_parts most text =
    elim (cut 58 text) [
      | inl k ↦ ap (parsed_parts most) k.parts ∙ last_three most (before_first (is_byte 58) text) (after_first (is_byte 58) text)
      | inr u ↦
          ap (parsed_parts most) u.parts
          ∙ sym (ap (λ r. numbers_in most (before_first (is_byte 58) text) (before_first (is_byte 58) r) (before_first (is_byte 58) (after_first (is_byte 58) r)) (after_first (is_byte 58) (after_first (is_byte 58) r))) u.rest ∙ in_front-none (whole_number most (before_first (is_byte 58) text)))
    ]

pub parsed_parts-cut : (most : ℕ) (text r1 r2 h m s ms : Bytes) → h ≡ before_first (is_byte 58) text → r1 ≡ after_first (is_byte 58) text
    → m ≡ before_first (is_byte 58) r1 → r2 ≡ after_first (is_byte 58) r1 → s ≡ before_first (is_byte 58) r2 → ms ≡ after_first (is_byte 58) r2
    → parsed_parts most (slice_split (λ c. c == 58) text) ≡ numbers_in most h m s ms
parsed_parts-cut most text r1 r2 h m s ms e1 e2 e3 e4 e5 e6 =
    let rest = after_first (is_byte 58) text in
    let rest_2 = after_first (is_byte 58) rest in
    let hours = before_first (is_byte 58) text in
    let minutes = before_first (is_byte 58) rest in
    let seconds = before_first (is_byte 58) rest_2 in
    let same_2 : r2 ≡ rest_2 = e4 ∙ ap (after_first (is_byte 58)) e2 in
    ap (parsed_parts most) (same_split 58 text)
    ∙ all_parts most text
    ∙ sym (ap (λ x. numbers_in most x m s ms) e1
    ∙ ap (λ x. numbers_in most hours x s ms) (e3 ∙ ap (before_first (is_byte 58)) e2)
    ∙ ap (λ x. numbers_in most hours minutes x ms) (e5 ∙ ap (before_first (is_byte 58)) same_2)
    ∙ ap (λ x. numbers_in most hours minutes seconds x) (e6 ∙ ap (after_first (is_byte 58)) same_2))
