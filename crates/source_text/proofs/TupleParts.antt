-- Tuples in the parts of a text.
use Rattle.std.proofs.Common.{◌≡◌, ℕ, ◌+◌, ◌<◌, ◌&&◌, Bool, true, false, cond, not, Option, Some, None, List, [], ◌∷◌, ◌++◌, refl, sym, ap, ◌∙◌, arith, length, map, nat_le, suc}
use Rattle.std.specs.Prelude.{ℤ, reverse, if◌then◌else◌}
use Rattle.std.proofs.lemmas.Bool.Decides.{nat_tests}
use Rattle.std.proofs.lemmas.List.{append_assoc, length_push, reverse-append, take_at}
use Rattle.std.proofs.lemmas.List.Splits.{length-slice_split}
use Rattle.std.proofs.lemmas.Slice.Eq.{bytes_eq-Decides}
use Rattle.std.specs.Bool.{then_some}
use Rattle.std.specs.List.{before_last, prefix_len, slice_split, suffix_len}
use Rattle.std.specs.Option.{option_and_then, option_map}
use Rattle.std.specs.Str.{bytes_eq}
use Rattle.quantity.specs.Bytes.{Bytes, all_there, in_front, inside, is_byte, without_outer_blanks}
use Rattle.quantity.specs.Digits.{has_length, signed_number}
use Rattle.source_text.specs.Tuples.{closed_parts, tuple}

-- ---- how many numbers

abbrev pub two_or_three : Option (List ℤ) → Option (List ℤ)
two_or_three found = option_and_then (λ numbers. then_some (has_length 2 3 numbers) numbers) found

abbrev pub number_of : Bytes → Option ℤ
number_of part = signed_number 7 (without_outer_blanks part)

abbrev pub tuple_in_parts : List Bytes → Option (List ℤ)
tuple_in_parts parts = two_or_three (all_there (map (λ part. signed_number 7 (without_outer_blanks part)) parts))

one : (a : Option ℤ) → two_or_three (in_front a (Some [])) ≡ None
one None = refl
one (Some x) = refl

two : (a b : Option ℤ) → two_or_three (in_front a (in_front b (Some []))) ≡ in_front a (in_front b (Some []))
two None b = refl
two (Some x) None = refl
two (Some x) (Some y) = refl

three : (a b c : Option ℤ) → two_or_three (in_front a (in_front b (in_front c (Some [])))) ≡ in_front a (in_front b (in_front c (Some [])))
three None b c = refl
three (Some x) None c = refl
three (Some x) (Some y) None = refl
three (Some x) (Some y) (Some z) = refl

too_many : (n : ℕ) → nat_le (suc (suc (suc (suc n)))) 3 ≡ false
too_many n = grind (arith, nat_tests)

four : (a b c d : Option ℤ) (r : Option (List ℤ)) → two_or_three (in_front a (in_front b (in_front c (in_front d r)))) ≡ None
four None b c d r = refl
four (Some x) None c d r = refl
four (Some x) (Some y) None d r = refl
four (Some x) (Some y) (Some z) None r = refl
four (Some x) (Some y) (Some z) (Some w) None = refl
four (Some x) (Some y) (Some z) (Some w) (Some ws) =
    ap (λ b. then_some (nat_le 2 (length (x ∷ y ∷ z ∷ w ∷ ws)) && b) (x ∷ y ∷ z ∷ w ∷ ws)) (too_many (length ws)) ∙ ap (λ b. then_some b (x ∷ y ∷ z ∷ w ∷ ws)) (and_false (nat_le 2 (length (x ∷ y ∷ z ∷ w ∷ ws))))
  where
    and_false : (b : Bool) → b && false ≡ false
    and_false true = refl
    and_false false = refl

pub one_part : (part : Bytes) → tuple_in_parts (part ∷ []) ≡ None
one_part part = one (number_of part)

pub two_parts : (row column : Bytes) → tuple_in_parts (row ∷ column ∷ []) ≡ all_there (number_of row ∷ number_of column ∷ [])
two_parts row column = two (number_of row) (number_of column)

pub three_parts : (row column plane : Bytes) → tuple_in_parts (row ∷ column ∷ plane ∷ []) ≡ all_there (number_of row ∷ number_of column ∷ number_of plane ∷ [])
three_parts row column plane = three (number_of row) (number_of column) (number_of plane)

four_or_more : (row column plane : Bytes) (ps : List Bytes) → 0 < length ps → tuple_in_parts (row ∷ column ∷ plane ∷ ps) ≡ None
four_or_more row column plane [] some = absurd (omega arith)
four_or_more row column plane (p ∷ ps) some = four (number_of row) (number_of column) (number_of plane) (number_of p) (all_there (map (λ part. signed_number 7 (without_outer_blanks part)) ps))

pub more_parts : (row column plane rest : Bytes) → tuple_in_parts (row ∷ column ∷ plane ∷ slice_split (is_byte 44) rest) ≡ None
more_parts row column plane rest = four_or_more row column plane (slice_split (is_byte 44) rest) (omega (arith, length-slice_split (is_byte 44) rest))

-- ---- between parentheses

last_is : (c : ℕ) (inner : Bytes) → is_byte c c ≡ true → suffix_len (λ x. not (is_byte c x)) (inner ++ c ∷ []) ≡ 0
last_is c inner e = ap (prefix_len (λ x. not (is_byte c x))) (reverse-append inner (c ∷ [])) ∙ ap (λ b. cond (not b) (1 + prefix_len (λ x. not (is_byte c x)) (reverse inner)) 0) e

pub before_the_last : (c : ℕ) (inner : Bytes) → is_byte c c ≡ true → before_last (is_byte c) (inner ++ c ∷ []) ≡ inner
before_the_last c inner e = take_at inner (c ∷ []) _ (omega (arith, last_is c inner e, length_push inner c))

pub same_bytes : (xs ys : Bytes) → xs ≡ ys → bytes_eq xs ys ≡ true
same_bytes xs ys e = grind (arith, bytes_eq-Decides)

inside_by : (cs inner : Bytes) (b : Bool) → before_last (is_byte 41) cs ≡ inner → bytes_eq cs (before_last (is_byte 41) cs ++ 41 ∷ []) ≡ b → b ≡ true
    → inside 40 41 (40 ∷ cs) ≡ Some inner
inside_by cs inner b e f g = ap (λ x. if x then Some (before_last (is_byte 41) cs) else None) (f ∙ g) ∙ ap (λ x. Some x) e

pub inside-closed : (inner : Bytes) → inside 40 41 (40 ∷ (inner ++ 41 ∷ [])) ≡ Some inner
inside-closed inner =
    let is = before_the_last 41 inner refl in
    inside_by (inner ++ 41 ∷ []) inner _ is refl (same_bytes (inner ++ 41 ∷ []) _ (ap (λ x. x ++ 41 ∷ []) (sym is)))

pub tuple-closed : (inner : Bytes) → tuple (40 ∷ (inner ++ 41 ∷ [])) ≡ tuple_in_parts (slice_split (is_byte 44) inner)
tuple-closed inner = ap (option_and_then (λ text. tuple_in_parts (slice_split (is_byte 44) text))) (inside-closed inner)

-- ---- parts that are closed

joined : (found : List Bytes) (part : Bytes) (list : Option (List Bytes)) → option_map (λ rest. (found ++ part ∷ []) ++ rest) list ≡ option_map (λ rest. found ++ rest) (option_map (λ rest. part ∷ rest) list)
joined found part None = refl
joined found part (Some rest) = ap (λ x. Some x) (append_assoc found (part ∷ []) rest)

closed_more : (part : Bytes) (ps : List Bytes) → 0 < length ps → closed_parts (part ∷ ps) ≡ option_map (λ rest. part ∷ rest) (closed_parts ps)
closed_more part [] some = absurd (omega arith)
closed_more part (p ∷ ps) some = refl

pub one_more_part : (found : List Bytes) (part rest behind : Bytes) (all : Option (List Bytes)) → slice_split (is_byte 41) rest ≡ part ∷ slice_split (is_byte 41) behind
    → option_map (λ list. found ++ list) (closed_parts (slice_split (is_byte 41) rest)) ≡ all
    → option_map (λ list. (found ++ part ∷ []) ++ list) (closed_parts (slice_split (is_byte 41) behind)) ≡ all
one_more_part found part rest behind all e f =
    joined found part (closed_parts (slice_split (is_byte 41) behind))
    ∙ ap (option_map (λ list. found ++ list)) (sym (ap closed_parts e ∙ closed_more part (slice_split (is_byte 41) behind) (omega (arith, length-slice_split (is_byte 41) behind))))
    ∙ f
