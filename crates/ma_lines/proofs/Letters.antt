-- Texts in lower-case letters.
use Rattle.std.proofs.Common.{◌≡◌, ℕ, zero, suc, ◌+◌, ◌-◌, ◌<◌, ◌≤◌, ◌&&◌, Bool, true, false, cond, Option, Some, None, List, [], ◌∷◌, ◌++◌, map, length, take, drop, nat_lt, refl, sym, ap, ◌∙◌, arith}
use Rattle.std.specs.Prelude.{◌==◌, not, reverse, ◌||◌, if◌then◌else◌}
use Rattle.std.proofs.lemmas.Bool.Decides.{nat_tests}
use Rattle.std.proofs.lemmas.List.{length-map, map-append, reverse-append}
use Rattle.std.specs.Char.{to_ascii_lowercase}
use Rattle.std.specs.List.{after_first, before_first, before_last, drop-map, list_all, list_any, onto_first, position_or_len, prefix_len, slice_split, suffix_len, take-map}
use Rattle.std.specs.Option.{option_map}
use Rattle.std.specs.Str.{bytes_eq}
use Rattle.quantity.specs.Bytes.{Bytes, inside, is_blank, is_byte, is_empty, open_after, without_outer_blanks, without_blanks_before}
use Rattle.source_text.specs.Lines.{in_lower_case, text_of_line, without_comment, without_first, without_return}
use Rattle.ma_lines.specs.Entries.{braces_after, key_in, value_after}
use Rattle.ma_lines.specs.Sections.{has_brackets, is_allowed, name_in}

-- ---- tests of bytes that don't see the case of letters

lower_by : (p : ℕ → Bool) → ((c : ℕ) → 65 ≤ c → c < 91 → p (c + 32) ≡ p c) → (c : ℕ) (a b : Bool) → nat_lt c 65 ≡ a → nat_lt c 91 ≡ b → p (cond a c (cond b (c + 32) c)) ≡ p c
lower_by p h c true b e f = refl
lower_by p h c false false e f = refl
lower_by p h c false true e f = h c (at_least c e) (at_most c f)
  where
    at_least : (c : ℕ) → nat_lt c 65 ≡ false → 65 ≤ c
    at_least c e = grind (arith, nat_tests)

    at_most : (c : ℕ) → nat_lt c 91 ≡ true → c < 91
    at_most c e = grind (arith, nat_tests)

abbrev IsBlind : (ℕ → Bool) → Type 0
IsBlind p = (c : ℕ) → p (to_ascii_lowercase c) ≡ p c

lower : (p : ℕ → Bool) → ((c : ℕ) → 65 ≤ c → c < 91 → p (c + 32) ≡ p c) → IsBlind p
lower p h c = lower_by p h c (nat_lt c 65) (nat_lt c 91) refl refl

line_feed : IsBlind (is_byte 10)
line_feed = lower (is_byte 10) (λ c low high. grind (arith, nat_tests))

comment : IsBlind (is_byte 37)
comment = lower (is_byte 37) (λ c low high. grind (arith, nat_tests))

return : IsBlind (is_byte 13)
return = lower (is_byte 13) (λ c low high. grind (arith, nat_tests))

colon : IsBlind (is_byte 58)
colon = lower (is_byte 58) (λ c low high. grind (arith, nat_tests))

pub bracket : IsBlind (is_byte 91)
bracket = lower (is_byte 91) (λ c low high. grind (arith, nat_tests))

opening : IsBlind (λ c. c == 91)
opening = lower (λ c. c == 91) (λ c low high. grind (arith, nat_tests))

closing : IsBlind (is_byte 93)
closing = lower (is_byte 93) (λ c low high. grind (arith, nat_tests))

closing_last : IsBlind (λ c. c == 93)
closing_last = lower (λ c. c == 93) (λ c low high. grind (arith, nat_tests))

brace : IsBlind (is_byte 123)
brace = lower (is_byte 123) (λ c low high. grind (arith, nat_tests))

end_brace : IsBlind (is_byte 125)
end_brace = lower (is_byte 125) (λ c low high. grind (arith, nat_tests))

blank : IsBlind is_blank
blank = lower is_blank (λ c low high. grind (arith, nat_tests))

either_bracket : IsBlind (λ c. (c == 91) || (c == 93))
either_bracket = lower (λ c. (c == 91) || (c == 93)) (λ c low high. grind (arith, nat_tests))

allowed : IsBlind is_allowed
allowed = lower is_allowed (λ c low high. grind (arith, nat_tests))

-- ---- texts

module _ (p : ℕ → Bool) (q : IsBlind p) where
  prefix-folded : (xs : Bytes) → prefix_len (λ c. not (p c)) (in_lower_case xs) ≡ prefix_len (λ c. not (p c)) xs
  prefix-folded [] = refl
  prefix-folded (x ∷ xs) = ap (λ b. cond (not b) (1 + prefix_len (λ c. not (p c)) (in_lower_case xs)) 0) (q x) ∙ ap (λ n. cond (not (p x)) (1 + n) 0) (prefix-folded xs)

  before_first-folded : (xs : Bytes) → before_first p (in_lower_case xs) ≡ in_lower_case (before_first p xs)
  before_first-folded xs = ap (λ n. take n (in_lower_case xs)) (prefix-folded xs) ∙ take-map to_ascii_lowercase (position_or_len p xs) xs

  after_first-folded : (xs : Bytes) → after_first p (in_lower_case xs) ≡ in_lower_case (after_first p xs)
  after_first-folded xs = ap (λ n. drop (n + 1) (in_lower_case xs)) (prefix-folded xs) ∙ drop-map to_ascii_lowercase (position_or_len p xs + 1) xs

  list_any-folded : (xs : Bytes) → list_any p (in_lower_case xs) ≡ list_any p xs
  list_any-folded [] = refl
  list_any-folded (x ∷ xs) = ap (λ b. b || list_any p (in_lower_case xs)) (q x) ∙ ap (λ b. p x || b) (list_any-folded xs)

  list_all-folded : (xs : Bytes) → list_all p (in_lower_case xs) ≡ list_all p xs
  list_all-folded [] = refl
  list_all-folded (x ∷ xs) = ap (λ b. b && list_all p (in_lower_case xs)) (q x) ∙ ap (λ b. p x && b) (list_all-folded xs)

pub has_colon-folded : (xs : Bytes) → list_any (is_byte 58) (in_lower_case xs) ≡ list_any (is_byte 58) xs
has_colon-folded xs = list_any-folded (is_byte 58) colon xs

pub allowed-folded : (xs : Bytes) → list_all is_allowed (in_lower_case xs) ≡ list_all is_allowed xs
allowed-folded xs = list_all-folded is_allowed allowed xs

reverse-folded : (xs : Bytes) → reverse (in_lower_case xs) ≡ in_lower_case (reverse xs)
reverse-folded [] = refl
reverse-folded (x ∷ xs) =
    reverse-append (to_ascii_lowercase x ∷ []) (in_lower_case xs)
    ∙ ap (λ ys. ys ++ to_ascii_lowercase x ∷ []) (reverse-folded xs)
    ∙ sym (map-append to_ascii_lowercase (reverse xs) (x ∷ []))
    ∙ sym (ap in_lower_case (reverse-append (x ∷ []) xs))

folded-if : (b : Bool) (xs ys : Bytes) → cond b (in_lower_case xs) (in_lower_case ys) ≡ in_lower_case (cond b xs ys)
folded-if true xs ys = refl
folded-if false xs ys = refl

without_blanks-folded : (xs : Bytes) → without_blanks_before (in_lower_case xs) ≡ in_lower_case (without_blanks_before xs)
without_blanks-folded [] = refl
without_blanks-folded (x ∷ xs) =
    ap (λ b. cond b (without_blanks_before (in_lower_case xs)) (in_lower_case (x ∷ xs))) (blank x)
    ∙ ap (λ ys. cond (is_blank x) ys (in_lower_case (x ∷ xs))) (without_blanks-folded xs)
    ∙ folded-if (is_blank x) (without_blanks_before xs) (x ∷ xs)

pub trimmed-folded : (xs : Bytes) → without_outer_blanks (in_lower_case xs) ≡ in_lower_case (without_outer_blanks xs)
trimmed-folded xs =
    ap (λ ys. reverse (without_blanks_before (reverse ys))) (without_blanks-folded xs)
    ∙ ap (λ ys. reverse (without_blanks_before ys)) (reverse-folded (without_blanks_before xs))
    ∙ ap reverse (without_blanks-folded (reverse (without_blanks_before xs)))
    ∙ reverse-folded (without_blanks_before (reverse (without_blanks_before xs)))

without_first-folded : (xs : Bytes) → without_first 13 (in_lower_case xs) ≡ in_lower_case (without_first 13 xs)
without_first-folded [] = refl
without_first-folded (x ∷ xs) = ap (λ b. cond b (in_lower_case xs) (in_lower_case (x ∷ xs))) (return x) ∙ folded-if (13 == x) xs (x ∷ xs)

without_return-folded : (xs : Bytes) → without_return (in_lower_case xs) ≡ in_lower_case (without_return xs)
without_return-folded xs =
    ap (λ ys. reverse (without_first 13 ys)) (reverse-folded xs)
    ∙ ap reverse (without_first-folded (reverse xs))
    ∙ reverse-folded (without_first 13 (reverse xs))

pub text_of_line-folded : (line : Bytes) → text_of_line (in_lower_case line) ≡ in_lower_case (text_of_line line)
text_of_line-folded line =
    ap (λ xs. without_outer_blanks (without_comment xs)) (without_return-folded line)
    ∙ ap without_outer_blanks (before_first-folded (is_byte 37) comment (without_return line))
    ∙ trimmed-folded (without_comment (without_return line))

-- ---- keys, values and braces

twice : (xs : Bytes) → in_lower_case (in_lower_case xs) ≡ in_lower_case xs
twice [] = refl
twice (x ∷ xs) = ap (λ c. c ∷ in_lower_case (in_lower_case xs)) (once x) ∙ ap (λ ys. to_ascii_lowercase x ∷ ys) (twice xs)
  where
    low : (c : ℕ) (a b : Bool) → nat_lt c 65 ≡ a → nat_lt c 91 ≡ b → to_ascii_lowercase (cond a c (cond b (c + 32) c)) ≡ cond a c (cond b (c + 32) c)
    low c a b e f = grind (arith, nat_tests)

    once : (c : ℕ) → to_ascii_lowercase (to_ascii_lowercase c) ≡ to_ascii_lowercase c
    once c = low c (nat_lt c 65) (nat_lt c 91) refl refl

pub folded-twice : (xs : Bytes) → in_lower_case (in_lower_case xs) ≡ in_lower_case xs
folded-twice = twice

pub key_in-folded : (text : Bytes) → key_in (in_lower_case text) ≡ key_in text
key_in-folded text =
    ap (λ xs. in_lower_case (without_outer_blanks xs)) (before_first-folded (is_byte 58) colon text)
    ∙ ap in_lower_case (trimmed-folded (before_first (is_byte 58) text))
    ∙ twice (without_outer_blanks (before_first (is_byte 58) text))

pub value_after-folded : (text : Bytes) → value_after (in_lower_case text) ≡ in_lower_case (value_after text)
value_after-folded text = ap without_outer_blanks (after_first-folded (is_byte 58) colon text) ∙ trimmed-folded (after_first (is_byte 58) text)

pub braces_after-folded : (text : Bytes) (n : ℕ) → braces_after n (in_lower_case text) ≡ braces_after n text
braces_after-folded [] n = refl
braces_after-folded (c ∷ cs) n =
    braces_after-folded cs (open_after (is_byte 123) (is_byte 125) n (to_ascii_lowercase c))
    ∙ ap (λ m. braces_after m cs) (ap (λ b. if b then n + 1 else if is_byte 125 (to_ascii_lowercase c) then n - 1 else n) (brace c) ∙ ap (λ b. if is_byte 123 c then n + 1 else if b then n - 1 else n) (end_brace c))

pub braces_in_value-folded : (text : Bytes) → braces_after 0 (after_first (is_byte 58) (in_lower_case text)) ≡ braces_after 0 (after_first (is_byte 58) text)
braces_in_value-folded text = ap (braces_after 0) (after_first-folded (is_byte 58) colon text) ∙ braces_after-folded (after_first (is_byte 58) text) 0

-- ---- names

ends_same : (xs : Bytes) (k : ℕ) → bytes_eq (in_lower_case xs) (in_lower_case (take k xs) ++ 93 ∷ []) ≡ bytes_eq xs (take k xs ++ 93 ∷ [])
ends_same [] zero = refl
ends_same [] (suc k) = refl
ends_same (x ∷ []) zero = ap (λ b. b && true) (closing_last x)
ends_same (x ∷ y ∷ xs) zero = ap (λ b. b && false) (closing_last x)
ends_same (x ∷ xs) (suc k) = ap (λ b. b && bytes_eq (in_lower_case xs) (in_lower_case (take k xs) ++ 93 ∷ [])) (itself (to_ascii_lowercase x) ∙ sym (itself x)) ∙ ap (λ b. (x == x) && b) (ends_same xs k)
  where
    itself : (c : ℕ) → (c == c) ≡ true
    itself c = grind (arith, nat_tests)

place_of_last : (xs : Bytes) → length (in_lower_case xs) - suffix_len (λ c. not (is_byte 93 c)) (in_lower_case xs) - 1 ≡ length xs - suffix_len (λ c. not (is_byte 93 c)) xs - 1
place_of_last xs =
    ap (λ n. n - suffix_len (λ c. not (is_byte 93 c)) (in_lower_case xs) - 1) (length-map xs to_ascii_lowercase)
    ∙ ap (λ ys. length xs - prefix_len (λ c. not (is_byte 93 c)) ys - 1) (reverse-folded xs)
    ∙ ap (λ n. length xs - n - 1) (prefix-folded (is_byte 93) closing (reverse xs))

before_last-folded : (xs : Bytes) → before_last (is_byte 93) (in_lower_case xs) ≡ in_lower_case (before_last (is_byte 93) xs)
before_last-folded xs =
    ap (λ n. take n (in_lower_case xs)) (place_of_last xs) ∙ take-map to_ascii_lowercase (length xs - suffix_len (λ c. not (is_byte 93 c)) xs - 1) xs

chosen : (b : Bool) (xs : Bytes) → (if b then Some (in_lower_case xs) else None) ≡ option_map in_lower_case (if b then Some xs else None)
chosen true xs = refl
chosen false xs = refl

inside-folded : (text : Bytes) → inside 91 93 (in_lower_case text) ≡ option_map in_lower_case (inside 91 93 text)
inside-folded [] = refl
inside-folded (c ∷ cs) =
    ap (λ b. if b && bytes_eq (in_lower_case cs) (before_last (is_byte 93) (in_lower_case cs) ++ 93 ∷ []) then Some (before_last (is_byte 93) (in_lower_case cs)) else None) (opening c)
    ∙ ap (λ xs. if (c == 91) && bytes_eq (in_lower_case cs) (xs ++ 93 ∷ []) then Some xs else None) (before_last-folded cs)
    ∙ ap (λ b. if (c == 91) && b then Some (in_lower_case (before_last (is_byte 93) cs)) else None) (ends_same cs (length cs - suffix_len (λ c. not (is_byte 93 c)) cs - 1))
    ∙ chosen ((c == 91) && bytes_eq cs (before_last (is_byte 93) cs ++ 93 ∷ [])) (before_last (is_byte 93) cs)

empty-folded : (xs : Bytes) → is_empty (in_lower_case xs) ≡ is_empty xs
empty-folded [] = refl
empty-folded (x ∷ xs) = refl

pub is_empty-folded : (xs : Bytes) → is_empty (in_lower_case xs) ≡ is_empty xs
is_empty-folded = empty-folded

name_in-folded : (name : Option Bytes) → name_in (option_map in_lower_case name) ≡ name_in name
name_in-folded None = refl
name_in-folded (Some text) =
    ap (λ b. if b || is_empty (without_outer_blanks (in_lower_case text)) then None else Some (in_lower_case (without_outer_blanks (in_lower_case text)))) (list_any-folded (λ c. (c == 91) || (c == 93)) either_bracket text)
    ∙ ap (λ xs. if has_brackets text || is_empty xs then None else Some (in_lower_case xs)) (trimmed-folded text)
    ∙ ap (λ b. if has_brackets text || b then None else Some (in_lower_case (in_lower_case (without_outer_blanks text)))) (empty-folded (without_outer_blanks text))
    ∙ ap (λ xs. if has_brackets text || is_empty (without_outer_blanks text) then None else Some xs) (twice (without_outer_blanks text))

pub name-folded : (text : Bytes) → name_in (inside 91 93 (in_lower_case text)) ≡ name_in (inside 91 93 text)
name-folded text = ap name_in (inside-folded text) ∙ name_in-folded (inside 91 93 text)

-- ---- lines

onto-folded : (c : ℕ) (ps : List Bytes) → onto_first (to_ascii_lowercase c) (map in_lower_case ps) ≡ map in_lower_case (onto_first c ps)
onto-folded c [] = refl
onto-folded c (p ∷ ps) = refl

pub pieces-folded : (bytes : Bytes) → slice_split (is_byte 10) (in_lower_case bytes) ≡ map in_lower_case (slice_split (is_byte 10) bytes)
pieces-folded [] = refl
pieces-folded (c ∷ cs) =
    ap (λ b. cond b ([] ∷ slice_split (is_byte 10) (in_lower_case cs)) (onto_first (to_ascii_lowercase c) (slice_split (is_byte 10) (in_lower_case cs)))) (line_feed c)
    ∙ ap (λ ps. cond (is_byte 10 c) ([] ∷ ps) (onto_first (to_ascii_lowercase c) ps)) (pieces-folded cs)
    ∙ ap (λ ps. cond (is_byte 10 c) ([] ∷ map in_lower_case (slice_split (is_byte 10) cs)) ps) (onto-folded c (slice_split (is_byte 10) cs))
    ∙ by (is_byte 10 c) (slice_split (is_byte 10) cs) (onto_first c (slice_split (is_byte 10) cs))
  where
    by : (b : Bool) (ps qs : List Bytes) → cond b ([] ∷ map in_lower_case ps) (map in_lower_case qs) ≡ map in_lower_case (cond b ([] ∷ ps) qs)
    by true ps qs = refl
    by false ps qs = refl
