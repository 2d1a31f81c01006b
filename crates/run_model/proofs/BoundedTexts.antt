-- The numbers, values and times that texts stand for are bounded.
use Rattle.std.proofs.Common.{◌≡◌, ℕ, zero, suc, ◌+◌, ◌-◌, ◌*◌, ◌^◌, ◌≤◌, ◌<◌, Bool, true, false, cond, Option, Some, None, List, [], ◌∷◌, ◌++◌, length, take, replicate, refl, sym, subst, arith, lit<}
use Rattle.std.specs.Prelude.{◌&&◌, ◌||◌, ◌==◌, min, not, nat_lt, ℤ, pos, neg_ℤ, unsigned_abs, codes}
use Rattle.std.proofs.lemmas.List.{length-take}
use Rattle.std.proofs.lemmas.Bool.Decides.{nat_tests}
use Rattle.std.specs.Char.{is_ascii_digit}
use Rattle.std.specs.List.{fold, slice_split}
use Rattle.std.specs.Option.{option_and_then}
use Rattle.std.specs.Str.{bytes_eq, all_ascii_digits}
use Rattle.quantity.specs.declared.value.Value.{Value}
use Rattle.quantity.specs.declared.value.Value.TheVariants.{Undefined, Num}
use Rattle.quantity.specs.Bytes.{Bytes, is_empty, begins_with, all_there}
use Rattle.quantity.specs.Digits.{are_digits, number_in, whole_number, without_sign, with_sign_of}
use Rattle.quantity.specs.Literals.{whole_digits, decimals, is_unsigned_literal, raw_in, unsigned_literal, literal, value_in}
use Rattle.quantity.specs.Roots.{IsBounded}
use Rattle.quantity.specs.Times.{milliseconds_of, parsed_parts, time_in}
use Rattle.quantity.proofs.DigitLemmas.{both, one_digit_more, below_more, no_longer, with_decimals}
use Rattle.run_model.proofs.Basics.{none_some, some_same, then_there, map_there, both_are}

-- ---- digits

digit : (c : ℕ) → is_ascii_digit c ≡ true → c - 48 ≤ 9
digit c e = grind (arith, nat_tests)

digits_below : (ds : Bytes) (n i : ℕ) → n < 10 ^ i → all_ascii_digits ds ≡ true → fold (λ n c. n * 10 + (c - 48)) n ds < 10 ^ (i + length ds)
digits_below [] n i h e = subst (λ k. n < 10 ^ k) (none i) h
  where
    none : (i : ℕ) → i ≡ i + 0
    none i = omega arith
digits_below (c ∷ cs) n i h e =
    let p = both (is_ascii_digit c) (all_ascii_digits cs) e in
    subst (λ k. fold (λ n c. n * 10 + (c - 48)) (n * 10 + (c - 48)) cs < 10 ^ k) (one_more i (length cs))
    (digits_below cs (n * 10 + (c - 48)) (i + 1) (one_digit_more n i (c - 48) h (digit c p.0)) p.1)
  where
    one_more : (i k : ℕ) → i + 1 + k ≡ i + suc k
    one_more i k = omega arith

number_below : (ds : Bytes) → all_ascii_digits ds ≡ true → number_in ds < 10 ^ length ds
number_below ds e = subst (λ k. number_in ds < 10 ^ k) (none (length ds)) (digits_below ds 0 0 (lit< tt) e)
  where
    none : (k : ℕ) → 0 + k ≡ k
    none k = omega arith

digits_join : (xs ys : Bytes) → all_ascii_digits xs ≡ true → all_ascii_digits ys ≡ true → all_ascii_digits (xs ++ ys) ≡ true
digits_join [] ys h k = k
digits_join (x ∷ xs) ys h k =
    let p = both (is_ascii_digit x) (all_ascii_digits xs) h in
    both_are (is_ascii_digit x) (all_ascii_digits (xs ++ ys)) p.0 (digits_join xs ys p.1 k)

first_digits : (n : ℕ) (xs : Bytes) → all_ascii_digits xs ≡ true → all_ascii_digits (take n xs) ≡ true
first_digits zero xs h = refl
first_digits (suc n) [] h = refl
first_digits (suc n) (x ∷ xs) h =
    let p = both (is_ascii_digit x) (all_ascii_digits xs) h in
    both_are (is_ascii_digit x) (all_ascii_digits (take n xs)) p.0 (first_digits n xs p.1)

five_below : (xs : Bytes) → all_ascii_digits xs ≡ true → number_in (take 5 (xs ++ replicate 5 48)) < 100000
five_below xs h =
    let five = take 5 (xs ++ replicate 5 48) in
    let below = number_below five (first_digits 5 (xs ++ replicate 5 48) (digits_join xs (replicate 5 48) h refl)) in
    below_more (number_in five) (length five) 5 below (short (length five) (length (xs ++ replicate 5 48)) (length-take 5 (xs ++ replicate 5 48)))
  where
    short : (k n : ℕ) → k ≡ min 5 n → k ≤ 5
    short k n e = omega arith

-- ---- literals

whole_short : (whole : Bytes) (b : Bool) → (are_digits 1 10 whole || (is_empty whole && b)) ≡ true → (length whole ≤ 10) × (all_ascii_digits whole ≡ true)
whole_short whole b e = go (are_digits 1 10 whole) refl e
  where
    go : (d : Bool) → are_digits 1 10 whole ≡ d → (d || (is_empty whole && b)) ≡ true → (length whole ≤ 10) × (all_ascii_digits whole ≡ true)
    go true d f = (no_longer 1 10 whole d, (both _ (all_ascii_digits whole) d).1)
    go false d f = none whole (both (is_empty whole) b f).0
      where
        none : (ws : Bytes) → is_empty ws ≡ true → (length ws ≤ 10) × (all_ascii_digits ws ≡ true)
        none [] f = (omega arith, refl)
        none (c ∷ cs) f = absurd cc

raw_below : (text : Bytes) → is_unsigned_literal text ≡ true → raw_in text ≤ 10 ^ 15
raw_below text e =
    let p = both (all_ascii_digits (decimals text)) (are_digits 1 10 (whole_digits text) || (is_empty (whole_digits text) && not (is_empty (decimals text)))) e in
    let w = whole_short (whole_digits text) (not (is_empty (decimals text))) p.1 in
    let below : raw_in text < 10 ^ 15 = with_decimals 10 (length (whole_digits text)) (number_in (whole_digits text)) (number_in (take 5 (decimals text ++ replicate 5 48))) (number_below (whole_digits text) w.1) w.0 (five_below (decimals text) p.0) in
    less (raw_in text) (10 ^ 15) below
  where
    less : (a b : ℕ) → a < b → a ≤ b
    less a b h = omega arith

-- a literal's number is a size
pub unsigned_bounded : (text : Bytes) (z : ℤ) → unsigned_literal text ≡ Some z → (n : ℕ) × (z ≡ pos n) × (n ≤ 10 ^ 15)
unsigned_bounded text z e =
    let p = then_there (is_unsigned_literal text) (pos (raw_in text)) z e in
    (raw_in text, sym p.1, raw_below text p.0)

negative_bounded : (n : ℕ) → n ≤ 10 ^ 15 → unsigned_abs (neg_ℤ (pos n)) ≤ 10 ^ 15
negative_bounded zero h = h
negative_bounded (suc n) h = h

pub negated_bounded : (z : ℤ) → ((n : ℕ) × (z ≡ pos n) × (n ≤ 10 ^ 15)) → unsigned_abs (neg_ℤ z) ≤ 10 ^ 15
negated_bounded z p = subst (λ y. unsigned_abs (neg_ℤ y) ≤ 10 ^ 15) (sym p.1) (negative_bounded p.0 p.2)

pub signed_bounded : (text : Bytes) (z : ℤ) → ((n : ℕ) × (z ≡ pos n) × (n ≤ 10 ^ 15)) → unsigned_abs (with_sign_of text z) ≤ 10 ^ 15
signed_bounded text z p = go (begins_with 45 text)
  where
    go : (b : Bool) → unsigned_abs (cond b (neg_ℤ z) z) ≤ 10 ^ 15
    go true = negated_bounded z p
    go false = subst (λ y. unsigned_abs y ≤ 10 ^ 15) (sym p.1) p.2

pub literal_bounded : (text : Bytes) (v : Value) → literal text ≡ Some v → IsBounded v
literal_bounded text v e =
    let p = map_there (λ n. Num (with_sign_of text n)) (unsigned_literal (without_sign text)) v e in
    subst IsBounded p.2 (signed_bounded text p.0 (unsigned_bounded (without_sign text) p.0 p.1))

pub value_bounded : (text : Bytes) (v : Value) → value_in text ≡ Some v → IsBounded v
value_bounded text v e = go (bytes_eq text (codes "?")) e
  where
    go : (b : Bool) → cond b (Some Undefined) (literal text) ≡ Some v → IsBounded v
    go true f = subst IsBounded (some_same Undefined v f) tt
    go false f = literal_bounded text v f

-- ---- times

pub whole_below : (most : ℕ) (text : Bytes) (n : ℕ) → whole_number most text ≡ Some n → n < 10 ^ most
whole_below most text n e =
    let p = then_there (are_digits 1 most text) (number_in text) n e in
    subst (λ k. k < 10 ^ most) p.1 (below_more (number_in text) (length text) most (number_below text (both _ (all_ascii_digits text) p.0).1) (no_longer 1 most text p.0))

abbrev IsBelow : ℕ → Option ℕ → Type 0
IsBelow k o = (n : ℕ) → o ≡ Some n → n < k

early : (h m s ms : ℕ) → nat_lt m 60 ≡ true → nat_lt s 60 ≡ true → h < 100 → ms < 1000 → ((h * 60 + m) * 60 + s) * 1000 + ms ≤ 359999999
early h m s ms e f lh lm =
    let a : m < 60 = grind (arith, nat_tests) in
    let b : s < 60 = grind (arith, nat_tests) in
    omega arith

parts_early : (a b c d : Option ℕ) (t : ℕ) → IsBelow 100 a → IsBelow 1000 d → option_and_then milliseconds_of (all_there (a ∷ b ∷ c ∷ d ∷ [])) ≡ Some t → t ≤ 359999999
parts_early None b c d t la ld e = absurd (none_some e)
parts_early (Some h) None c d t la ld e = absurd (none_some e)
parts_early (Some h) (Some m) None d t la ld e = absurd (none_some e)
parts_early (Some h) (Some m) (Some s) None t la ld e = absurd (none_some e)
parts_early (Some h) (Some m) (Some s) (Some ms) t la ld e =
    let p = then_there (nat_lt m 60 && nat_lt s 60) (((h * 60 + m) * 60 + s) * 1000 + ms) t e in
    let q = both (nat_lt m 60) (nat_lt s 60) p.0 in
    subst (λ k. k ≤ 359999999) p.1 (early h m s ms q.0 q.1 (la h refl) (ld ms refl))

texts_early : (texts : List Bytes) (t : ℕ) → option_and_then milliseconds_of (parsed_parts 2 texts) ≡ Some t → t ≤ 359999999
texts_early [] t e = absurd (none_some e)
texts_early (a ∷ []) t e = absurd (none_some e)
texts_early (a ∷ b ∷ []) t e = absurd (none_some e)
texts_early (a ∷ b ∷ c ∷ []) t e = absurd (none_some e)
texts_early (a ∷ b ∷ c ∷ d ∷ []) t e = parts_early (whole_number 2 a) (whole_number 2 b) (whole_number 2 c) (whole_number 3 d) t (whole_below 2 a) (whole_below 3 d) e
texts_early (a ∷ b ∷ c ∷ d ∷ x ∷ xs) t e = absurd (none_some e)

-- a time is at most 99:59:59:999
pub time_early : (text : Bytes) (t : ℕ) → time_in text ≡ Some t → t ≤ 359999999
time_early text t e = texts_early (slice_split (λ c. c == 58) text) t e
