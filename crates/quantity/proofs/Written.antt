-- What is written is read.
use Rattle.std.proofs.Common.{◌≡◌, ℕ, zero, suc, ◌+◌, ◌-◌, ◌*◌, ◌/◌, ◌%◌, ◌^◌, ◌<◌, ◌≤◌, ◌==◌, ◌&&◌, ◌||◌, not, Bool, true, false, cond, Option, Some, None, List, [], ◌∷◌, ◌++◌, refl, sym, ap, ◌∙◌, arith, length, take, drop, replicate, codes, nat_lt, nat_le, decimal, lit<, lit≤}
use Rattle.std.proofs.Math.Seq.{take-append_seam, drop-append-add}
use Rattle.std.proofs.lemmas.List.Splits.{slice_split_none, slice_split_at}
use Rattle.std.proofs.lemmas.List.Sums.{AllPass-from_list_all}
use Rattle.std.proofs.lemmas.List.Folds.{list_all-append}
use Rattle.std.proofs.lemmas.Bool.Decides.{nat_tests}
use Rattle.std.proofs.lemmas.Slice.Eq.{bytes_eq-Decides}
use Rattle.std.proofs.lemmas.Fmt.{decimal_is_IsNumeral_wide, length-decimal-le_wide}
use Rattle.std.specs.Bool.{then_some}
use Rattle.std.specs.Char.{digit_value}
use Rattle.std.specs.List.{slice_split, list_all, join_with_byte, All, fold, position_or_len, before_first, after_first}
use Rattle.std.specs.Option.{option_map, option_and_then}
use Rattle.std.specs.Str.{bytes_eq}
use Rattle.std.specs.Str.Parse.{digits_value_after, AllDigits}
use Rattle.std.specs.Prelude.{ℤ, pos, negsuc, neg_ℤ}
use Rattle.quantity.specs.declared.value.Value.{Value}
use Rattle.quantity.specs.declared.value.Value.TheVariants.{Undefined, Num}
use Rattle.quantity.specs.Roots.{IsBounded}
use Rattle.quantity.specs.Arithmetic.{value_in_bounds}
use Rattle.quantity.specs.Bytes.{Bytes, is_byte, begins_with}
use Rattle.quantity.specs.Written.{is_digit, if_written, number_at_most}
use Rattle.quantity.specs.Digits.{last_digits, are_digits, number_in, whole_number, without_sign, with_sign_of}
use Rattle.quantity.specs.Literals.{is_number_of, unsigned_raw, signed_raw}
use Rattle.quantity.specs.Times.{hours_text, time_text, time_of, read_time, milliseconds_of}
use Rattle.quantity.specs.ValueTexts.{guessed_value, text5, minus_if}
use Rattle.quantity.specs.ReadBack.{read_text5}
use Rattle.quantity.specs.ReadBack.{ReadsWhatIsWritten}
use Rattle.quantity.proofs.DigitLemmas.{all_ascii_digits-list_all, both}

-- ---- parts that are joined and split

abbrev pub has_no : ℕ → Bytes → Bool
has_no c part = list_all (λ x. not (x == c)) part

not_false : (b : Bool) → not b ≡ true → b ≡ false
not_false true e = absurd cc
not_false false e = refl

pub none_at : (c : ℕ) (part : Bytes) → has_no c part ≡ true → All (λ x. (x == c) ≡ false) part
none_at c part h k d lt = not_false _ (AllPass-from_list_all (λ x. not (x == c)) part h k d lt)

pub and_true : (a b : Bool) → a ≡ true → b ≡ true → a && b ≡ true
and_true a b e f = ap (λ x. x && b) e ∙ f

pub itself : (c : ℕ) → (c == c) ≡ true
itself c = grind (arith, nat_tests)

pub split_joined : (c : ℕ) (part : Bytes) (parts : List Bytes) → list_all (has_no c) (part ∷ parts) ≡ true → slice_split (λ x. x == c) (join_with_byte c (part ∷ parts)) ≡ part ∷ parts
split_joined c part [] h = slice_split_none (λ x. x == c) part (none_at c part (both (has_no c part) true h).0)
split_joined c part (next ∷ more) h =
    let k = both (has_no c part) (list_all (has_no c) (next ∷ more)) h in
    slice_split_at (λ x. x == c) part c (join_with_byte c (next ∷ more)) (none_at c part k.0) (itself c)
    ∙ ap (λ ps. part ∷ ps) (split_joined c next more k.1)

-- ---- digits

is_digit48 : (d : ℕ) → d < 10 → is_digit (48 + d) ≡ true
is_digit48 d h = grind (arith, nat_tests)

digit_is : (c : ℕ) → digit_value c < 10 → is_digit c ≡ true
digit_is c h = grind (arith, nat_tests)

digit_stands : (c : ℕ) → digit_value c < 10 → digit_value c ≡ c - 48
digit_stands c h = grind (arith, nat_tests)

pub all_digits : (cs : Bytes) → AllDigits 10 cs → list_all is_digit cs ≡ true
all_digits [] h = refl
all_digits (c ∷ cs) h = and_true (is_digit c) (list_all is_digit cs) (digit_is c h.0) (all_digits cs h.1)

number_after : (cs : Bytes) (n : ℕ) → AllDigits 10 cs → fold (λ n c. n * 10 + (c - 48)) n cs ≡ digits_value_after 10 n cs
number_after [] n h = refl
number_after (c ∷ cs) n h =
    number_after cs (n * 10 + (c - 48)) h.1 ∙ ap (λ d. digits_value_after 10 (n * 10 + d) cs) (sym (digit_stands c h.0))

last_digit : (n : ℕ) → n % 10 < 10
last_digit n = omega arith

two : (n : ℕ) → number_in (last_digits 2 n) ≡ n % 100
two n = omega arith

three : (n : ℕ) → number_in (last_digits 3 n) ≡ n % 1000
three n = omega arith

five : (n : ℕ) → number_in (last_digits 5 n) ≡ n % 100000
five n = omega arith

pub last_are_digits : (k n : ℕ) → list_all is_digit (last_digits k n) ≡ true
last_are_digits zero n = refl
last_are_digits (suc k) n =
    list_all-append is_digit (last_digits k (n / 10)) ((48 + n % 10) ∷ [])
    ∙ and_true _ _ (last_are_digits k (n / 10)) (and_true _ true (is_digit48 (n % 10) (last_digit n)) refl)

-- the digits of a number that isn't very large
pub record IsNumberText (n : ℕ) (text : Bytes) : Type 0 where
  pub digits : list_all is_digit text ≡ true
  pub some : 0 < length text
  pub value : number_in text ≡ n

pub decimal_is : (n : ℕ) → n < 10 ^ 64 → IsNumberText n (decimal n)
decimal_is n lt =
    let k = decimal_is_IsNumeral_wide n lt in
    record { digits = all_digits (decimal n) k.0.1; some = k.0.0; value = number_after (decimal n) 0 k.0.1 ∙ k.1 }

not_digit : (c d : ℕ) → is_digit c ≡ false → is_digit d ≡ true → not (d == c) ≡ true
not_digit c d e f = grind (arith, nat_tests)

pub no_digit : (c : ℕ) → is_digit c ≡ false → (cs : Bytes) → list_all is_digit cs ≡ true → has_no c cs ≡ true
no_digit c e [] h = refl
no_digit c e (d ∷ ds) h =
    let k = both (is_digit d) (list_all is_digit ds) h in
    and_true (not (d == c)) (has_no c ds) (not_digit c d e k.0) (no_digit c e ds k.1)

pub no_in_last : (c : ℕ) → is_digit c ≡ false → (k n : ℕ) → has_no c (last_digits k n) ≡ true
no_in_last c e k n = no_digit c e (last_digits k n) (last_are_digits k n)

-- ---- numbers of so many digits

digits_in : (low high : ℕ) (text : Bytes) → low ≤ length text → length text ≤ high → list_all is_digit text ≡ true → are_digits low high text ≡ true
digits_in low high text a b h =
    let l : nat_le low (length text) ≡ true = grind (arith, nat_tests) in
    let m : nat_le (length text) high ≡ true = grind (arith, nat_tests) in
    and_true _ _ (and_true _ _ l m) (all_ascii_digits-list_all text ∙ h)

number_read : (most n : ℕ) (text : Bytes) → 0 < length text → length text ≤ most → list_all is_digit text ≡ true → number_in text ≡ n → whole_number most text ≡ Some n
number_read most n text some short h e =
    ap (λ b. then_some b (number_in text)) (digits_in 1 most text (omega arith) short h) ∙ ap (λ m. Some m) e

-- ---- times

pub written : {A : Type 0} (write : A → Bytes) (o : Option A) (x : A) → o ≡ Some x → if_written write (write x) o ≡ Some x
written write o x e = ap (if_written write (write x)) e ∙ ap (λ b. cond b (Some x) None) ((bytes_eq-Decides (write x) (write x)).1 refl)

pub hours_digits : (h : ℕ) → h < 10 ^ 64 → (b : Bool) → list_all is_digit (cond b (last_digits 2 h) (decimal h)) ≡ true
hours_digits h lt true = last_are_digits 2 h
hours_digits h lt false = (decimal_is h lt).digits

hours_read : (h : ℕ) → h < 1000 → (b : Bool) → nat_lt h 100 ≡ b → whole_number 3 (cond b (last_digits 2 h) (decimal h)) ≡ Some h
hours_read h lt true e = number_read 3 h (last_digits 2 h) (lit< tt) (lit≤ tt) (last_are_digits 2 h) (two h ∙ grind (arith, nat_tests))
hours_read h lt false e =
    let k = decimal_is h (omega arith) in
    number_read 3 h (decimal h) k.some (length-decimal-le_wide 3 h (lit< tt) lt (omega arith)) k.digits k.value

two_read : (n : ℕ) → n < 100 → whole_number 2 (last_digits 2 n) ≡ Some n
two_read n lt = number_read 2 n (last_digits 2 n) (lit< tt) (lit≤ tt) (last_are_digits 2 n) (two n ∙ omega arith)

three_read : (n : ℕ) → n < 1000 → whole_number 3 (last_digits 3 n) ≡ Some n
three_read n lt = number_read 3 n (last_digits 3 n) (lit< tt) (lit≤ tt) (last_are_digits 3 n) (three n ∙ omega arith)

pub at_most : (most n : ℕ) → n ≤ most → number_at_most most n ≡ Some n
at_most most n le = let e : nat_le n most ≡ true = grind (arith, nat_tests) in ap (λ b. cond b (Some n) None) e

below_sixty : (m s n : ℕ) → m < 60 → s < 60 → then_some (nat_lt m 60 && nat_lt s 60) n ≡ Some n
below_sixty m s n a b =
    let l : nat_lt m 60 ≡ true = grind (arith, nat_tests) in
    let r : nat_lt s 60 ≡ true = grind (arith, nat_tests) in
    ap (λ b. then_some b n) (and_true _ _ l r)

sum_is : (t : ℕ) → ((t / 3600000 * 60 + t / 60000 % 60) * 60 + t / 1000 % 60) * 1000 + t % 1000 ≡ t
sum_is t = omega arith

parts_read : (h m s ms : Bytes) (a b c d t : ℕ) → whole_number 3 h ≡ Some a → whole_number 2 m ≡ Some b → whole_number 2 s ≡ Some c → whole_number 3 ms ≡ Some d
    → milliseconds_of (a ∷ b ∷ c ∷ d ∷ []) ≡ Some t → t ≤ 719999998 → time_of (h ∷ m ∷ s ∷ ms ∷ []) ≡ Some t
parts_read h m s ms a b c d t e f g i j le = rw (e, f, g, i) (ap (option_and_then (number_at_most 719999998)) j ∙ at_most 719999998 t le)

pub time_guess : (t : ℕ) → t ≤ 719999998 → time_of (slice_split (λ c. c == 58) (time_text t)) ≡ Some t
time_guess t le =
    let small : t / 3600000 < 10 ^ 64 = omega arith in
    let digits = and_true (has_no 58 (hours_text (t / 3600000))) _ (no_digit 58 refl (hours_text (t / 3600000)) (hours_digits (t / 3600000) small (nat_lt (t / 3600000) 100)))
    (and_true (has_no 58 (last_digits 2 (t / 60000 % 60))) _ (no_in_last 58 refl 2 (t / 60000 % 60))
    (and_true (has_no 58 (last_digits 2 (t / 1000 % 60))) _ (no_in_last 58 refl 2 (t / 1000 % 60))
    (and_true (has_no 58 (last_digits 3 (t % 1000))) true (no_in_last 58 refl 3 (t % 1000)) refl))) in
    let hours = hours_read (t / 3600000) (omega arith) (nat_lt (t / 3600000) 100) refl in
    let total = below_sixty (t / 60000 % 60) (t / 1000 % 60) _ (omega arith) (omega arith) ∙ ap (λ n. Some n) (sum_is t) in
    ap time_of (split_joined 58 (hours_text (t / 3600000)) (last_digits 2 (t / 60000 % 60) ∷ last_digits 2 (t / 1000 % 60) ∷ last_digits 3 (t % 1000) ∷ []) digits)
    ∙ parts_read (hours_text (t / 3600000)) (last_digits 2 (t / 60000 % 60)) (last_digits 2 (t / 1000 % 60)) (last_digits 3 (t % 1000)) (t / 3600000) (t / 60000 % 60) (t / 1000 % 60) (t % 1000) t
    hours (two_read (t / 60000 % 60) (omega arith)) (two_read (t / 1000 % 60) (omega arith)) (three_read (t % 1000) (omega arith)) total le

pub time_read : (t : ℕ) → t ≤ 719999998 → read_time (time_text t) ≡ Some t
time_read t le = written time_text (time_of (slice_split (λ c. c == 58) (time_text t))) t (time_guess t le)

-- ---- values

-- the digits of a number's size, with its point
abbrev pub body : ℕ → Bytes
body n = decimal (n / 100000) ++ 46 ∷ last_digits 5 n

whole_is : (n : ℕ) → n ≤ 10 ^ 15 → IsNumberText (n / 100000) (decimal (n / 100000))
whole_is n le = decimal_is (n / 100000) (omega arith)

at_46 : (c : ℕ) → is_digit c ≡ true → is_byte 46 c ≡ false
at_46 c e = grind (arith, nat_tests)

point_after : (ds rest : Bytes) → list_all is_digit ds ≡ true → position_or_len (is_byte 46) (ds ++ 46 ∷ rest) ≡ length ds
point_after [] rest h = refl
point_after (d ∷ ds) rest h =
    let k = both (is_digit d) (list_all is_digit ds) h in
    ap (λ b. cond (not b) (1 + position_or_len (is_byte 46) (ds ++ 46 ∷ rest)) 0) (at_46 d k.0) ∙ ap (λ n. 1 + n) (point_after ds rest k.1) ∙ omega arith

whole_before : (ds rest : Bytes) → list_all is_digit ds ≡ true → before_first (is_byte 46) (ds ++ 46 ∷ rest) ≡ ds
whole_before ds rest h = ap (λ n. take n (ds ++ 46 ∷ rest)) (point_after ds rest h) ∙ take-append_seam ds (46 ∷ rest)

decimals_after : (ds rest : Bytes) → list_all is_digit ds ≡ true → after_first (is_byte 46) (ds ++ 46 ∷ rest) ≡ rest
decimals_after ds rest h = ap (λ n. drop (n + 1) (ds ++ 46 ∷ rest)) (point_after ds rest h) ∙ drop-append-add ds (46 ∷ rest) 1

true_or : (a b : Bool) → a ≡ true → a || b ≡ true
true_or a b e = ap (λ x. x || b) e

body_read : (n : ℕ) → n ≤ 10 ^ 15 → unsigned_raw 11 (body n) ≡ Some n
body_read n le =
    let w = whole_is n le in
    let short = length-decimal-le_wide 11 (n / 100000) (lit< tt) (omega arith) (omega arith) in
    ap (λ w. then_some (is_number_of 11 w (after_first (is_byte 46) (body n))) (number_in w * 100000 + number_in (take 5 (after_first (is_byte 46) (body n) ++ replicate 5 48)))) (whole_before (decimal (n / 100000)) (last_digits 5 n) w.digits)
    ∙ ap (λ d. then_some (is_number_of 11 (decimal (n / 100000)) d) (number_in (decimal (n / 100000)) * 100000 + number_in (take 5 (d ++ replicate 5 48)))) (decimals_after (decimal (n / 100000)) (last_digits 5 n) w.digits)
    ∙ ap (λ b. then_some b (number_in (decimal (n / 100000)) * 100000 + number_in (last_digits 5 n)))
    (and_true _ _ (all_ascii_digits-list_all (last_digits 5 n) ∙ last_are_digits 5 n) (true_or _ _ (digits_in 1 11 (decimal (n / 100000)) (omega (arith, w.some)) short w.digits)))
    ∙ ap (λ m. Some m) (ap (λ m. m * 100000 + number_in (last_digits 5 n)) w.value ∙ ap (λ m. n / 100000 * 100000 + m) (five n) ∙ omega arith)

no_sign : (c : ℕ) → is_digit c ≡ true → ((c == 43) || (c == 45) ≡ false) × ((45 == c) ≡ false)
no_sign c e = (grind (arith, nat_tests), grind (arith, nat_tests))

unsigned_stays : (ds rest : Bytes) → list_all is_digit ds ≡ true → 0 < length ds → without_sign (ds ++ rest) ≡ ds ++ rest
unsigned_stays [] rest h some = absurd (omega arith)
unsigned_stays (d ∷ ds) rest h some = ap (λ b. cond b (ds ++ rest) (d ∷ (ds ++ rest))) (no_sign d (both (is_digit d) (list_all is_digit ds) h).0).0

unsigned_begins : (ds rest : Bytes) → list_all is_digit ds ≡ true → 0 < length ds → begins_with 45 (ds ++ rest) ≡ false
unsigned_begins [] rest h some = absurd (omega arith)
unsigned_begins (d ∷ ds) rest h some = (no_sign d (both (is_digit d) (list_all is_digit ds) h).0).1

not_question : (text : Bytes) → has_no 63 text ≡ true → bytes_eq text (codes "?") ≡ false
not_question text h = go (bytes_eq text (codes "?")) refl
  where
    go : (b : Bool) → bytes_eq text (codes "?") ≡ b → bytes_eq text (codes "?") ≡ false
    go false e = e
    go true e = let no : false ≡ true = ap (has_no 63) (sym ((bytes_eq-Decides text (codes "?")).0 e)) ∙ h in absurd cc

pub body_no : (c n : ℕ) → n ≤ 10 ^ 15 → is_digit c ≡ false → (46 == c) ≡ false → has_no c (body n) ≡ true
body_no c n le d p =
    list_all-append (λ x. not (x == c)) (decimal (n / 100000)) (46 ∷ last_digits 5 n)
    ∙ and_true _ _ (no_digit c d (decimal (n / 100000)) (whole_is n le).digits) (and_true _ _ (ap not p) (no_in_last c d 5 n))

-- a number that isn't too large is a value
pub fits : (z : ℤ) → IsBounded (Num z) → value_in_bounds z ≡ Some (Num z)
fits (pos n) le = let e : nat_le n (10 ^ 15) ≡ true = grind (arith, nat_tests) in ap (λ b. cond b (Some (Num (pos n))) None) e
fits (negsuc n) le = let e : nat_le (suc n) (10 ^ 15) ≡ true = grind (arith, nat_tests) in ap (λ b. cond b (Some (Num (negsuc n))) None) e

read_as_number : (text : Bytes) (z : ℤ) → has_no 63 text ≡ true → signed_raw 11 text ≡ Some z → IsBounded (Num z) → guessed_value text ≡ Some (Num z)
read_as_number text z h e le =
    ap (λ b. cond b (Some Undefined) (option_and_then value_in_bounds (signed_raw 11 text))) (not_question text h) ∙ ap (option_and_then value_in_bounds) e ∙ fits z le

pub div_one : (n : ℕ) → n / 1 ≡ n
div_one n = omega arith

positive_raw : (n : ℕ) → n ≤ 10 ^ 15 → signed_raw 11 (body n) ≡ Some (pos n)
positive_raw n le =
    let w = whole_is n le in
    ap (λ t. option_map (λ m. with_sign_of (body n) (pos m)) (unsigned_raw 11 t)) (unsigned_stays (decimal (n / 100000)) (46 ∷ last_digits 5 n) w.digits w.some)
    ∙ ap (option_map (λ m. with_sign_of (body n) (pos m))) (body_read n le)
    ∙ ap (λ b. Some (cond b (neg_ℤ (pos n)) (pos n))) (unsigned_begins (decimal (n / 100000)) (46 ∷ last_digits 5 n) w.digits w.some)

positive_guess : (n : ℕ) → n ≤ 10 ^ 15 → guessed_value (text5 (Num (pos n))) ≡ Some (Num (pos n))
positive_guess n le = ap (λ m. guessed_value (body m)) (div_one n) ∙ read_as_number (body n) (pos n) (body_no 63 n le refl refl) (positive_raw n le) le

above_zero : (n : ℕ) → nat_lt 0 (suc n / 1) ≡ true
above_zero n = grind (arith, nat_tests)

pub negative_text : (n : ℕ) → text5 (Num (negsuc n)) ≡ 45 ∷ body (suc n)
negative_text n = ap (λ b. minus_if b ++ decimal (suc n / 1 / 100000) ++ 46 ∷ last_digits 5 (suc n / 1)) (above_zero n) ∙ ap (λ m. 45 ∷ body m) (div_one (suc n))

negative_guess : (n : ℕ) → suc n ≤ 10 ^ 15 → guessed_value (text5 (Num (negsuc n))) ≡ Some (Num (negsuc n))
negative_guess n le =
    ap guessed_value (negative_text n)
    ∙ read_as_number (45 ∷ body (suc n)) (negsuc n) (body_no 63 (suc n) le refl refl) (ap (option_map (λ m. neg_ℤ (pos m))) (body_read (suc n) le)) le

pub value_guess : (v : Value) → IsBounded v → guessed_value (text5 v) ≡ Some v
value_guess Undefined h = refl
value_guess (Num (pos n)) h = positive_guess n h
value_guess (Num (negsuc n)) h = negative_guess n h

pub value_read : (v : Value) → IsBounded v → read_text5 (text5 v) ≡ Some v
value_read v h = written text5 (guessed_value (text5 v)) v (value_guess v h)

pub reads_what_is_written : ReadsWhatIsWritten
reads_what_is_written = record { value = value_read; time = time_read }
