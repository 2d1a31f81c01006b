-- A log line that is read from left to right is the line that the text is.
use Rattle.std.proofs.Common.{◌≡◌, ℕ, zero, suc, ◌+◌, ◌<◌, ◌≤◌, ◌==◌, ◌&&◌, not, Bool, true, false, cond, Option, Some, None, ◌⊎◌, inl, inr, [], ◌∷◌, ◌++◌, refl, sym, ap, ◌∙◌, arith, length, take, drop, get_or, decimal, nat_le, lit<}
use Rattle.std.proofs.Math.Seq.{take-append_seam, drop-append-add, take-length}
use Rattle.std.proofs.Math.ListN.{drop_of_length-le}
use Rattle.std.proofs.lemmas.Bool.{cases_lt}
use Rattle.std.proofs.lemmas.Bool.Decides.{nat_tests}
use Rattle.std.proofs.lemmas.List.{length-append}
use Rattle.std.proofs.lemmas.List.Sums.{split_at_first, passes_at_first}
use Rattle.std.proofs.lemmas.Fmt.{length-decimal-le_wide}
use Rattle.std.specs.Bool.{then_some}
use Rattle.std.specs.List.{before_first, after_first, position_or_len, list_all}
use Rattle.std.specs.Option.{option_and_then}
use Rattle.quantity.specs.Bytes.{Bytes, is_byte}
use Rattle.quantity.specs.Digits.{number_in, whole_number}
use Rattle.quantity.specs.Written.{for_some, is_digit, number_at_most}
use Rattle.quantity.proofs.DigitLemmas.{both, all_ascii_digits-list_all}
use Rattle.quantity.proofs.NothingElse.{kept}
use Rattle.quantity.proofs.Written.{has_no, and_true, itself, decimal_is, no_digit, written}
use Rattle.drawlog_top.specs.Fronts.{stroke}
use Rattle.drawlog_top.specs.Strict.{behind_stroke, first_word, next_part, Parts, cut_parts, coordinate}

-- ---- what is inside an option

abbrev pub value_or : {A : Type 0} → Option A → A → A
value_or None d = d
value_or (Some x) d = x

pub same_some : {A : Type 0} (x y : A) → Some x ≡ Some y → x ≡ y
same_some x y e = ap (λ o. value_or o x) e

pub some_from : {A B : Type 0} (o : Option A) (f : A → Option B) (y : B) → for_some o f ≡ Some y → (x : A) × (o ≡ Some x) × (f x ≡ Some y)
some_from None f y h = absurd cc
some_from (Some x) f y h = (x, refl, h)

pub if_some : {A : Type 0} (b : Bool) (x y : A) → cond b (Some x) None ≡ Some y → (b ≡ true) × (x ≡ y)
if_some true x y h = (refl, same_some x y h)
if_some false x y h = absurd cc

pub if_then : {A : Type 0} (b : Bool) (o : Option A) (y : A) → cond b o None ≡ Some y → (b ≡ true) × (o ≡ Some y)
if_then true o y h = (refl, h)
if_then false o y h = absurd cc

-- ---- a text cut at a byte

other_byte : (c d : ℕ) → not (d == c) ≡ true → is_byte c d ≡ false
other_byte c d h = grind (arith, nat_tests)

place_joined : (c : ℕ) (x rest : Bytes) → has_no c x ≡ true → position_or_len (is_byte c) (x ++ c ∷ rest) ≡ length x
place_joined c [] rest h = ap (λ b. cond (not b) (1 + position_or_len (is_byte c) rest) 0) (itself c)
place_joined c (d ∷ ds) rest h =
    let k = both (not (d == c)) (has_no c ds) h in
    ap (λ b. cond (not b) (1 + position_or_len (is_byte c) (ds ++ c ∷ rest)) 0) (other_byte c d k.0) ∙ ap (λ n. 1 + n) (place_joined c ds rest k.1) ∙ omega arith

place_alone : (c : ℕ) (x : Bytes) → has_no c x ≡ true → position_or_len (is_byte c) x ≡ length x
place_alone c [] h = refl
place_alone c (d ∷ ds) h =
    let k = both (not (d == c)) (has_no c ds) h in
    ap (λ b. cond (not b) (1 + position_or_len (is_byte c) ds) 0) (other_byte c d k.0) ∙ ap (λ n. 1 + n) (place_alone c ds k.1) ∙ omega arith

pub before_joined : (c : ℕ) (x rest : Bytes) → has_no c x ≡ true → before_first (is_byte c) (x ++ c ∷ rest) ≡ x
before_joined c x rest h = ap (λ n. take n (x ++ c ∷ rest)) (place_joined c x rest h) ∙ take-append_seam x (c ∷ rest)

pub after_joined : (c : ℕ) (x rest : Bytes) → has_no c x ≡ true → after_first (is_byte c) (x ++ c ∷ rest) ≡ rest
after_joined c x rest h = ap (λ n. drop (n + 1) (x ++ c ∷ rest)) (place_joined c x rest h) ∙ drop-append-add x (c ∷ rest) 1

pub before_alone : (c : ℕ) (x : Bytes) → has_no c x ≡ true → before_first (is_byte c) x ≡ x
before_alone c x h = ap (λ n. take n x) (place_alone c x h) ∙ take-length x

-- with the byte in it, and without
pub record IsCut (c : ℕ) (text : Bytes) : Type 0 where
  pub at : text ≡ before_first (is_byte c) text ++ c ∷ after_first (is_byte c) text
  pub shorter : length (before_first (is_byte c) text) < length text

pub record IsWhole (c : ℕ) (text : Bytes) : Type 0 where
  pub before : before_first (is_byte c) text ≡ text
  pub after : after_first (is_byte c) text ≡ []

that_byte : (c d : ℕ) → is_byte c d ≡ true → d ≡ c
that_byte c d h = grind (arith, nat_tests)

whole : (c : ℕ) (text : Bytes) (n : ℕ) → n ≡ position_or_len (is_byte c) text → length text ≤ n → take n text ≡ text
whole c text n is le = take_all n text le
  where
    take_all : (n : ℕ) (xs : Bytes) → length xs ≤ n → take n xs ≡ xs
    take_all zero [] le = refl
    take_all (suc n) [] le = refl
    take_all zero (x ∷ xs) le = absurd (omega arith)
    take_all (suc n) (x ∷ xs) le = ap (λ ys. x ∷ ys) (take_all n xs (omega arith))

pub cut : (c : ℕ) (text : Bytes) → IsCut c text ⊎ IsWhole c text
cut c text =
    elim (cases_lt (position_or_len (is_byte c) text) (length text)) [
      | inl lt ↦ inl (cut_there lt)
      | inr ge ↦ inr (record { before = whole c text (position_or_len (is_byte c) text) refl ge; after = drop_of_length-le text (omega arith) })
    ]
  where
    cut_there : position_or_len (is_byte c) text < length text → IsCut c text
    cut_there lt =
        let at = split_at_first (is_byte c) text 0 lt
        ∙ ap (λ d. before_first (is_byte c) text ++ d ∷ after_first (is_byte c) text) (that_byte c (get_or text (position_or_len (is_byte c) text) 0) (passes_at_first (is_byte c) text 0 lt)) in
        let long = ap length at ∙ length-append (before_first (is_byte c) text) (c ∷ after_first (is_byte c) text) in
        record { at = at; shorter = omega (arith, long) }

-- ---- the parts

stroke_is : (text rest : Bytes) → behind_stroke text ≡ Some rest → text ≡ 47 ∷ 32 ∷ rest
stroke_is [] rest h = absurd cc
stroke_is (a ∷ []) rest h = absurd cc
stroke_is (a ∷ b ∷ more) rest h =
    let k = if_some ((a == 47) && (b == 32)) more rest h in
    let m = both (a == 47) (b == 32) k.0 in
    ap (λ (x : ℕ). x ∷ b ∷ more) (is a 47 m.0) ∙ ap (λ (x : ℕ). 47 ∷ x ∷ more) (is b 32 m.1) ∙ ap (λ (r : Bytes). 47 ∷ 32 ∷ r) k.1
  where
    is : (x y : ℕ) → (x == y) ≡ true → x ≡ y
    is x y e = grind (arith, nat_tests)

next_is : (text rest : Bytes) → next_part text ≡ Some rest → text ≡ first_word text ++ 32 ∷ 47 ∷ 32 ∷ rest
next_is text rest h =
    elim (cut 32 text) [
      | inl k ↦ k.at ∙ ap (λ (r : Bytes). first_word text ++ 32 ∷ r) (stroke_is (after_first (is_byte 32) text) rest h)
      | inr k ↦ absurd (let e : behind_stroke [] ≡ Some rest = ap behind_stroke (sym k.after) ∙ h in let no : ⊥ = cc in no)
    ]

pub word_before : (text word rest behind : Bytes) → word ≡ first_word text → rest ≡ after_first (is_byte 32) text → Some behind ≡ behind_stroke rest → text ≡ stroke word behind
word_before text word rest behind w r h = next_is text behind (sym (h ∙ ap behind_stroke r)) ∙ ap (λ (x : Bytes). stroke x behind) (sym w)

next_joined : (x rest : Bytes) → has_no 32 x ≡ true → next_part (x ++ 32 ∷ 47 ∷ 32 ∷ rest) ≡ Some rest
next_joined x rest h = ap behind_stroke (after_joined 32 x (47 ∷ 32 ∷ rest) h)

abbrev pub joined_parts : Parts → Bytes
joined_parts p = stroke p.letter (stroke p.time (stroke p.leaf (stroke p.first p.second)))

pub parts_made : (text : Bytes) (p : Parts) → cut_parts text ≡ Some p → text ≡ joined_parts p
parts_made text p h =
    let a = some_from (next_part text) _ p h in
    let b = some_from (next_part a.0) _ p a.2 in
    let c = some_from (next_part b.0) _ p b.2 in
    let d = some_from (next_part c.0) _ p c.2 in
    let whole = next_is text a.0 a.1 ∙ ap (stroke (first_word text)) (next_is a.0 b.0 b.1 ∙ ap (stroke (first_word a.0)) (next_is b.0 c.0 c.1 ∙ ap (stroke (first_word b.0)) (next_is c.0 d.0 d.1))) in
    whole ∙ ap joined_parts (same_some _ p d.2)

pub record AreWords (p : Parts) : Type 0 where
  pub letter : has_no 32 p.letter ≡ true
  pub time : has_no 32 p.time ≡ true
  pub leaf : has_no 32 p.leaf ≡ true
  pub first : has_no 32 p.first ≡ true

pub parts_cut : (p : Parts) → AreWords p → cut_parts (joined_parts p) ≡ Some p
parts_cut p w =
    let t3 = stroke p.first p.second in
    let t2 = stroke p.leaf t3 in
    let t1 = stroke p.time t2 in
    let t0 = stroke p.letter t1 in
    let made = λ (a b c d e : Bytes). let q : Parts = record { letter = a; time = b; leaf = c; first = d; second = e } in Some q in
    ap (λ o. for_some o (λ a. for_some (next_part a) (λ b. for_some (next_part b) (λ c. for_some (next_part c) (λ d. made (first_word t0) (first_word a) (first_word b) (first_word c) d))))) (next_joined p.letter t1 w.letter)
    ∙ ap (λ o. for_some o (λ b. for_some (next_part b) (λ c. for_some (next_part c) (λ d. made (first_word t0) (first_word t1) (first_word b) (first_word c) d)))) (next_joined p.time t2 w.time)
    ∙ ap (λ o. for_some o (λ c. for_some (next_part c) (λ d. made (first_word t0) (first_word t1) (first_word t2) (first_word c) d))) (next_joined p.leaf t3 w.leaf)
    ∙ ap (λ o. for_some o (λ d. made (first_word t0) (first_word t1) (first_word t2) (first_word t3) d)) (next_joined p.first p.second w.first)
    ∙ ap (λ x. made x (first_word t1) (first_word t2) (first_word t3) p.second) (before_joined 32 p.letter (47 ∷ 32 ∷ t1) w.letter)
    ∙ ap (λ x. made p.letter x (first_word t2) (first_word t3) p.second) (before_joined 32 p.time (47 ∷ 32 ∷ t2) w.time)
    ∙ ap (λ x. made p.letter p.time x (first_word t3) p.second) (before_joined 32 p.leaf (47 ∷ 32 ∷ t3) w.leaf)
    ∙ ap (λ x. made p.letter p.time p.leaf x p.second) (before_joined 32 p.first (47 ∷ 32 ∷ p.second) w.first)

-- ---- coordinates

most_is : (n m : ℕ) (o : Option ℕ) → option_and_then (number_at_most m) o ≡ Some n → nat_le n m ≡ true
most_is n m None h = absurd cc
most_is n m (Some k) h = let j = if_some (nat_le k m) k n h in ap (λ x. nat_le x m) (sym j.1) ∙ j.0

pub coordinate_is : (text : Bytes) (n : ℕ) → coordinate text ≡ Some n → (text ≡ decimal n) × (nat_le n 1048575 ≡ true)
coordinate_is text n h =
    let k = kept decimal text n (option_and_then (number_at_most 1048575) (whole_number 7 text)) h in
    (k.1, most_is n 1048575 (whole_number 7 text) k.0)

low : (n : ℕ) → nat_le n 1048575 ≡ true → n ≤ 1048575
low n h = grind (arith, nat_tests)

digits_of : (n : ℕ) → nat_le n 1048575 ≡ true → list_all is_digit (decimal n) ≡ true
digits_of n h = let le = low n h in (decimal_is n (omega (arith, le))).digits

pub decimal_no : (c n : ℕ) → is_digit c ≡ false → nat_le n 1048575 ≡ true → has_no c (decimal n) ≡ true
decimal_no c n e h = no_digit c e (decimal n) (digits_of n h)

is_long : (text : Bytes) → 0 < length text → length text ≤ 7 → (nat_le 1 (length text)) && (nat_le (length text) 7) ≡ true
is_long text a b =
    let l : nat_le 1 (length text) ≡ true = grind (arith, nat_tests) in
    let m : nat_le (length text) 7 ≡ true = grind (arith, nat_tests) in
    and_true _ _ l m

number_read : (n : ℕ) → nat_le n 1048575 ≡ true → whole_number 7 (decimal n) ≡ Some n
number_read n h =
    let le = low n h in
    let k = decimal_is n (omega (arith, le)) in
    let short = length-decimal-le_wide 7 n (lit< tt) (omega (arith, le)) (omega (arith, le)) in
    ap (λ b. then_some b (number_in (decimal n))) (and_true _ _ (is_long (decimal n) k.some short) (all_ascii_digits-list_all (decimal n) ∙ k.digits)) ∙ ap (λ m. Some m) k.value

pub coordinate_read : (n : ℕ) → nat_le n 1048575 ≡ true → coordinate (decimal n) ≡ Some n
coordinate_read n h =
    written decimal (option_and_then (number_at_most 1048575) (whole_number 7 (decimal n))) n
    (ap (option_and_then (number_at_most 1048575)) (number_read n h) ∙ ap (λ b. cond b (Some n) None) h)

pub no_empty : (n : ℕ) → coordinate [] ≡ Some n → ⊥
no_empty n h =
    let k = coordinate_is [] n h in
    let le = low n k.1 in
    let some = (decimal_is n (omega (arith, le))).some in
    let none = ap length k.0 in
    omega (arith, some, none)
