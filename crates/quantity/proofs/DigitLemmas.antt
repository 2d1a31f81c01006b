-- Digits and the numbers that they stand for.
use Rattle.std.proofs.Common.{Bool, IsTrue, List, [], add-one, ap, arith, false, get_or, length, length-append, lit<, lit≤, refl, replicate, suc, sym, take, true, zero, ℕ, ◌&&◌, ◌*◌, ◌++◌, ◌+◌, ◌-◌, ◌<◌, ◌^◌, ◌∙◌, ◌∷◌, ◌≡◌, ◌≤◌}
use Rattle.std.proofs.Math.Nat.{pow-suc, pow-le-pow_right}
use Rattle.std.proofs.lemmas.Nat.{pow-add}
use Rattle.std.proofs.lemmas.List.{get_or-replicate}
use Rattle.std.proofs.lemmas.List.Sums.{AllPass-from_list_all, fold_more}
use Rattle.std.proofs.lemmas.Bool.Decides.{nat_tests}
use Rattle.std.specs.Char.{is_ascii_digit}
use Rattle.std.specs.List.{list_all}
use Rattle.std.specs.Str.{all_ascii_digits}
use Rattle.quantity.specs.Digits.{are_digits, number_in}

pub both : (a b : Bool) → a && b ≡ true → (a ≡ true) × (b ≡ true)
both true true e = (refl, refl)
both true false e = absurd cc
both false b e = absurd cc

pub all_ascii_digits-list_all : (text : List ℕ) → all_ascii_digits text ≡ list_all is_ascii_digit text
all_ascii_digits-list_all [] = refl
all_ascii_digits-list_all (c ∷ cs) = ap (λ b. is_ascii_digit c && b) (all_ascii_digits-list_all cs)

between : (c : ℕ) → is_ascii_digit c ≡ true → (48 ≤ c) × (c ≤ 57)
between c e = (grind (arith, nat_tests), grind (arith, nat_tests))

pub digit_at : (text : List ℕ) (i : ℕ) → IsTrue (all_ascii_digits text) → i < length text → (48 ≤ get_or text i 0) × (get_or text i 0 ≤ 57)
digit_at text i h lt = between (get_or text i 0) (AllPass-from_list_all is_ascii_digit text (sym (all_ascii_digits-list_all text) ∙ h) i 0 lt)

pub one_digit_more : (n i d : ℕ) → n < 10 ^ i → d ≤ 9 → n * 10 + d < 10 ^ (i + 1)
one_digit_more n i d h l = let p : 10 ^ (i + 1) ≡ 10 ^ i * 10 = rw add-one (pow-suc 10 i) in omega arith

pub below_more : (n i j : ℕ) → n < 10 ^ i → i ≤ j → n < 10 ^ j
below_more n i j h l = let p : 10 ^ i ≤ 10 ^ j = pow-le-pow_right (lit< tt) l in omega arith

-- a number of at most 18 digits fits 64 bits, and so does one digit more
pub below_18 : (n i : ℕ) → n < 10 ^ i → i ≤ 18 → n < 10 ^ 18
below_18 n i h l = below_more n i 18 h l

pub no_longer : (least most : ℕ) (text : List ℕ) → are_digits least most text ≡ true → length text ≤ most
no_longer least most text e = grind (arith, nat_tests)

pub number_in-more : (digits : List ℕ) (i n d : ℕ) → i < length digits → n ≡ number_in (take i digits) → d ≡ get_or digits i 0 - 48 → n * 10 + d ≡ number_in (take (i + 1) digits)
number_in-more digits i n d lt e f = ap (λ m. m * 10 + d) e ∙ ap (λ m. number_in (take i digits) * 10 + m) f ∙ sym (fold_more (λ n c. n * 10 + (c - 48)) 0 digits i 0 lt)

-- a digit, or 0 past the end
pub digit_or_zero : (text : List ℕ) (i : ℕ) → all_ascii_digits text ≡ true → (48 ≤ get_or text i 48) × (get_or text i 48 ≤ 57)
digit_or_zero [] i h = (lit≤ tt, lit≤ tt)
digit_or_zero (c ∷ cs) zero h = between c (both (is_ascii_digit c) (all_ascii_digits cs) h).0
digit_or_zero (c ∷ cs) (suc i) h = digit_or_zero cs i (both (is_ascii_digit c) (all_ascii_digits cs) h).1

pub padded_at : (text : List ℕ) (i : ℕ) → i < 5 → get_or (text ++ replicate 5 48) i 0 ≡ get_or text i 48
padded_at [] i lt = get_or-replicate 5 i 48 0 lt
padded_at (c ∷ cs) zero lt = refl
padded_at (c ∷ cs) (suc i) lt = padded_at cs i (omega arith)

pub decimal_more : (text : List ℕ) (i n d : ℕ) → i < 5 → n ≡ number_in (take i (text ++ replicate 5 48)) → d ≡ get_or text i 48 - 48 → n * 10 + d ≡ number_in (take (i + 1) (text ++ replicate 5 48))
decimal_more text i n d lt e f =
    number_in-more (text ++ replicate 5 48) i n d (omega (arith, length-append text (replicate 5 48))) e (f ∙ ap (λ c. c - 48) (sym (padded_at text i lt)))

-- five decimals more
pub with_decimals : (most length n d : ℕ) → n < 10 ^ length → length ≤ most → d < 100000 → n * 100000 + d < 10 ^ (most + 5)
with_decimals most length n d h l k = let whole = below_more n length most h l in let p : 10 ^ (most + 5) ≡ 10 ^ most * 10 ^ 5 = pow-add 10 most 5 in omega arith
