-- Texts of the usual forms.
use Rattle.std.proofs.Common.{◌≡◌, ℕ, zero, suc, ◌+◌, ◌*◌, ◌<◌, ◌≤◌, Bool, true, false, Some, ◌∷◌, ◌-◌, refl, sym, ap, ◌∙◌, arith, length, get_or, codes, decimal}
use Rattle.std.specs.Prelude.{pos, nat_le}
use Rattle.std.specs.Fmt.{digits}
use Rattle.std.specs.Bool.{then_some}
use Rattle.std.specs.List.{fold}
use Rattle.std.specs.Str.{all_ascii_digits}
use Rattle.std.proofs.lemmas.Bool.Decides.{nat_tests}
use Rattle.std.proofs.lemmas.Fmt.{decimal-digits_value}
use Rattle.std.proofs.lemmas.Str.Parse.{IsNumeralModel, numerals_by_fold, tells_all_ascii_digits}
use Rattle.quantity.specs.declared.value.Value.TheVariants.{Num}
use Rattle.quantity.specs.Bytes.{Bytes}
use Rattle.quantity.specs.Digits.{are_digits, has_length, number_in, whole_number}
use Rattle.quantity.specs.ReadBack.{read_text5}
use Rattle.quantity.specs.ValueTexts.{text5}
use Rattle.quantity.proofs.DigitLemmas.{both}
use Rattle.text_forms.specs.LogLine.{is_value}
use Rattle.drawlog_top.specs.Strict.{coordinate}
use Rattle.drawlog_top.proofs.StrictLemmas.{coordinate_read, same_some}
use Rattle.drawlog_top.proofs.StrictLines.{value_is}

-- ---- values

digit_read : (d : ℕ) → d < 10 → read_text5 ((48 + d) ∷ codes ".00000") ≡ Some (Num (pos (d * 100000)))
unfolding digits
digit_read zero h = refl
digit_read (suc zero) h = refl
digit_read (suc (suc zero)) h = refl
digit_read (suc (suc (suc zero))) h = refl
digit_read (suc (suc (suc (suc zero)))) h = refl
digit_read (suc (suc (suc (suc (suc zero))))) h = refl
digit_read (suc (suc (suc (suc (suc (suc zero)))))) h = refl
digit_read (suc (suc (suc (suc (suc (suc (suc zero))))))) h = refl
digit_read (suc (suc (suc (suc (suc (suc (suc (suc zero)))))))) h = refl
digit_read (suc (suc (suc (suc (suc (suc (suc (suc (suc zero))))))))) h = refl
digit_read (suc (suc (suc (suc (suc (suc (suc (suc (suc (suc n)))))))))) h = absurd (omega arith)

pub value_as_read : (text : Bytes) (d : ℕ) → d < 10 → text ≡ (48 + d) ∷ codes ".00000" → Some (Num (pos (d * 100000))) ≡ read_text5 text
value_as_read text d lt e = sym (ap read_text5 e ∙ digit_read d lt)

pub digit_value : (d : ℕ) → d < 10 → (text5 (Num (pos (d * 100000))) ≡ (48 + d) ∷ codes ".00000") × (is_value (Num (pos (d * 100000))) ≡ true)
digit_value d lt = let k = value_is ((48 + d) ∷ codes ".00000") (Num (pos (d * 100000))) (digit_read d lt) in (sym k.0, k.1)

-- ---- coordinates

abbrev AreDigits : Bytes → Type 0
AreDigits ds = all_ascii_digits ds ≡ true

reads_numbers : IsNumeralModel AreDigits number_in
reads_numbers = numerals_by_fold AreDigits tells_all_ascii_digits (λ n ds. fold (λ n c. n * 10 + (c - 48)) n ds) (record { empty = λ n. refl; more = λ n c cs k. refl })

pub plain_is : (text : Bytes) (n : ℕ) → all_ascii_digits text ≡ true → 0 < length text → (get_or text 0 0 ≡ 48 → length text ≡ 1) → n ≡ number_in text → n ≤ 1048575 → text ≡ decimal n
plain_is text n digits some no_zero is le = sym (decimal-digits_value reads_numbers text digits some no_zero (omega (arith, is, le))) ∙ ap decimal (sym is)

pub coordinate_as_read : (text : Bytes) (n : ℕ) → n ≤ 1048575 → text ≡ decimal n → Some n ≡ coordinate text
coordinate_as_read text n le e = let small : nat_le n 1048575 ≡ true = grind (arith, nat_tests) in sym (ap coordinate e ∙ coordinate_read n small)

-- as a whole number of at most seven digits is read
pub plain_read : (text : Bytes) (n : ℕ) → Some n ≡ whole_number 7 text → (0 < length text → get_or text 0 0 ≡ 48 → length text ≡ 1) → n ≤ 1048575 → text ≡ decimal n
plain_read text n h no_zero le = by (are_digits 1 7 text) refl h
  where
    some_byte : (b : Bool) → has_length 1 7 text ≡ true → 0 < length text
    some_byte b e = grind (arith, nat_tests)

    by : (b : Bool) → are_digits 1 7 text ≡ b → Some n ≡ then_some b (number_in text) → text ≡ decimal n
    by false e h = absurd cc
    by true e h =
        let k = both (has_length 1 7 text) (all_ascii_digits text) e in
        let some = some_byte true k.0 in
        let same : n ≡ number_in text = same_some n (number_in text) h in
        plain_is text n k.1 some (no_zero some) same le
