-- Numbers that were read of the values of entries.
use Rattle.std.proofs.Common.{◌≡◌, ℕ, zero, suc, ◌+◌, ◌-◌, ◌<◌, ◌≤◌, ◌^◌, Bool, true, false, IsTrue, Option, Some, None, List, [], ◌∷◌, ◌++◌, map, length, get_or, take, refl, sym, subst, ap, ◌∙◌, Bor, add-one, lit<, arith}
use Rattle.std.specs.Prelude.{IfSome}
use Rattle.std.specs.Bool.{then_some}
use Rattle.std.specs.List.{AllByRecursion, filter, flat_map}
use Rattle.std.specs.Option.{option_and_then}
use Rattle.std.specs.Str.{all_ascii_digits, bytes_eq}
use Rattle.std.proofs.lemmas.List.{take_all, take_more, map-append}
use Rattle.std.proofs.lemmas.List.Concat.{flat_map-append}
use Rattle.std.proofs.lemmas.List.Elements.{All-from_recursion, filter-append}
use Rattle.std.proofs.lemmas.Option.{IfSome_then}
use Rattle.quantity.specs.Bytes.{Bytes, words}
use Rattle.quantity.specs.Digits.{are_digits, has_length, number_in, whole_number}
use Rattle.quantity.proofs.DigitLemmas.{below_more, both, digit_at, no_longer, number_in-more, one_digit_more}
use Rattle.ma_lines.specs.declared.section.Entry.{Entry}
use Rattle.ma_lines.specs.Sections.{Section}
use Rattle.model_text.specs.Keyed.{Item, entries_of, texts_of}
use Rattle.model_walk.specs.declared.read_section.ReadEntry.{ReadEntry}
use Rattle.model_walk.specs.ReadValues as read

-- ---- numbers

first_below : (text : Bytes) → IsTrue (all_ascii_digits text) → (i : ℕ) → i ≤ length text → number_in (take i text) < 10 ^ i
first_below text h zero le = lit< tt
first_below text h (suc i) le =
    let lt : i < length text = omega arith in
    let here : number_in (take i text) < 10 ^ i = first_below text h i (omega arith) in
    let digit = digit_at text i h lt in
    let small : get_or text i 0 - 48 ≤ 9 = omega (arith, digit) in
    subst (λ k. number_in (take k text) < 10 ^ k) (add-one i)
    (subst (λ n. n < 10 ^ (i + 1)) (number_in-more text i _ _ lt refl refl) (one_digit_more (number_in (take i text)) i (get_or text i 0 - 48) here small))

-- a number of at most so many digits is below that power of ten
whole_below : (most : ℕ) (text : Bytes) → IfSome (whole_number most text) (λ n. n < 10 ^ most)
whole_below most text = by (are_digits 1 most text) refl
  where
    by : (b : Bool) → are_digits 1 most text ≡ b → IfSome (then_some b (number_in text)) (λ n. n < 10 ^ most)
    by true e =
        let few : length text ≤ length text = omega arith in
        let digits : IsTrue (all_ascii_digits text) = (both (has_length 1 most text) (all_ascii_digits text) e).1 in
        let whole = subst (λ (xs : Bytes). number_in xs < 10 ^ length text) (take_all (length text) text few) (first_below text digits (length text) few) in
        below_more (number_in text) (length text) most whole (no_longer 1 most text e)
    by false e = tt

pub number_below : (most : ℕ) (o : Option (Bor ReadEntry)) → 10 ^ most ≤ 2 ^ 32
    → IfSome o (λ (r : Bor ReadEntry). read.number_in r.now.value ≡ whole_number most r.now.entry.now.value)
    → IfSome (option_and_then (λ (r : Bor ReadEntry). read.number_in r.now.value) o) (λ n. n < 2 ^ 32)
number_below most None le h = tt
number_below most (Some r) le h =
    subst (λ (o : Option ℕ). IfSome o (λ n. n < 2 ^ 32)) (sym h)
    (IfSome_then (whole_number most r.now.entry.now.value) (whole_below most r.now.entry.now.value) (λ n lt. omega arith))
