-- Bits of words.
use Rattle.std.proofs.Common.{◌≡◌, ℕ, ◌*◌, ◌/◌, ◌%◌, ◌^◌, ◌<◌, ◌≤◌, Bool, true, false, List, get_or, set, replicate, length, eqb, eqb-true, refl, sym, ◌∙◌, ap, inl, inr, arith, w64, get_or-set_same, get_or-set_other}
use Rattle.std.proofs.lemmas.Bool.{both_ways, cases_eq, cases_lt}
use Rattle.std.proofs.lemmas.List.{get_or_past, get_or-replicate, length-replicate}
use Rattle.std.proofs.lemmas.Nat.{and_le_l}
use Rattle.std.proofs.lemmas.Nat.Bits.{bit_at-zero, shr_and_one, bit_at-trailing_zeros, bit_at_set_same, bit_at_set_other, bit_at_clear_same, bit_at_clear_other, bit_at_or, bit_at-lt}
use Rattle.std.specs.Prelude.{bit_and, bit_or}
use Rattle.std.specs.Int.{bit_at, bit_not, trailing_zeros}
use Rattle.leaf_set.specs.Words.{has, has_bit, those_from, ones_of, SetsBit, Clears, Grows, TakesLowest}
use Rattle.leaf_set.proofs.ThoseFrom.{those-same}

pub tests : (words : List ℕ) (at : ℕ) → eqb (bit_and (get_or words (at / 64) 0 / 2 ^ (at % 64)) 1) 1 ≡ has words at
unfolding has has_bit
tests words at = ap (λ x. eqb x 1) (shr_and_one (get_or words (at / 64) 0) (at % 64))

is-there : (word i : ℕ) → bit_at word i ≡ 1 → has_bit word i ≡ true
unfolding has_bit
is-there word i h = ap (λ x. eqb x 1) h

not-there : (word i : ℕ) → bit_at word i ≡ 0 → has_bit word i ≡ false
unfolding has_bit
not-there word i h = ap (λ x. eqb x 1) h

same-there : (a b i : ℕ) → bit_at a i ≡ bit_at b i → has_bit a i ≡ has_bit b i
unfolding has_bit
same-there a b i h = ap (λ x. eqb x 1) h

pub none-of-zero : (i : ℕ) → has_bit 0 i ≡ false
none-of-zero i = not-there 0 i (bit_at-zero i)

-- in a word of a row
pub has-in-word : (words : List ℕ) (k i : ℕ) → i / 64 ≡ k → has words i ≡ has_bit (get_or words k 0) (i % 64)
unfolding has
has-in-word words k i is = ap (λ j. has_bit (get_or words j 0) (i % 64)) is

pub ones-of-word : (words : List ℕ) (at : ℕ) → those_from (has words) (64 * at) 64 ≡ ones_of (get_or words at 0) at
ones-of-word words at =
    those-same (has words) (λ i. has_bit (get_or words at 0) (i % 64)) (64 * at) 64 (λ i low high. has-in-word words at i (omega arith))

written-there : (words : List ℕ) (k i word : ℕ) → k < length words → i / 64 ≡ k → has (set words k word) i ≡ has_bit word (i % 64)
written-there words k i word within is =
    has-in-word (set words k word) k i is ∙ ap (λ w. has_bit w (i % 64)) (get_or-set_same words k word 0 within)

written-elsewhere : (words : List ℕ) (k i word : ℕ) → (i / 64 ≡ k → ⊥) → has (set words k word) i ≡ has words i
unfolding has
written-elsewhere words k i word other = ap (λ w. has_bit w (i % 64)) (get_or-set_other words k (i / 64) word 0 other)

-- a word that differs in one bit is written
written : (words : List ℕ) (at word : ℕ) (bit : Bool) → at / 64 < length words → has_bit word (at % 64) ≡ bit
    → ((i : ℕ) → i < 64 → (i ≡ at % 64 → ⊥) → has_bit word i ≡ has_bit (get_or words (at / 64) 0) i)
    → SetsBit words (set words (at / 64) word) at bit
written words at word bit within is others = record {
  there = written-there words (at / 64) at word within refl ∙ is;
  elsewhere =
      λ i other.
      elim (cases_eq (i / 64) (at / 64)) [
        | inl same ↦
            written-there words (at / 64) i word within same
            ∙ others (i % 64) (omega arith) (λ both. other (omega arith))
            ∙ sym (has-in-word words (at / 64) i same)
        | inr apart ↦ written-elsewhere words (at / 64) i word apart
      ];
}

pub set-bit : (words : List ℕ) (at : ℕ) → at / 64 < length words
    → SetsBit words (set words (at / 64) (bit_or (get_or words (at / 64) 0) (1 * 2 ^ (at % 64) % 2 ^ 64))) at true
set-bit words at within =
    let word = get_or words (at / 64) 0 in
    let small : at % 64 < 64 = omega arith in
    let new = bit_or word (1 * 2 ^ (at % 64) % 2 ^ 64) in
    written words at new true within
    (is-there new (at % 64) (bit_at_set_same w64 word (at % 64) small))
    (λ i low other. same-there new word i (bit_at_set_other w64 word (at % 64) small i other))

pub cleared-bit : (words : List ℕ) (at : ℕ) → at / 64 < length words
    → SetsBit words (set words (at / 64) (bit_and (get_or words (at / 64) 0) (bit_not w64 (1 * 2 ^ (at % 64) % 2 ^ 64)))) at false
cleared-bit words at within =
    let word = get_or words (at / 64) 0 in
    let small : at % 64 < 64 = omega arith in
    let new = bit_and word (bit_not w64 (1 * 2 ^ (at % 64) % 2 ^ 64)) in
    written words at new false within
    (not-there new (at % 64) (bit_at_clear_same w64 word (at % 64) small))
    (λ i low other. same-there new word i (bit_at_clear_other w64 word (at % 64) small i low other))

pub cleared-word : (words : List ℕ) (k : ℕ) → k < length words → Clears words (set words k 0) (64 * k) 64
cleared-word words k within = record {
  gone = λ i low high. written-there words k i 0 within (omega arith) ∙ none-of-zero (i % 64);
  below = λ i high. written-elsewhere words k i 0 (λ same. omega arith);
  above = λ i low. written-elsewhere words k i 0 (λ same. omega arith);
}

-- a word is larger than itself without a bit that it has
less-without : (word k : ℕ) → k < 64 → bit_at word k ≡ 1 → bit_and word (bit_not w64 (1 * 2 ^ k % 2 ^ 64)) < word
less-without word k small is =
    let left : ℕ = bit_and word (bit_not w64 (1 * 2 ^ k % 2 ^ 64)) in
    let gone : bit_at left k ≡ 0 = bit_at_clear_same w64 word k small in
    elim (cases_eq left word) [
      | inl same ↦ absurd (let both : bit_at left k ≡ bit_at word k = ap (λ x. bit_at x k) same in omega arith)
      | inr other ↦ omega (arith, and_le_l word (bit_not w64 (1 * 2 ^ k % 2 ^ 64)))
    ]

pub lowest-taken : (word : ℕ) → 0 < word → word < 2 ^ 64
    → TakesLowest word (bit_and word (bit_not w64 (1 * 2 ^ (trailing_zeros w64 word) % 2 ^ 64))) (trailing_zeros w64 word)
lowest-taken word some fits =
    let at = bit_at-trailing_zeros w64 word some fits in
    let bit = trailing_zeros w64 word in
    let left = bit_and word (bit_not w64 (1 * 2 ^ bit % 2 ^ 64)) in
    record {
      within = at.0;
      there = is-there word bit at.1;
      lowest = λ i low. not-there word i (at.2 i low);
      gone = not-there left bit (bit_at_clear_same w64 word bit at.0);
      elsewhere = λ i low other. same-there left word i (bit_at_clear_other w64 word bit at.0 i low other);
      less = less-without word bit at.0 at.1;
    }

-- words have no bit past their end
pub has-past : (words : List ℕ) (i : ℕ) → 64 * length words ≤ i → has words i ≡ false
unfolding has
has-past words i past = ap (λ w. has_bit w (i % 64)) (get_or_past words (i / 64) 0 (omega arith)) ∙ none-of-zero (i % 64)

pub none-of-zeros : (n i : ℕ) → has (replicate n 0) i ≡ false
none-of-zeros n i =
    elim (cases_lt (i / 64) n) [
      | inl inside ↦
          has-in-word (replicate n 0) (i / 64) i refl
          ∙ ap (λ w. has_bit w (i % 64)) (get_or-replicate n (i / 64) 0 0 inside) ∙ none-of-zero (i % 64)
      | inr past ↦ has-past (replicate n 0) i (omega (arith, length-replicate {A = ℕ} n 0))
    ]

-- ---- one word joined with another

there-is : (word i : ℕ) → has_bit word i ≡ true → bit_at word i ≡ 1
unfolding has_bit
there-is word i h = eqb-true (bit_at word i) 1 h

or-kept : (a b i : ℕ) → has_bit a i ≡ true → has_bit (bit_or a b) i ≡ true
or-kept a b i h = is-there (bit_or a b) i (omega (arith, bit_at_or a b i, there-is a i h, bit_at-lt b i))

or-joined : (a b i : ℕ) → has_bit b i ≡ true → has_bit (bit_or a b) i ≡ true
or-joined a b i h = is-there (bit_or a b) i (omega (arith, bit_at_or a b i, there-is b i h, bit_at-lt a i))

or-came : (a b i : ℕ) → has_bit a i ≡ false → has_bit (bit_or a b) i ≡ true → has_bit b i ≡ true
or-came a b i none some =
    let apart : bit_at a i ≡ 1 → ⊥ = λ is. both_ways (has_bit a i) none (is-there a i is) in
    is-there b i (omega (arith, apart, bit_at_or a b i, there-is (bit_or a b) i some, bit_at-lt a i, bit_at-lt b i))

-- words of which the one at a place has the bits of another's as well
abbrev pub with_word : List ℕ → List ℕ → ℕ → List ℕ
with_word words more at = set words at (bit_or (get_or words at 0) (get_or more at 0))

pub joined-there : (words more : List ℕ) (at : ℕ) → at < length words → (i : ℕ) → i / 64 ≡ at → has more i ≡ true → has (with_word words more at) i ≡ true
joined-there words more at within i is some =
    written-there words at i (bit_or (get_or words at 0) (get_or more at 0)) within is
    ∙ or-joined (get_or words at 0) (get_or more at 0) (i % 64) (sym (has-in-word more at i is) ∙ some)

pub joined-grows : (words more : List ℕ) (at : ℕ) → at < length words → Grows words more (with_word words more at)
joined-grows words more at within =
    let a = get_or words at 0 in
    let b = get_or more at 0 in
    record {
      kept =
          λ i had.
          elim (cases_eq (i / 64) at) [
            | inl same ↦ written-there words at i (bit_or a b) within same ∙ or-kept a b (i % 64) (sym (has-in-word words at i same) ∙ had)
            | inr other ↦ written-elsewhere words at i (bit_or a b) other ∙ had
          ];
      only =
          λ i none some.
          elim (cases_eq (i / 64) at) [
            | inl same ↦
                has-in-word more at i same
                ∙ or-came a b (i % 64) (sym (has-in-word words at i same) ∙ none) (sym (written-there words at i (bit_or a b) within same) ∙ some)
            | inr other ↦ absurd (both_ways (has words i) none (sym (written-elsewhere words at i (bit_or a b) other) ∙ some))
          ];
    }
