-- Two digits at a time.
use Rattle.std.proofs.Common.{◌≡◌, ℕ, zero, suc, ◌+◌, ◌-◌, ◌*◌, ◌/◌, ◌%◌, ◌<◌, Bool, true, ◌&&◌, T, eqb, List, [], ◌∷◌, ◌++◌, get_or, ap, sym, ◌∙◌, inl, inr, arith, eq-zero-or-pos, eqb→eq, append_assoc}
use lib.Ieee.Fits.{and_l, and_r}
use Rattle.quantity.specs.declared.short_text.TheConstants.{PAIRS}
use Rattle.quantity.specs.Digits.{last_digits}

abbrev are_pairs : ℕ → Bool
are_pairs zero = true
are_pairs (suc p) = (eqb (get_or PAIRS (p * 2) 0) (48 + p / 10) && eqb (get_or PAIRS (p * 2 + 1) 0) (48 + p % 10)) && are_pairs p

below : (n p : ℕ) → T (are_pairs n) → p < n → (get_or PAIRS (p * 2) 0 ≡ 48 + p / 10) × (get_or PAIRS (p * 2 + 1) 0 ≡ 48 + p % 10)
below zero p t h = absurd (omega arith)
below (suc n) p t h =
    elim (eq-zero-or-pos (n - p)) [
      | inl z ↦ let e : p ≡ n = omega arith in let a = and_l _ (are_pairs n) t in rw e (eqb→eq _ _ (and_l _ _ a), eqb→eq _ _ (and_r _ _ a))
      | inr g ↦ below n p (and_r _ (are_pairs n) t) (omega arith)
    ]

-- the table has the digits of each number below 100
pub pair_at : (p : ℕ) → p < 100 → (get_or PAIRS (p * 2) 0 ≡ 48 + p / 10) × (get_or PAIRS (p * 2 + 1) 0 ≡ 48 + p % 10)
pair_at p h = below 100 p tt h

pub one_pair : (k n : ℕ) (text : List ℕ) → last_digits k (n / 100) ++ (48 + n % 100 / 10) ∷ (48 + n % 100 % 10) ∷ text ≡ last_digits (suc (suc k)) n ++ text
one_pair k n text =
    let rest : n / 10 / 10 ≡ n / 100 = omega arith in
    let tens : n / 10 % 10 ≡ n % 100 / 10 = omega arith in
    let ones : n % 10 ≡ n % 100 % 10 = omega arith in
    ap (λ m. last_digits k m ++ (48 + n % 100 / 10) ∷ (48 + n % 100 % 10) ∷ text) (sym rest)
    ∙ ap (λ d. last_digits k (n / 10 / 10) ++ (48 + d) ∷ (48 + n % 100 % 10) ∷ text) (sym tens)
    ∙ ap (λ d. last_digits k (n / 10 / 10) ++ (48 + n / 10 % 10) ∷ (48 + d) ∷ text) (sym ones)
    ∙ sym (append_assoc (last_digits k (n / 10 / 10)) ((48 + n / 10 % 10) ∷ []) ((48 + n % 10) ∷ text))
    ∙ sym (append_assoc (last_digits k (n / 10 / 10) ++ (48 + n / 10 % 10) ∷ []) ((48 + n % 10) ∷ []) text)
