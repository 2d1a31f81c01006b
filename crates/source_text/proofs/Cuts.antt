-- Texts that are cut at bytes.
use Rattle.std.proofs.Common.{◌≡◌, ℕ, ◌+◌, ◌-◌, ◌<◌, ◌≤◌, Bool, true, false, cond, Some, None, List, [], ◌∷◌, refl, sym, ap, ◌∙◌, arith, length, take, drop, position, unwrap_or, nat_lt}
use Rattle.std.proofs.lemmas.Bool.Decides.{nat_tests}
use Rattle.std.proofs.lemmas.List.{take_rest}
use Rattle.std.proofs.lemmas.List.Splits.{slice_split_first, slice_split_none}
use Rattle.std.proofs.lemmas.List.Sums.{fails_before_first, prefix_len-le-length}
use Rattle.std.specs.List.{position_or_len, slice_split}
use Rattle.quantity.specs.Bytes.{Bytes}

-- ---- the place of a byte

at_end : (b : Bool) (i n : ℕ) → i ≤ n → nat_lt i n ≡ b → unwrap_or (cond b (Some i) None) n ≡ i
at_end true i n h e = refl
at_end false i n h e = grind (arith, nat_tests)

pub unwrap_or-position : {A : Type 0} (p : A → Bool) (xs : List A) → unwrap_or (position p xs) (length xs) ≡ position_or_len p xs
unwrap_or-position p xs = at_end (nat_lt (position_or_len p xs) (length xs)) (position_or_len p xs) (length xs) (prefix_len-le-length _ xs) refl

found_by : (b : Bool) (i n k : ℕ) → nat_lt i n ≡ b → cond b (Some i) None ≡ Some k → (k ≡ i) × (i < n)
found_by true i n k e f = (cc, grind (arith, nat_tests))
found_by false i n k e f = absurd cc

pub found : (p : ℕ → Bool) (text : Bytes) (k : ℕ) → position p text ≡ Some k → (k ≡ position_or_len p text) × (position_or_len p text < length text)
found p text k e = found_by (nat_lt (position_or_len p text) (length text)) (position_or_len p text) (length text) k refl e

missed_by : (b : Bool) (i n : ℕ) → nat_lt i n ≡ b → cond b (Some i) None ≡ None → n ≤ i
missed_by true i n e f = absurd cc
missed_by false i n e f = grind (arith, nat_tests)

pub missed : (p : ℕ → Bool) (text : Bytes) → position p text ≡ None → length text ≤ position_or_len p text
missed p text e = missed_by (nat_lt (position_or_len p text) (length text)) (position_or_len p text) (length text) refl e

-- ---- parts

pub parts_at : (p : ℕ → Bool) (text : Bytes) (k : ℕ) → position p text ≡ Some k
    → slice_split p text ≡ take k text ∷ slice_split p (take (length text - (k + 1)) (drop (k + 1) text))
parts_at p text k e =
    let at = found p text k e in
    slice_split_first p text 0 at.1
    ∙ ap (λ i. take i text ∷ slice_split p (drop (i + 1) text)) (sym at.0)
    ∙ ap (λ rest. take k text ∷ slice_split p rest) (sym (take_rest text (k + 1)))

pub one_part : (p : ℕ → Bool) (text : Bytes) → position p text ≡ None → slice_split p text ≡ text ∷ []
one_part p text e = let none = missed p text e in slice_split_none p text (λ k d lt. fails_before_first p text k d (omega arith))
