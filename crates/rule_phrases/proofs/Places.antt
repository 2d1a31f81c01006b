-- Where names stand in a group's lists.
use Rattle.std.proofs.Common.{◌≡◌, ℕ, ◌<◌, ◌≤◌, ℤ, pos, ◌-ℤ◌, Bool, true, false, cond, Option, Some, None, unwrap_or, List, ◌∷◌, length, refl, ap, ◌∙◌, arith}
use Rattle.std.specs.Prelude.{◌&&◌, IfSome, nat_lt}
use Rattle.std.specs.List.{position, position_or_len}
use Rattle.std.proofs.lemmas.Bool.Decides.{nat_tests}
use Rattle.quantity.specs.Arithmetic.{is_zero}
use Rattle.quantity.specs.declared.place.Offset.{Offset}
use Rattle.rule_tree.specs.Scope.{same_offset, offset_of}
use Rattle.rule_words.specs.Shown.{plane_of}

pub all_of : (r a b c x y z : Bool) → r ≡ (a && b && c) → a ≡ x → b ≡ y → c ≡ z → r ≡ (x && y && z)
all_of r a b c x y z h ea eb ec = h ∙ ap (λ v. v && b && c) ea ∙ ap (λ v. x && v && c) eb ∙ ap (λ v. x && y && v) ec

below_or_none : (b : Bool) (k n : ℕ) → nat_lt k n ≡ b → n < 256 → IfSome (cond b (Some k) None) (λ k. k < 256)
below_or_none true k n e h = grind (arith, nat_tests)
below_or_none false k n e h = tt

along : (r s : Option ℕ) → r ≡ s → IfSome s (λ k. k < 256) → IfSome r (λ k. k < 256)
along r s e h = rw e h

pub small_position : {X : Type 0} (p : X → Bool) (xs : List X) (r : Option ℕ) → r ≡ position p xs → length xs ≤ 128 → IfSome r (λ k. k < 256)
small_position p xs r e h =
    along r (position p xs) e (below_or_none (nat_lt (position_or_len p xs) (length xs)) (position_or_len p xs) (length xs) refl (omega arith))

pub at_offset : (row column : ℤ) (plane : Option ℤ) (o : Offset) (r a b c : Bool) → r ≡ (a && b && c) → a ≡ is_zero (row -ℤ o.row) → b ≡ is_zero (column -ℤ o.column) → c ≡ is_zero (unwrap_or plane (pos 0) -ℤ o.plane) → r ≡ same_offset (offset_of (row ∷ column ∷ plane_of plane)) o
at_offset row column None o r a b c h ea eb ec = all_of r a b c _ _ _ h ea eb ec
at_offset row column (Some p) o r a b c h ea eb ec = all_of r a b c _ _ _ h ea eb ec
