-- Tuples as offsets.
use Rattle.std.proofs.Common.{◌≡◌, ℕ, Bool, true, false, not, ◌&&◌, nat_eq, Option, Some, None, [], ◌∷◌, ℤ, pos, refl, sym, ap, ◌∙◌}
use mathlib.Core.Bool.{beq}
use Rattle.std.specs.Option.{is_some, unwrap_or, option_and_then}
use Rattle.std.specs.Bool.{then_some}
use Rattle.quantity.specs.declared.place.Offset.{Offset}
use Rattle.source_text.specs.declared.tuple.Tuple.{Tuple}
use Rattle.source_text.specs.Shown.{numbers_of}
use Rattle.cell_grid.specs.Space.{Space, dims_of}
use Rattle.cell_grid.proofs.Opposites.{same_offset}
use Rattle.cell_grid.specs.Offsets.{near, offset_of_numbers, offset_in}
use Rattle.cell_grid.specs.Places.{is_near}

then_some_is : {X : Type 0} (b : Bool) (x y : X) → then_some b x ≡ Some y → (b ≡ true) × (x ≡ y)
then_some_is true x y e = (refl, cc)
then_some_is false x y e = cc

flat : (x y : Bool) (row column : ℤ) → x ≡ true → y ≡ true
    → Some (record { row = row; column = column; plane = pos 0 }) ≡ option_and_then offset_of_numbers (then_some (true && (x && (y && true))) (row ∷ column ∷ []))
flat true true row column e f = refl
flat true false row column e f = cc
flat false y row column e f = cc

deep : (x y z : Bool) (row column plane : ℤ) → x ≡ true → y ≡ true → z ≡ true
    → Some (record { row = row; column = column; plane = plane }) ≡ option_and_then offset_of_numbers (then_some (true && (x && (y && (z && true)))) (row ∷ column ∷ plane ∷ []))
deep true true true row column plane e f g = refl
deep true true false row column plane e f g = cc
deep true false z row column plane e f g = cc
deep false y z row column plane e f g = cc

-- a number that is near, where one is given
pub near_is : (n m : ℤ) → near n ≡ Some m → (is_near n ≡ true) × (m ≡ n)
near_is n m e = let at = then_some_is (is_near n) n m e in (at.0, sym at.1)

pub offset_there : (s : Space) (t : Tuple) (o : Offset) → is_some t.plane ≡ nat_eq (dims_of s) 3
    → near t.row ≡ Some o.row → near t.column ≡ Some o.column → near (unwrap_or t.plane (pos 0)) ≡ Some o.plane → Some o ≡ offset_in s (numbers_of t)
offset_there s t o dims row column plane = go s.planes t.plane dims plane
  where
    r : (is_near t.row ≡ true) × (o.row ≡ t.row)
    r = near_is t.row o.row row

    c : (is_near t.column ≡ true) × (o.column ≡ t.column)
    c = near_is t.column o.column column

    given : (z : ℤ) → o.plane ≡ z → Some o ≡ Some (record { row = t.row; column = t.column; plane = z })
    given z e = ap Some (same_offset o (record { row = t.row; column = t.column; plane = z }) r.1 c.1 e)

    go : (planes : Option ℕ) (p : Option ℤ) → is_some p ≡ nat_eq (elim planes [ None ↦ 2 | Some n ↦ 3 ]) 3 → near (unwrap_or p (pos 0)) ≡ Some o.plane
        → Some o ≡ offset_in (record s { planes = planes }) (numbers_of (record t { plane = p }))
    go None None d e = given (pos 0) (near_is (pos 0) o.plane e).1 ∙ flat (is_near t.row) (is_near t.column) t.row t.column r.0 c.0
    go None (Some z) d e = cc
    go (Some n) None d e = cc
    go (Some n) (Some z) d e =
        let p : (is_near z ≡ true) × (o.plane ≡ z) = near_is z o.plane e in
        given z p.1 ∙ deep (is_near t.row) (is_near t.column) (is_near z) t.row t.column z r.0 c.0 p.0

pub same_tests : (a b : Bool) → not (beq a b) ≡ false → a ≡ b
same_tests true true e = refl
same_tests true false e = cc
same_tests false true e = cc
same_tests false false e = refl
