-- Cells and their places.
use Rattle.std.proofs.Common.{◌≡◌, subst, sym, ℕ, zero, suc, ◌+◌, ◌*◌, ◌/◌, ◌%◌, ◌<◌, ◌≤◌, Bool, true, false, ltb, cond, Some, None, refl, ap, ◌∙◌, ◌&&◌, arith, mul_comm, mul-zero, zero-mul}
use borrow.Author.Tests.{ltb-true}
use Rattle.std.proofs.lemmas.Nat.{div_below, mod_below, div-add-mod', div-mul-add, mod-mul-add, mul-add-lt, mul-le}
use Rattle.std.proofs.lemmas.Bool.{lt-ltb}
use Rattle.quantity.specs.declared.place.Place.{Place}
use Rattle.quantity.specs.declared.bounds.TheConstants.{MAX_CELLS}
use Rattle.cell_grid.specs.Space.{Space, plane_count, cell_count, place_of, number_of, cell_at_place}
use Rattle.cell_grid.specs.Watched.{CanHold, IsInside}

-- no size of a space that has a cell is 0
abbrev pub HasSizes : Space → Type 0
HasSizes s = (0 < s.rows) × (0 < s.columns) × (0 < plane_count s)

factors : (a b n : ℕ) → n < a * b → (0 < a) × (0 < b)
factors zero b n less = absurd (omega (arith, zero-mul b))
factors (suc a) zero n less = absurd (omega (arith, mul-zero (suc a)))
factors (suc a) (suc b) n less = (omega arith, omega arith)

pub sizes-from_cell : (s : Space) (cell : ℕ) → cell < cell_count s → HasSizes s
sizes-from_cell s cell here =
    let depth = factors (s.rows * s.columns) (plane_count s) cell here in
    let width = factors s.rows s.columns 0 depth.0 in
    (width.0, width.1, depth.1)

pub place-inside : (s : Space) (cell : ℕ) → cell < cell_count s → IsInside s (place_of s cell)
place-inside s cell here =
    let sizes = sizes-from_cell s cell here in (
      div_below (cell / plane_count s) s.columns s.rows sizes.1 (div_below cell (plane_count s) (s.rows * s.columns) sizes.2 here),
      mod_below (cell / plane_count s) s.columns sizes.1,
      mod_below cell (plane_count s) sizes.2,
    )

pub number-of_place : (s : Space) (cell : ℕ) → number_of s (place_of s cell).row (place_of s cell).column (place_of s cell).plane ≡ cell
number-of_place s cell =
    ap (λ n. n * plane_count s + cell % plane_count s) (div-add-mod' (cell / plane_count s) s.columns) ∙ div-add-mod' cell (plane_count s)

-- the number of a place inside is below that of the cells
pub number-inside : (s : Space) (p : Place) → IsInside s p → number_of s p.row p.column p.plane < cell_count s
number-inside s p inside =
    let in_plane : p.row * s.columns + p.column < s.rows * s.columns = omega (arith, mul-add-lt p.row s.columns p.column s.rows inside.0 inside.1, mul_comm s.columns s.rows) in
    omega (arith, mul-add-lt (p.row * s.columns + p.column) (plane_count s) p.plane (s.rows * s.columns) in_plane inside.2, mul_comm (plane_count s) (s.rows * s.columns))

abbrev place : ℕ → ℕ → ℕ → Place
place row column plane = record { row = row; column = column; plane = plane }

same_place : (p q : Place) → p.row ≡ q.row → p.column ≡ q.column → p.plane ≡ q.plane → p ≡ q
same_place p q rows columns planes =
    ap (λ n. place n p.column p.plane) rows ∙ ap (λ n. place q.row n p.plane) columns ∙ ap (λ n. place q.row q.column n) planes

pub place-of_number : (s : Space) (p : Place) → IsInside s p → place_of s (number_of s p.row p.column p.plane) ≡ p
place-of_number s p inside =
    let whole = div-mul-add (p.row * s.columns + p.column) (plane_count s) p.plane inside.2 in
    same_place (place_of s (number_of s p.row p.column p.plane)) p
    (ap (λ n. n / s.columns) whole ∙ div-mul-add p.row s.columns p.column inside.1)
    (ap (λ n. n % s.columns) whole ∙ mod-mul-add p.row s.columns p.column inside.1)
    (mod-mul-add (p.row * s.columns + p.column) (plane_count s) p.plane inside.2)

pub cell_at-inside : (s : Space) (p : Place) → IsInside s p → cell_at_place s p ≡ Some (number_of s p.row p.column p.plane)
cell_at-inside s p inside =
    rw (lt-ltb p.row s.rows inside.0, lt-ltb p.column s.columns inside.1, lt-ltb p.plane (plane_count s) inside.2) refl

chosen : (a b c : Bool) (n cell : ℕ) → cond (a && b && c) (Some n) None ≡ Some cell → (a ≡ true) × (b ≡ true) × (c ≡ true) × (n ≡ cell)
chosen true true true n cell is = (refl, refl, refl, cc)
chosen true true false n cell is = cc
chosen true false c n cell is = cc
chosen false b c n cell is = cc

pub inside-from_cell_at : (s : Space) (p : Place) (cell : ℕ) → cell_at_place s p ≡ Some cell → IsInside s p × (number_of s p.row p.column p.plane ≡ cell)
inside-from_cell_at s p cell is =
    let tests = chosen (ltb p.row s.rows) (ltb p.column s.columns) (ltb p.plane (plane_count s)) (number_of s p.row p.column p.plane) cell is in
    ((ltb-true p.row s.rows tests.0, ltb-true p.column s.columns tests.1, ltb-true p.plane (plane_count s) tests.2), tests.3)

-- what is worked out on the way to a number
module _ (v s : Space) (e : v ≡ s) (held : CanHold v.rows v.columns v.planes) (row column plane : ℕ) (in_rows : row < s.rows) (in_columns : column < s.columns) (in_planes : plane < plane_count s) where
  inside : IsInside v (place row column plane)
  inside = subst (λ (x : Space). IsInside x (place row column plane)) (sym e) (in_rows, in_columns, in_planes)

  pub in_plane-few : row * v.columns + column < MAX_CELLS
  in_plane-few =
      omega (arith, mul-add-lt row v.columns column v.rows inside.0 inside.1, mul_comm v.columns v.rows, mul-le (v.rows * v.columns) 1 (v.rows * v.columns) (plane_count v) (omega arith) held.2, held.3)

  module _ (planes : ℕ) (same : planes ≡ plane_count s) where
    pub number-is : (row * v.columns + column) * planes + plane ≡ number_of s row column plane
    number-is = ap (λ n. (row * v.columns + column) * n + plane) same ∙ ap (λ (x : Space). (row * x.columns + column) * plane_count s + plane) e

    pub number-within : (row * v.columns + column) * planes + plane < cell_count s
    number-within = subst (λ n. n < cell_count s) (sym number-is) (number-inside s (place row column plane) (in_rows, in_columns, in_planes))

    pub number-few : (row * v.columns + column) * planes + plane < MAX_CELLS
    number-few = omega (arith, number-within, subst (λ (x : Space). cell_count x ≤ MAX_CELLS) e held.3)

-- no size is more than all cells
module _ (v : Space) (held : CanHold v.rows v.columns v.planes) where
  pub rows-few : v.rows ≤ MAX_CELLS
  rows-few =
      omega (arith, mul-le v.rows 1 v.rows v.columns (omega arith) held.1, mul-le (v.rows * v.columns) 1 (v.rows * v.columns) (plane_count v) (omega arith) held.2, held.3)

  pub columns-few : v.columns ≤ MAX_CELLS
  columns-few =
      omega (arith, mul-le 1 v.columns v.rows v.columns held.0 (omega arith), mul-le (v.rows * v.columns) 1 (v.rows * v.columns) (plane_count v) (omega arith) held.2, held.3)
