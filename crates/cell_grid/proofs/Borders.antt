-- Coordinates at the edges.
use Rattle.std.proofs.Common.{◌≡◌, ℕ, ◌<◌, Option, Some, None, ℤ, pos, refl, sym, ap, ◌∙◌}
use Rattle.std.proofs.lemmas.Bool.{lt-ltb}
use Rattle.std.proofs.Math.Nat.{mod-eq_of_lt}
use Rattle.quantity.specs.declared.place.Offset.{Offset}
use Rattle.quantity.specs.declared.place.Place.{Place}
use Rattle.cell_grid.specs.declared.grid.Border.{Border}
use Rattle.cell_grid.specs.declared.grid.Border.TheVariants.{Wrapped, NoWrapped}
use Rattle.cell_grid.specs.Space.{Space, for_some, if_below, coordinate_after_step, neighbour_at, number_of, of_border, plane_count}
use Rattle.cell_grid.proofs.Opposites.{below-is, below-inside}

-- a number below the size is the coordinate that it stands for
pub of_border-below : (border : Border) (n to : ℕ) → to < n → of_border border n (pos to) ≡ Some to
of_border-below Wrapped n to less = ap Some (mod-eq_of_lt less)
of_border-below NoWrapped n to less = rw (lt-ltb to n less) refl

pub of_border-if_below : (border : Border) (n to : ℕ) (z : ℤ) → if_below n z ≡ Some to → of_border border n z ≡ Some to
of_border-if_below border n to z is =
    ap (of_border border n) (below-is n to z is) ∙ of_border-below border n to (below-inside n to z is)

-- ---- a place moved in each coordinate

abbrev at_column : Space → Place → Offset → ℕ → Option ℕ → Option ℕ
at_column s p o row column =
    for_some column (λ column. for_some (coordinate_after_step s.border (plane_count s) p.plane o.plane) (λ plane. Some (number_of s row column plane)))

abbrev at_row : Space → Place → Offset → Option ℕ → Option ℕ
at_row s p o row = for_some row (λ row. at_column s p o row (coordinate_after_step s.border s.columns p.column o.column))

abbrev at_plane : Space → ℕ → ℕ → Option ℕ → Option ℕ
at_plane s row column plane = for_some plane (λ plane. Some (number_of s row column plane))

module _ (v s : Space) (e : v ≡ s) (p : Place) (o : Offset) where
  pub no_row : coordinate_after_step v.border v.rows p.row o.row ≡ None → neighbour_at s p o ≡ None
  no_row none = sym (ap (λ (x : Space). neighbour_at x p o) e) ∙ ap (at_row v p o) none

  module _ (row : ℕ) (to_row : coordinate_after_step v.border v.rows p.row o.row ≡ Some row) where
    pub no_column : coordinate_after_step v.border v.columns p.column o.column ≡ None → neighbour_at s p o ≡ None
    no_column none = sym (ap (λ (x : Space). neighbour_at x p o) e) ∙ ap (at_row v p o) to_row ∙ ap (at_column v p o row) none

    module _ (column : ℕ) (to_column : coordinate_after_step v.border v.columns p.column o.column ≡ Some column) (planes : ℕ) (same : planes ≡ plane_count s) where
      to_plane : (plane : Option ℕ) → coordinate_after_step v.border planes p.plane o.plane ≡ plane → neighbour_at s p o ≡ at_plane s row column plane
      to_plane plane is =
          sym (ap (λ (x : Space). neighbour_at x p o) e) ∙ ap (at_row v p o) to_row ∙ ap (at_column v p o row) to_column
          ∙ ap (λ n. at_plane v row column (coordinate_after_step v.border n p.plane o.plane)) (ap plane_count e ∙ sym same)
          ∙ ap (at_plane v row column) is ∙ ap (λ (x : Space). at_plane x row column plane) e

      pub no_plane : coordinate_after_step v.border planes p.plane o.plane ≡ None → neighbour_at s p o ≡ None
      no_plane none = to_plane None none

      pub all_moved : (plane : ℕ) → coordinate_after_step v.border planes p.plane o.plane ≡ Some plane → neighbour_at s p o ≡ Some (number_of s row column plane)
      all_moved plane is = to_plane (Some plane) is
