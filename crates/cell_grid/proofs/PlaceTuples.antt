-- Tuples as places.
use Rattle.std.proofs.Common.{◌≡◌, ℕ, nat_eq, Option, Some, None, [], ℤ, pos, refl, ap, ◌∙◌}
use Rattle.std.specs.Option.{is_some, unwrap_or, option_and_then}
use Rattle.std.specs.Bool.{then_some}
use Rattle.quantity.specs.declared.place.Place.{Place}
use Rattle.quantity.specs.Bytes.{in_front}
use Rattle.source_text.specs.declared.tuple.Tuple.{Tuple}
use Rattle.source_text.specs.Shown.{numbers_of}
use Rattle.cell_grid.specs.Space.{Space, cell_at_place, dims_of}
use Rattle.cell_grid.specs.Places.{in_space, natural, place_in, place_of_numbers}

-- the place of two or three coordinates, where each is there
abbrev flat : Space → Option ℕ → Option ℕ → Option Place
flat s row column = option_and_then (in_space s) (option_and_then place_of_numbers (in_front row (in_front column (Some []))))

abbrev deep : Space → Option ℕ → Option ℕ → Option ℕ → Option Place
deep s row column plane = option_and_then (in_space s) (option_and_then place_of_numbers (in_front row (in_front column (in_front plane (Some [])))))

no_column : (s : Space) (row : Option ℕ) → flat s row None ≡ None
no_column s None = refl
no_column s (Some row) = refl

no_middle : (s : Space) (row plane : Option ℕ) → deep s row None plane ≡ None
no_middle s None plane = refl
no_middle s (Some row) plane = refl

no_plane : (s : Space) (row column : Option ℕ) → deep s row column None ≡ None
no_plane s None column = refl
no_plane s (Some row) None = refl
no_plane s (Some row) (Some column) = refl

pub other_size : (s : Space) (t : Tuple) → (is_some t.plane ≡ nat_eq (dims_of s) 3 → ⊥) → place_in s (numbers_of t) ≡ None
other_size s t other = go s.planes t.plane other
  where
    go : (planes : Option ℕ) (p : Option ℤ) → (is_some p ≡ nat_eq (elim planes [ None ↦ 2 | Some n ↦ 3 ]) 3 → ⊥) → place_in (record s { planes = planes }) (numbers_of (record t { plane = p })) ≡ None
    go None None h = absurd (h refl)
    go None (Some z) h = refl
    go (Some n) None h = refl
    go (Some n) (Some z) h = absurd (h refl)

pub row_off : (s : Space) (t : Tuple) → natural t.row ≡ None → place_in s (numbers_of t) ≡ None
row_off s t off = go s.planes t.plane
  where
    go : (planes : Option ℕ) (p : Option ℤ) → place_in (record s { planes = planes }) (numbers_of (record t { plane = p })) ≡ None
    go None None = ap (λ o. flat (record s { planes = None }) o (natural t.column)) off
    go None (Some z) = refl
    go (Some n) None = refl
    go (Some n) (Some z) = ap (λ o. deep (record s { planes = Some n }) o (natural t.column) (natural z)) off

pub column_off : (s : Space) (t : Tuple) → natural t.column ≡ None → place_in s (numbers_of t) ≡ None
column_off s t off = go s.planes t.plane
  where
    go : (planes : Option ℕ) (p : Option ℤ) → place_in (record s { planes = planes }) (numbers_of (record t { plane = p })) ≡ None
    go None None = ap (λ o. flat (record s { planes = None }) (natural t.row) o) off ∙ no_column (record s { planes = None }) (natural t.row)
    go None (Some z) = refl
    go (Some n) None = refl
    go (Some n) (Some z) = ap (λ o. deep (record s { planes = Some n }) (natural t.row) o (natural z)) off ∙ no_middle (record s { planes = Some n }) (natural t.row) (natural z)

pub plane_off : (s : Space) (t : Tuple) → natural (unwrap_or t.plane (pos 0)) ≡ None → place_in s (numbers_of t) ≡ None
plane_off s t off = go s.planes t.plane off
  where
    go : (planes : Option ℕ) (p : Option ℤ) → natural (unwrap_or p (pos 0)) ≡ None → place_in (record s { planes = planes }) (numbers_of (record t { plane = p })) ≡ None
    go planes None e = absurd cc
    go None (Some z) e = refl
    go (Some n) (Some z) e = ap (λ o. deep (record s { planes = Some n }) (natural t.row) (natural t.column) o) e ∙ no_plane (record s { planes = Some n }) (natural t.row) (natural t.column)

-- the place that a tuple gives, where it is inside
pub place_given : (s : Space) (t : Tuple) (p : Place) → is_some t.plane ≡ nat_eq (dims_of s) 3 → natural t.row ≡ Some p.row → natural t.column ≡ Some p.column → natural (unwrap_or t.plane (pos 0)) ≡ Some p.plane
    → place_in s (numbers_of t) ≡ then_some (is_some (cell_at_place s p)) p
place_given s t p size row column plane = go s.planes t.plane size plane
  where
    go : (planes : Option ℕ) (o : Option ℤ) → is_some o ≡ nat_eq (elim planes [ None ↦ 2 | Some n ↦ 3 ]) 3 → natural (unwrap_or o (pos 0)) ≡ Some p.plane
        → place_in (record s { planes = planes }) (numbers_of (record t { plane = o })) ≡ in_space (record s { planes = planes }) p
    go None None h e =
        ap (λ o. flat (record s { planes = None }) o (natural t.column)) row ∙ ap (λ o. flat (record s { planes = None }) (Some p.row) o) column
        ∙ ap (λ o. deep (record s { planes = None }) (Some p.row) (Some p.column) o) e
    go None (Some z) h e = absurd cc
    go (Some n) None h e = absurd cc
    go (Some n) (Some z) h e =
        ap (λ o. deep (record s { planes = Some n }) o (natural t.column) (natural z)) row ∙ ap (λ o. deep (record s { planes = Some n }) (Some p.row) o (natural z)) column
        ∙ ap (λ o. deep (record s { planes = Some n }) (Some p.row) (Some p.column) o) e
