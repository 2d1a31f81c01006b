-- Zones and initial values that are read and refused.
use Rattle.std.specs.Prelude.{◌≡◌, ℕ, ◌*◌, Bool, true, Option, Some, None, is_some, is_none}
use Rattle.std.specs.Prelude.{List, [], ◌∷◌, map, filter, length, ℤ, pos, neg_ℤ, codes}
use Rattle.std.specs.List.{list_all, range_with_len}
use Rattle.std.specs.Option.{option_map}
use Rattle.quantity.specs.declared.value.Value.{Value}
use Rattle.quantity.specs.declared.value.Value.TheVariants.{Undefined, Num}
use Rattle.quantity.specs.Bytes.{Bytes}
use Rattle.cell_grid.specs.declared.grid.Border.TheVariants.{NoWrapped}
use Rattle.cell_grid.specs.Space.{Space, cell_count}
use Rattle.cell_grid.specs.Region.{Region}
use Rattle.cell_grid.specs.Zones.{zone_of}
use Rattle.cell_grid.specs.ZoneTexts.{zone_in}
use Rattle.cell_grid.specs.Initial.{Row, row_digits, row_values, map_file, cells_file}
use Rattle.cell_grid.specs.Initial.{uniform_values, with_row, with_cells}
use Rattle.cell_grid.specs.Examples.{flat, line, deep}

-- a whole number as a value
abbrev pub whole : ℕ → Value
whole n = Num (pos (n * 100000))

-- so many hundred-thousandths
abbrev pub number : ℤ → Value
number raw = Num raw

-- one row of so many cells
abbrev pub row : ℕ → Space
row columns = line NoWrapped columns

-- two cells along each of three coordinates
abbrev pub cube : Space
cube = deep NoWrapped 2 2 2

-- two cells above one another, in two planes
abbrev pub tower : Space
tower = deep NoWrapped 2 1 2

-- the number of the zone, where there is one, that holds a cell
abbrev pub zone_at : ℕ → Bytes → Option (Option ℕ)
zone_at cell text = option_map (λ z. zone_of (z ∷ []) (row 3) cell) (zone_in (row 3) text)

-- the number of its ranges
abbrev pub range_count : Space → Bytes → Option ℕ
range_count space text = option_map (λ (z : Region). length z.ranges) (zone_in space text)

-- the cells that the zone of a text holds
abbrev pub cells_held : Space → Bytes → Option (List ℕ)
cells_held s text =
    option_map
    (λ z. filter (λ cell. is_some (zone_of (z ∷ []) s cell)) (range_with_len 0 (cell_count s)))
    (zone_in s text)

pub record ZonesAreRead : Type 0 where
  pub name : option_map (λ (z : Region). z.name) (zone_in (row 3) (codes "r { (0,0)..(0,1) }"))
      ≡ Some (codes "r")
  pub inside : zone_at 0 (codes "r { (0,0)..(0,1) }") ≡ Some (Some 0)
  pub outside : zone_at 2 (codes "r { (0,0)..(0,1) }") ≡ Some None
  pub no_cell : zone_at 3 (codes "r { (0,0)..(0,2) }") ≡ Some None
  pub touching : range_count (row 3) (codes "r {(0,0)(0,1)..(0,2) (0,1)}") ≡ Some 3
  pub range : cells_held (row 3) (codes "r { (0,0)..(0,1) }") ≡ Some (0 ∷ 1 ∷ [])
  pub one : cells_held (row 3) (codes "r{(0,2)}") ≡ Some (2 ∷ [])
  pub several : cells_held (row 3) (codes "r {(0,0)(0,1)..(0,2) (0,1)}") ≡ Some (0 ∷ 1 ∷ 2 ∷ [])
  pub blanks_in_tuple : cells_held (row 3) (codes "r{( 0 , 0 )}") ≡ Some (0 ∷ [])
  pub blanks_around : cells_held (row 3) (codes "\tr \t{\t(0,1)\t}") ≡ Some (1 ∷ [])
  pub range_of_one : cells_held (row 3) (codes "r { (0,1)..(0,1) }") ≡ Some (1 ∷ [])
  pub apart : cells_held (row 3) (codes "r { (0,0) (0,2) }") ≡ Some (0 ∷ 2 ∷ [])
  pub long_name : cells_held (row 3) (codes "a.b-c_1 { (0,0)..( 0 , 2 ) }") ≡ Some (0 ∷ 1 ∷ 2 ∷ [])
  pub sign_and_zeros : cells_held (row 3) (codes "r { (+0,001) }") ≡ Some (1 ∷ [])
  pub rows : cells_held (flat NoWrapped 2 3) (codes "r { (0,1)..(1,2) }")
      ≡ Some (1 ∷ 2 ∷ 4 ∷ 5 ∷ [])
  pub three_coordinates : range_count cube (codes "r { (0,0,0)..(1,1,1) }") ≡ Some 1
  pub one_of_cube : cells_held cube (codes "r { (1,0,1) }") ≡ Some (5 ∷ [])
  pub plane_of_cube : cells_held cube (codes "r { (0,0,1)..(1,1,1) }") ≡ Some (1 ∷ 3 ∷ 5 ∷ 7 ∷ [])
  pub parts_of_cube : cells_held cube (codes "r { (0,1,0)..(1,1,0) (0,0,1) }")
      ≡ Some (1 ∷ 2 ∷ 6 ∷ [])

-- no text of these is a zone
abbrev pub no_zones : Space → List Bytes → Bool
no_zones s texts = list_all (λ text. is_none (zone_in s text)) texts

pub record ZonesAreRefused : Type 0 where
  pub blank_before : zone_in (row 3) (codes "r { (0,0) ..(0,1) }") ≡ None
  pub blank_behind : zone_in (row 3) (codes "r { (0,0).. (0,1) }") ≡ None
  pub no_item : zone_in (row 3) (codes "r { }") ≡ None
  pub no_start : zone_in (row 3) (codes "r { ..(0,1) }") ≡ None
  pub no_name : zone_in (row 3) (codes "{ (0,1) }") ≡ None
  pub no_braces : zone_in (row 3) (codes "r (0,1)") ≡ None
  pub past_the_edge : zone_in (row 3) (codes "r { (0,0)..(0,3) }") ≡ None
  pub negative : zone_in (row 3) (codes "r { (0,-1) }") ≡ None
  pub falling : zone_in (row 3) (codes "r { (0,1)..(0,0) }") ≡ None
  pub falling_in_one : zone_in cube (codes "r { (0,0,1)..(1,1,0) }") ≡ None
  pub other_dimensions : zone_in (row 3) (codes "r { (0,0,0) }") ≡ None
  pub name_in_item : zone_in (row 3) (codes "r { r(0,0) }") ≡ None
  pub other_items : no_zones (row 3)
      (codes "r { (0,0)..(0,1)..(0,2) }" ∷ codes "r { (0,3) }" ∷ codes "r { (1,0) }"
      ∷ codes "r { (0) }" ∷ codes "r { (0,0)..r(0,1) }" ∷ codes "r { (0,0) x }"
      ∷ codes "r { (0,0), (0,1) }" ∷ codes "r { (0,0 }" ∷ []) ≡ true
  pub other_items_in_cubes : no_zones cube
      (codes "r { (0,0) }" ∷ codes "r { (2,0,0) }" ∷ codes "r { (0,0,2) }" ∷ []) ≡ true
  pub other_texts : no_zones (row 3)
      (codes "" ∷ codes "r{}" ∷ codes "r { (0,0)" ∷ codes "r (0,0) }" ∷ codes "r { (0,0) } "
      ∷ codes "r { { (0,0) } }" ∷ codes "R { (0,0) }" ∷ codes "a b { (0,0) }" ∷ []) ≡ true

-- the values of a row
abbrev pub of_row : Option Row → Option (List Value)
of_row r = option_map (λ (x : Row). x.values) r

-- what a row makes of eights
abbrev pub on_eights : Space → Option Row → Option (List Value)
on_eights s r = option_map (with_row s (uniform_values s (whole 8))) r

pub record RowsAreRead : Type 0 where
  pub filled_row : uniform_values (row 2) (whole 0) ≡ whole 0 ∷ whole 0 ∷ []
  pub digits : of_row (row_digits (row 2) (codes "0 1?")) ≡ Some (whole 1 ∷ Undefined ∷ [])
  pub blanks : of_row (row_digits (row 2) (codes " 0\t01 ")) ≡ Some (whole 0 ∷ whole 1 ∷ [])
  pub zeros : of_row (row_digits (row 2) (codes "0000000 99")) ≡ Some (whole 9 ∷ whole 9 ∷ [])
  pub lower : on_eights (flat NoWrapped 2 2) (row_digits (flat NoWrapped 2 2) (codes "1 47"))
      ≡ Some (map whole (8 ∷ 8 ∷ 4 ∷ 7 ∷ []))
  pub upper : on_eights (flat NoWrapped 2 2) (row_digits (flat NoWrapped 2 2) (codes "0 47"))
      ≡ Some (map whole (4 ∷ 7 ∷ 8 ∷ 8 ∷ []))
  pub values : of_row (row_values (row 2) (codes "0 2 3")) ≡ Some (whole 2 ∷ whole 3 ∷ [])
  pub decimals : of_row (row_values (row 2) (codes "0 ? -1.5"))
      ≡ Some (Undefined ∷ number (neg_ℤ (pos 150000)) ∷ [])
  pub points : of_row (row_values (row 2) (codes "\t0  .5 1. "))
      ≡ Some (number (pos 50000) ∷ whole 1 ∷ [])
  pub second_row : on_eights (flat NoWrapped 2 2) (row_values (flat NoWrapped 2 2) (codes "1 6 9"))
      ≡ Some (map whole (8 ∷ 8 ∷ 6 ∷ 9 ∷ []))

-- what the cells of a file make of eights
abbrev pub cells_on_eights : Space → Bytes → Option (List Value)
cells_on_eights s file =
    option_map (λ cells. with_cells (uniform_values s (whole 8)) (Some cells)) (cells_file s file)

pub record FilesAreRead : Type 0 where
  pub map_values : map_file (row 2) (codes "4 5") ≡ Some (whole 4 ∷ whole 5 ∷ [])
  pub over_lines : map_file (row 2) (codes "\n4 % one\n\n5") ≡ Some (whole 4 ∷ whole 5 ∷ [])
  pub returns : map_file (row 2) (codes "4\r\n5\r\n") ≡ Some (whole 4 ∷ whole 5 ∷ [])
  pub comments : map_file (row 2) (codes "% 1 2\n4\t5% 6") ≡ Some (whole 4 ∷ whole 5 ∷ [])
  pub least : map_file (row 2) (codes "? -0.00001") ≡ Some (Undefined ∷ number (neg_ℤ (pos 1)) ∷ [])
  pub planes : map_file tower (codes "1 2\n 3\n4") ≡ Some (map whole (1 ∷ 2 ∷ 3 ∷ 4 ∷ []))
  pub cells : cells_file (row 2) (codes "(0,1) = 6") ≡ Some ((1, whole 6) ∷ [])
  pub other_cells_stay : cells_on_eights (row 2) (codes "(0,1) = 6") ≡ Some (whole 8 ∷ whole 6 ∷ [])
  pub later_counts : cells_on_eights (row 2) (codes "(0,1)=6\n\n(0,1)=7")
      ≡ Some (whole 8 ∷ whole 7 ∷ [])
  pub no_cell : cells_on_eights (row 2) (codes "") ≡ Some (whole 8 ∷ whole 8 ∷ [])
  pub only_comments : cells_on_eights (row 2) (codes "% (0,1) = 6\r\n \n")
      ≡ Some (whole 8 ∷ whole 8 ∷ [])
  pub two_cells : cells_on_eights (row 2) (codes "(0,0)=1\r\n( 0 , 1 ) = ? % two\r\n")
      ≡ Some (whole 1 ∷ Undefined ∷ [])
  pub three_coordinates : cells_on_eights tower (codes "(1,0,1) = 5")
      ≡ Some (map whole (8 ∷ 8 ∷ 8 ∷ 5 ∷ []))

-- none of these texts has a value
abbrev pub none_read : {X : Type 0} → (Bytes → Option X) → List Bytes → Bool
none_read read texts = list_all (λ text. is_none (read text)) texts

pub record ValuesAreRefused : Type 0 where
  pub digits : none_read (row_digits (row 2))
      (codes "1 11" ∷ codes "0 1" ∷ codes "0 111" ∷ codes "0 1x" ∷ codes "0 1-" ∷ codes "0 1 1"
      ∷ codes "0" ∷ codes "" ∷ codes "-0 11" ∷ codes "00000000 11" ∷ []) ≡ true
  pub row_outside : row_digits (flat NoWrapped 2 2) (codes "2 47") ≡ None
  pub digits_in_cubes : row_digits cube (codes "0 11") ≡ None
  pub digits_in_one_plane : row_digits (deep NoWrapped 2 2 1) (codes "0 11") ≡ None
  pub values : none_read (row_values (row 2))
      (codes "0 1 2 3" ∷ codes "0 1" ∷ codes "x 1 1" ∷ codes "0 1 x" ∷ codes "0 1e5 1"
      ∷ codes "0" ∷ codes "" ∷ []) ≡ true
  pub values_outside : row_values (flat NoWrapped 2 2) (codes "2 1 1") ≡ None
  pub values_in_cubes : row_values cube (codes "0 1 2") ≡ None
  pub map_files : none_read (map_file (row 2))
      (codes "4" ∷ codes "4 5 6" ∷ codes "4 5\n6" ∷ codes "4 x" ∷ codes "4,5" ∷ codes "% 4 5"
      ∷ codes "" ∷ []) ≡ true
  pub cells_files : none_read (cells_file (row 2))
      (codes "(0,2) = 6" ∷ codes "(0,-1) = 6" ∷ codes "(0,0,0) = 6" ∷ codes "(0,1) ="
      ∷ codes "(0,1) 6" ∷ codes "= 6" ∷ codes "(0,1) = = 6" ∷ codes "(0,1) = 6 7"
      ∷ codes "(0,1) = x" ∷ codes "(0,0) = 1\nx" ∷ []) ≡ true
  pub cells_of_other_dimensions : cells_file tower (codes "(0,0) = 6") ≡ None
