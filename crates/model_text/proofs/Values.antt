-- A group has as many initial values as cells.
use Rattle.std.proofs.Common.{◌≡◌, ℕ, Option, List, [], ◌∷◌, length, refl, ◌∙◌, arith}
use Rattle.std.proofs.lemmas.Bool.{and_parts, eqb-true, ltb-true}
use Rattle.std.proofs.lemmas.Bool.Decides.{nat_tests}
use Rattle.std.specs.Prelude.{◌&&◌, ◌==◌, nat_lt, true, codes}
use Rattle.std.proofs.lemmas.List.{length-set, length-take, length-drop, length-append, length-replicate}
use Rattle.std.specs.List.{fold, AllByRecursion}
use Rattle.std.specs.Option.{IfSome, option_and_then}
use Rattle.quantity.specs.declared.value.Value.{Value}
use Rattle.quantity.specs.Bytes.{Bytes}
use Rattle.cell_grid.specs.Space.{Space, cell_count, dims_of}
use Rattle.cell_grid.specs.Initial.{Row, is_row, row_of_space, map_file, uniform_values, with_row, with_cell, with_rows, with_map, with_cells}
use Rattle.ma_lines.specs.declared.section.Entry.{Entry}
use Rattle.ma_lines.specs.Sections.{Section}
use Rattle.model_text.specs.Keyed.{value_of}
use Rattle.model_text.specs.Spaces.{space_of, row_in, rows_of}
use Rattle.model_text.specs.Trees.{initial_value_of, map_of, cells_of}
use Rattle.model_text.specs.GroupLaws.{ValuesFit}
use Rattle.model_text.proofs.Basics.{all_found}
use Rattle.cell_grid.proofs.RowLemmas.{row_within}

abbrev IsRow : Space → Row → Type 0
IsRow space r = is_row space r.row r.values ≡ true

row_is : (space : Space) (o : Option ℕ) (vs : Option (List Value)) → IfSome (row_of_space space o vs) (IsRow space)
row_is space o vs = grind arith

row_in_is : (s : Section) (e : Entry) → IfSome (row_in s e) (IsRow (space_of s))
row_in_is s e = grind (arith, row_is)

row_keeps : (s : Space) (vs : List Value) (r : Row) → IsRow s r → length vs ≡ cell_count s → length (with_row s vs r) ≡ cell_count s
row_keeps s vs r right fits =
    let a = and_parts (dims_of s == 2 && nat_lt r.row s.rows) (length r.values == s.columns) right in
    let b = and_parts (dims_of s == 2) (nat_lt r.row s.rows) a.0 in
    let within = row_within s r.row s.columns (eqb-true (dims_of s) 2 b.0) (ltb-true r.row s.rows b.1) refl in
    let wide = eqb-true (length r.values) s.columns a.1 in
    simp (length-append, length-take, length-drop) (omega arith)

rows_keep : (s : Space) (vs : List Value) (rs : List Row) → AllByRecursion (IsRow s) rs → length vs ≡ cell_count s → length (with_rows s vs rs) ≡ cell_count s
rows_keep s vs [] h fits = fits
rows_keep s vs (r ∷ rs) h fits = rows_keep s (with_row s vs r) rs h.1 (row_keeps s vs r h.0 fits)

map_keeps : (s : Space) (vs : List Value) (o : Option Bytes) → length vs ≡ cell_count s → length (with_map vs (option_and_then (map_file s) o)) ≡ cell_count s
map_keeps s vs o fits = grind (arith, nat_tests)

cells_keep : (vs : List Value) (cs : List (ℕ × Value)) → length (fold with_cell vs cs) ≡ length vs
cells_keep vs [] = refl
cells_keep vs (c ∷ cs) = cells_keep (with_cell vs c) cs ∙ length-set vs c.0 c.1

all_cells_keep : (vs : List Value) (o : Option (List (ℕ × Value))) → length (with_cells vs o) ≡ length vs
all_cells_keep vs o = grind (arith, cells_keep vs)

pub values_fit : ValuesFit
values_fit files s =
    let uniform = uniform_values (space_of s) (initial_value_of s) in
    let rows = with_rows (space_of s) uniform (rows_of s) in
    all_cells_keep (with_map rows (map_of files s)) (cells_of files s)
    ∙ map_keeps (space_of s) rows (option_and_then files (value_of (codes "initialmapvalue") s))
    (rows_keep (space_of s) uniform (rows_of s) (all_found (IsRow (space_of s)) (row_in s) (row_in_is s) s.entries) (length-replicate (cell_count (space_of s)) (initial_value_of s)))
