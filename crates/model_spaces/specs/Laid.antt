-- Private: rows that are laid entry by entry.
use Rattle.std.specs.Prelude.{◌≡◌, Some, List, [], fold}
use Rattle.std.specs.List.{filter_map}
use Rattle.std.specs.Option.{option_map}
use Rattle.quantity.specs.declared.value.Value.{Value}
use Rattle.cell_grid.specs.Initial.{uniform_values, with_row}
use Rattle.ma_lines.specs.declared.section.Entry.{Entry}
use Rattle.ma_lines.specs.Sections.{Section}
use Rattle.model_text.specs.Spaces.{space_of, row_in}
use Rattle.model_text.specs.Trees.{initial_value_of}
use Rattle.model_walk.specs.LeastOf.{IsLeastOf}
use Rattle.model_spaces.specs.declared.rows.ReadRows.{ReadRows}
use Rattle.model_spaces.specs.Tested.{digits_refused, values_refused, IsLeastWith}

-- values with the rows among these entries laid on them
abbrev pub with_entries : Section → List Value → List Entry → List Value
with_entries s values es = fold (with_row (space_of s)) values (filter_map (row_in s) es)

-- none of these entries is refused as a row
pub record AreRows (s : Section) (es : List Entry) : Type 0 where
  pub digits : digits_refused s es ≡ []
  pub values : values_refused s es ≡ []

-- these entries are tested, and laid where all are rows
pub record AddsRows (s : Section) (old new : ReadRows) (es : List Entry) : Type 0 where
  pub digits : IsLeastWith old.digit_rows (digits_refused s es) new.digit_rows
  pub values : IsLeastWith old.value_rows (values_refused s es) new.value_rows
  pub laid : AreRows s es
      → new.values ≡ option_map (λ values. with_entries s values es) old.values

-- what is read of these entries
pub record ReadsRows (s : Section) (es : List Entry) (read : ReadRows) : Type 0 where
  pub digits : IsLeastOf (digits_refused s es) read.digit_rows
  pub values : IsLeastOf (values_refused s es) read.value_rows
  pub laid : AreRows s es
      → read.values
      ≡ Some (with_entries s (uniform_values (space_of s) (initial_value_of s)) es)
