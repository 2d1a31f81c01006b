-- Private: what a line of a log shows of a group.
use Rattle.std.specs.Prelude.{ℕ, Option, Some, None, List, [], ◌∷◌, if◌then◌else◌}
use Rattle.std.specs.Option.{option_map}
use Rattle.std.specs.Str.{bytes_eq}
use Rattle.quantity.specs.Bytes.{Bytes}
use Rattle.quantity.specs.declared.value.Value.{Value}
use Rattle.cell_grid.specs.Space.{Space}
use Rattle.model_tree.specs.Tree.{Word}
use Rattle.text_forms.specs.LogLine.{LeafName, LogLine, read_line}
use Rattle.text_forms.specs.Frames.{ShownCell, cell_of_coordinates, line_time, not_before, shown_at, shown_of}
use Rattle.drawlog_top.specs.declared.line.CellValue.{CellValue}
use Rattle.drawlog_top.specs.declared.line.SeenLine.{SeenLine}

-- a line that is not refused: its time, and what it shows
pub record Seen : Type 0 where
  pub time : ℕ
  pub shown : List ShownCell

-- values that are seen at a time
abbrev pub seen_at : ℕ → List ShownCell → Seen
seen_at time shown = record { time = time; shown = shown }

-- ---- of values of the program

-- what a cell gave at an instant, if one did
abbrev pub shown_cell_list : ℕ → Option CellValue → List ShownCell
shown_cell_list time None = []
shown_cell_list time (Some g) = record { time = time; cell = g.cell; value = g.value } ∷ []

-- what a line shows
abbrev pub seen_as : SeenLine → Seen
seen_as l = seen_at l.time (shown_cell_list l.time l.given)

-- ---- of texts

-- what a leaf shows that gave this value at its port `out`
abbrev pub shows : Space → Word → ℕ → LeafName → Value → Option (List ShownCell)
shows s group time leaf v =
    if bytes_eq leaf.name group then shown_at time v (cell_of_coordinates s leaf.at) else Some []

-- what a line shows of a group
abbrev pub seen_line : Space → Word → Option LogLine → Option Seen
seen_line s group None = None
seen_line s group (Some l) = option_map (seen_at (line_time l)) (shown_of s group l)

-- what a line shows below one of that time, or none where it is refused
abbrev pub what_line_shows : Space → Word → ℕ → Bytes → Option Seen
what_line_shows s group before text = seen_line s group (not_before before (read_line text))
