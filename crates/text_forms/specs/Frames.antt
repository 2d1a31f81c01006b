-- Frames: a search in the list of the values that cells showed. And frames drawn from a log.
use Rattle.std.specs.Prelude.{ℕ, ◌+◌, ◌-◌, ◌*◌, Bool, true, false, not, ◌&&◌, ◌==◌, nat_lt, nat_le}
use Rattle.std.specs.Prelude.{unwrap_or}
use Rattle.std.specs.Prelude.{Option, Some, None, List, [], ◌∷◌, ◌++◌, replicate, Result, Ok, Err}
use Rattle.std.specs.Prelude.{if◌then◌else◌, codes}
use Rattle.std.specs.List.{slice_split, filter, filter_map, flat_map, last_or, range_with_len}
use Rattle.std.specs.Str.{bytes_eq}
use Rattle.quantity.specs.declared.value.Value.{Value}
use Rattle.quantity.specs.declared.value.Value.TheVariants.{Undefined}
use Rattle.cell_grid.specs.Space.{Space, cell_at_place, cell_count, dims_of, number_of}
use Rattle.model_tree.specs.Tree.{Word}
use Rattle.run_model.specs.Run.{Cycle, PortRecord}
use Rattle.quantity.specs.Bytes.{Bytes}
use Rattle.quantity.specs.ValueTexts.{value_text}
use Rattle.quantity.specs.Times.{time_text}
use Rattle.text_forms.specs.declared.letter.Letter.{Letter}
use Rattle.text_forms.specs.declared.letter.Letter.TheVariants.{Y}
use Rattle.text_forms.specs.LogLine.{LogLine, given, moved, read_line}
use Rattle.text_forms.specs.Lines.{line_with_end}

-- a cell of the group gave this value at `out`
pub record ShownCell : Type 0 where
  pub time : ℕ
  pub cell : ℕ
  pub value : Value

-- what is drawn: a plane of a space, each value in so many places and with so many decimals
pub record Picture : Type 0 where
  pub space : Space
  pub plane : ℕ
  pub width : ℕ
  pub decimals : ℕ

-- ---- frames

-- each instant once
abbrev pub instants : List ShownCell → List ℕ
instants [] = []
instants (s ∷ ss) = s.time ∷ filter (λ t. not (t == s.time)) (instants ss)

-- the value of a cell, where it was shown by this time
abbrev pub value_until : ℕ → ℕ → ShownCell → Option Value
value_until t cell s = if nat_le s.time t && (s.cell == cell) then Some s.value else None

-- the last value of the cell up to the end of the instant, or else its value at the start
abbrev pub value_drawn : (ℕ → Value) → List ShownCell → ℕ → ℕ → Value
value_drawn start shown t cell =
    unwrap_or (last_or None (filter_map (value_until t cell) shown)) (start cell)

-- the line above and below
abbrev pub edge : Picture → Bytes
edge p = line_with_end (codes "+" ++ replicate (p.width * p.space.columns) 45 ++ codes "+")

-- a row of cells
abbrev pub row_text : Picture → (ℕ → Value) → ℕ → Bytes
row_text p value row =
    line_with_end
    (codes "|"
    ++ flat_map (λ column. value_text p.decimals p.width
    (value (number_of p.space row column p.plane))) (range_with_len 0 p.space.columns)
    ++ codes "|")

-- the time, the rows between two edges, and an empty line
abbrev pub frame_text : Picture → ℕ → (ℕ → Value) → Bytes
frame_text p t value =
    line_with_end (codes "Time: " ++ time_text t) ++ edge p
    ++ flat_map (row_text p value) (range_with_len 0 p.space.rows) ++ edge p ++ line_with_end []

-- a frame for each instant
abbrev pub frames : Picture → (ℕ → Value) → List ShownCell → Bytes
frames p start shown = flat_map (λ t. frame_text p t (value_drawn start shown t)) (instants shown)

-- ---- of cycles: the group's first cell has this leaf number

-- what a record shows of the cells of a group
abbrev pub shown_by : Space → ℕ → ℕ → PortRecord → Option ShownCell
shown_by s first time r =
    if nat_le first r.leaf && nat_lt r.leaf (first + cell_count s)
    then Some (record { time = time; cell = r.leaf - first; value = r.value })
    else None

-- what cycles show
abbrev pub shown_in : Space → ℕ → List Cycle → List ShownCell
shown_in s first cycles = flat_map (λ (c : Cycle). filter_map (shown_by s first c.time) c.y) cycles

-- the frames of cycles
abbrev pub frames_of : Picture → ℕ → (ℕ → Value) → List Cycle → Bytes
frames_of p first start cycles = frames p start (shown_in p.space first cycles)

-- ---- of a log

-- the cell with these coordinates, where their number is the space's and they lie in it
abbrev pub cell_of_coordinates : Space → List ℕ → Option ℕ
cell_of_coordinates s (i ∷ j ∷ []) =
    if dims_of s == 2 then cell_at_place s (record { row = i; column = j; plane = 0 }) else None
cell_of_coordinates s (i ∷ j ∷ k ∷ []) =
    if dims_of s == 3 then cell_at_place s (record { row = i; column = j; plane = k }) else None
cell_of_coordinates s at = None

-- what a line shows: nothing, a value of a cell, or it is refused
abbrev pub shown_at : ℕ → Value → Option ℕ → Option (List ShownCell)
shown_at time v None = None
shown_at time v (Some cell) = Some (record { time = time; cell = cell; value = v } ∷ [])

-- the letter of the lines that are drawn
abbrev pub is_drawn : Letter → Bool
is_drawn Y = true
is_drawn letter = false

-- what a line shows of a group
abbrev pub shown_of : Space → Word → LogLine → Option (List ShownCell)
shown_of s group (moved time leaf state next) = Some []
shown_of s group (given letter time leaf port v) =
    if is_drawn letter && bytes_eq leaf.name group
    then shown_at time v (cell_of_coordinates s leaf.at)
    else Some []

-- the time of a line
abbrev pub line_time : LogLine → ℕ
line_time (given letter time leaf port v) = time
line_time (moved time leaf state next) = time

-- a line that is read, and not before the line above it
abbrev pub not_before : ℕ → Option LogLine → Option LogLine
not_before t None = None
not_before t (Some l) = if nat_le t (line_time l) then Some l else None

-- what a line shows, before what those behind it show
abbrev pub and_shown : ℕ → Option (List ShownCell) → Result (List ShownCell) ℕ
    → Result (List ShownCell) ℕ
and_shown line None more = Err line
and_shown line (Some here) (Err later) = Err later
and_shown line (Some here) (Ok more) = Ok (here ++ more)

-- nothing stands behind the last line end
abbrev pub only_end : ℕ → Bytes → Result (List ShownCell) ℕ
only_end line [] = Ok []
only_end line (c ∷ cs) = Err line

-- what the lines show, or the number of the first that is refused; the last part has no line end
abbrev pub lines_from : Space → Word → ℕ → ℕ → List Bytes → Result (List ShownCell) ℕ
lines_from s group line before [] = Ok []
lines_from s group line before (part ∷ []) = only_end line part
lines_from s group line before (part ∷ next ∷ more) =
    elim (not_before before (read_line part)) [
      | None ↦ Err line
      | Some l ↦ and_shown line (shown_of s group l)
          (lines_from s group (line + 1) (line_time l) (next ∷ more))
    ]

-- the frames of what is shown
abbrev pub drawn_lines : Picture → Result (List ShownCell) ℕ → Result Bytes ℕ
drawn_lines p (Err line) = Err line
drawn_lines p (Ok shown) = Ok (frames p (λ cell. Undefined) shown)

-- the frames of a log, or the number of the first line that is refused
abbrev pub frames_of_log : Picture → Word → Bytes → Result Bytes ℕ
frames_of_log p group log =
    drawn_lines p (lines_from p.space group 1 0 (slice_split (λ c. c == 10) log))
