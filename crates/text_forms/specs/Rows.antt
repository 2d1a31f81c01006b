-- Logs and frames that compute.
use Rattle.std.specs.Prelude.{◌≡◌, ℕ, ◌-◌, Some, None, List, [], ◌∷◌, length, take, codes, Ok, Err}
use Rattle.std.specs.List.{flat_map}
use Rattle.quantity.specs.declared.value.Value.{Value}
use Rattle.quantity.specs.declared.value.Value.TheVariants.{Undefined}
use Rattle.cell_grid.specs.Space.{Space}
use Rattle.model_tree.specs.Examples.{twice_and_once}
use Rattle.run_model.specs.WholeRun.{run}
use Rattle.run_model.specs.Examples.{with_port}
use Rattle.run_model.specs.GroupRows.{feeding_tree}
use Rattle.quantity.specs.Bytes.{Bytes}
use Rattle.text_forms.specs.declared.letter.Letter.TheVariants.{Y}
use Rattle.text_forms.specs.LogLine.{given, moved, read_line}
use Rattle.text_forms.specs.Lines.{log_bytes, out_bytes, line_with_end}
use Rattle.text_forms.specs.Frames.{Picture, frames_of, frames_of_log}
use Rattle.text_forms.specs.Models.{line, line_group, solid, solid_group}

abbrev pub lines : List Bytes → Bytes
lines ls = flat_map line_with_end ls

abbrev pub y : List ℕ
y = codes "Y"

abbrev pub line_log : Bytes
line_log =
    lines
    (codes "Y / 00:00:00:000 / line(0,0) / out / 0.00000"
    ∷ codes "Y / 00:00:00:000 / line(0,1) / out / 1.00000"
    ∷ codes "Y / 00:00:00:000 / line(0,2) / out / 0.00000"
    ∷ codes "Y / 00:00:00:100 / line(0,0) / out / 1.00000"
    ∷ codes "Y / 00:00:00:100 / line(0,2) / out / 1.00000" ∷ [])

abbrev pub line_states : Bytes
line_states =
    lines
    (codes "S / 00:00:00:000 / line(0,0) / 1.00000 / 00:00:00:100"
    ∷ codes "S / 00:00:00:000 / line(0,1) / 1.00000 / ..."
    ∷ codes "S / 00:00:00:000 / line(0,2) / 1.00000 / 00:00:00:100"
    ∷ codes "S / 00:00:00:100 / line(0,0) / 0.00000 / 00:00:00:200"
    ∷ codes "S / 00:00:00:100 / line(0,1) / 0.00000 / 00:00:00:200"
    ∷ codes "S / 00:00:00:100 / line(0,2) / 0.00000 / 00:00:00:200" ∷ [])

abbrev pub queue_log : Bytes
queue_log =
    lines
    (codes "Y / 00:00:00:000 / g / out / 7.00000" ∷ codes "Y / 00:00:00:000 / h / out / 8.00000"
    ∷ codes "X / 00:00:00:000 / q / in / 8.00000" ∷ codes "X / 00:00:00:000 / q / in / 7.00000"
    ∷ codes "X / 00:00:00:000 / q / in / 7.00000" ∷ codes "S / 00:00:00:000 / g / - / ..."
    ∷ codes "S / 00:00:00:000 / h / - / ..."
    ∷ codes "S / 00:00:00:000 / q / - / 00:00:00:000" ∷ codes "Y / 00:00:00:000 / q / out / 8.00000"
    ∷ codes "S / 00:00:00:000 / q / - / ..." ∷ [])

abbrev pub port_log : Bytes
port_log =
    lines
    (codes "Y / 00:00:00:000 / g(0,0) / out / 0.00000"
    ∷ codes "N / 00:00:00:000 / g(0,0) / p / 0.00000"
    ∷ codes "S / 00:00:00:000 / g(0,0) / 0.00000 / 00:00:00:100"
    ∷ codes "N / 00:00:00:100 / g(0,0) / p / 1.00000"
    ∷ codes "S / 00:00:00:100 / g(0,0) / 1.00000 / 00:00:00:200"
    ∷ codes "Y / 00:00:00:200 / g(0,0) / out / 1.00000"
    ∷ codes "N / 00:00:00:200 / g(0,0) / p / 2.00000"
    ∷ codes "S / 00:00:00:200 / g(0,0) / 1.00000 / ..." ∷ [])

-- in a cycle Y, N, X and S lines follow one another
abbrev pub feeding_log : Bytes
feeding_log =
    lines
    (codes "Y / 00:00:00:000 / g(0,0) / out / 0.00000"
    ∷ codes "N / 00:00:00:000 / g(0,0) / p / 0.00000"
    ∷ codes "X / 00:00:00:000 / q / in / 0.00000"
    ∷ codes "S / 00:00:00:000 / g(0,0) / 0.00000 / 00:00:00:100"
    ∷ codes "S / 00:00:00:000 / q / - / 00:00:01:000" ∷ [])

abbrev pub two_frames : Bytes
two_frames =
    lines
    (codes "Time: 00:00:00:000" ∷ codes "+------+" ∷ codes "| 0 1 0|" ∷ codes "+------+" ∷ []
    ∷ codes "Time: 00:00:00:100" ∷ codes "+------+" ∷ codes "| 1 1 1|" ∷ codes "+------+" ∷ [] ∷ [])

abbrev pub port_frames : Bytes
port_frames =
    lines
    (codes "Time: 00:00:00:000" ∷ codes "+---+" ∷ codes "|  0|" ∷ codes "+---+" ∷ []
    ∷ codes "Time: 00:00:00:200" ∷ codes "+---+" ∷ codes "|  1|" ∷ codes "+---+" ∷ [] ∷ [])

abbrev pub solid_frame : Bytes
solid_frame =
    lines (codes "Time: 00:00:00:000" ∷ codes "+------+" ∷ codes "|  0 12|" ∷ codes "+------+" ∷ []
    ∷ [])

abbrev pub picture : Space → ℕ → ℕ → Picture
picture s plane width = record { space = s; plane = plane; width = width; decimals = 0 }

abbrev pub unknown : ℕ → Value
unknown cell = Undefined

abbrev pub on_line : Picture
on_line = picture line_group.space 0 2

abbrev pub two_cells : Picture
two_cells = picture (record line_group.space { columns = 2 }) 0 2

abbrev pub one_place : Picture
one_place = picture (record line_group.space { columns = 1 }) 0 3

pub record RowsAsSaid : Type 0 where
  pub values : log_bytes line y (run line [] 100 10000).cycles ≡ line_log
  pub states : log_bytes line (codes "S") (run line [] 100 10000).cycles ≡ line_states
  pub queue : log_bytes twice_and_once (codes "SXY") (run twice_and_once [] 0 10000).cycles
      ≡ queue_log
  pub queue_out : out_bytes twice_and_once (run twice_and_once [] 0 10000).cycles
      ≡ lines (codes "00:00:00:000 o 8.00000" ∷ [])
  pub further_port : log_bytes with_port (codes "YNS") (run with_port [] 1000 10000).cycles
      ≡ port_log
  pub each_letter : log_bytes feeding_tree (codes "XNSY") (run feeding_tree [] 99 10000).cycles
      ≡ feeding_log
  pub drawn_line : frames_of_log on_line (codes "line") line_log ≡ Ok two_frames
  pub same_frames : frames_of on_line 0 unknown (run line [] 100 10000).cycles ≡ two_frames
  pub torn : frames_of_log on_line (codes "line") (take (length line_log - 3) line_log) ≡ Err 5
  pub outside : frames_of_log two_cells (codes "line") line_log ≡ Err 3
  pub nothing : frames_of_log on_line (codes "line") [] ≡ Ok []
  pub first_port : frames_of_log one_place (codes "g") port_log ≡ Ok port_frames
  pub one_plane : frames_of (picture solid_group.space 1 3) 0 unknown (run solid [] 0 10000).cycles
      ≡ solid_frame
  pub stands : read_line (codes "Y / 00:00:00:000 / g(0,10) / out / ?")
      ≡ Some (given Y 0 (record { name = codes "g"; at = 0 ∷ 10 ∷ [] }) (codes "out") Undefined)
  pub atomic : read_line (codes "S / 00:00:00:000 / q / - / ...")
      ≡ Some (moved 0 (record { name = codes "q"; at = [] }) None None)
  pub no_state : read_line (codes "S / 00:00:00:000 / q(0,0) / - / ...") ≡ None
  pub no_place : read_line (codes "N / 00:00:00:000 / q / p / 0.00000") ≡ None
  pub two_blanks : read_line (codes "Y /  00:00:00:000 / q / out / 0.00000") ≡ None
  pub one_place_only : read_line (codes "Y / 00:00:00:000 / q(0) / out / 0.00000") ≡ None
