-- Cells with variables and further ports, the blinker, the made model and drawn logs, from whole
-- files.
use Rattle.std.specs.Prelude.{◌≡◌, ◌-◌, List, [], ◌∷◌, ◌++◌, length, take, codes}
use Rattle.quantity.specs.Bytes.{Bytes}
use Rattle.model_text.specs.Models.{blinker, cell_model, with_line}
use Rattle.text_forms.specs.Rows.{lines, line_log, two_frames, port_log, port_frames}
use Rattle.answer_model.specs.AskedRows.{words}
use Rattle.answer_model.specs.Answer.{Answer}
use Rattle.answer_model.specs.Drawlog.{drawing_answer}
use Rattle.answer_model.specs.WholeFiles.{folder, to, model, just_model, log, shows, complains, y}
use Rattle.answer_model.specs.CellRows.{cell}
use Rattle.answer_model.specs.declared.status.Status.TheVariants.{Done, Missing, LogRefused}

-- ---- variables

abbrev pub counts_down : List Bytes
counts_down =
    cell_model (codes "statevariables : n" ∷ codes "statevalues : 3" ∷ [])
    (codes "rule : { $n } { $n := $n - 1; } 100 { $n > 0 }" ∷ codes "rule : 9 100 { t }" ∷ [])

abbrev pub sees_old : List Bytes
sees_old =
    with_line 9 (codes "initialvalue : 5")
    (cell_model (codes "statevariables : a b" ∷ codes "statevalues : 0 0" ∷ [])
    (codes "rule : { $b } { $a := $a + 1; $b := $a; } 100 { time < 300 }"
    ∷ codes "rule : { (0,0) } 100 { t }" ∷ []))

-- ---- further ports

abbrev pub with_port : List Bytes
with_port =
    cell_model (codes "neighborports : p" ∷ codes "portvalues : 0" ∷ [])
    (codes "rule : { ~p := (0,0)~p + 1; ~out := (0,0) + (0,0)~p; } 100 { time < 200 }"
    ∷ codes "rule : { (0,0) } 100 { t }" ∷ [])

-- ---- the blinker: at 0 all cells, and then the four at its ends

abbrev pub at_ends : Bytes → Bytes → Bytes → List Bytes
at_ends time upright lying =
    y time (codes "life(1,2)") upright ∷ y time (codes "life(2,1)") lying
    ∷ y time (codes "life(2,3)") lying ∷ y time (codes "life(3,2)") upright ∷ []

abbrev pub row_of : Bytes → Bytes → List Bytes
row_of row values = columns (codes "01234") values
  where
    columns : Bytes → Bytes → List Bytes
    columns (c ∷ cs) (v ∷ vs) =
        y (codes "000") (codes "life(" ++ row ++ codes "," ++ (c ∷ []) ++ codes ")") (v ∷ [])
        ∷ columns cs vs
    columns cs vs = []

abbrev pub blinker_log : List Bytes
blinker_log =
    row_of (codes "0") (codes "00000") ++ row_of (codes "1") (codes "00000")
    ++ row_of (codes "2") (codes "01110") ++ row_of (codes "3") (codes "00000")
    ++ row_of (codes "4") (codes "00000")
    ++ at_ends (codes "100") (codes "1") (codes "0")
    ++ at_ends (codes "200") (codes "0") (codes "1")
    ++ at_ends (codes "300") (codes "1") (codes "0")

abbrev pub frame_rows : Bytes → List Bytes → List Bytes
frame_rows time rows =
    (codes "Time: 00:00:00:" ++ time) ∷ codes "+----------+" ∷ rows ++ codes "+----------+" ∷ []
    ∷ []

abbrev pub lying_blinker : List Bytes
lying_blinker =
    codes "| 0 0 0 0 0|" ∷ codes "| 0 0 0 0 0|" ∷ codes "| 0 1 1 1 0|" ∷ codes "| 0 0 0 0 0|"
    ∷ codes "| 0 0 0 0 0|" ∷ []

abbrev pub upright : List Bytes
upright =
    codes "| 0 0 0 0 0|" ∷ codes "| 0 0 1 0 0|" ∷ codes "| 0 0 1 0 0|" ∷ codes "| 0 0 1 0 0|"
    ∷ codes "| 0 0 0 0 0|" ∷ []

abbrev pub blinker_frames : List Bytes
blinker_frames =
    frame_rows (codes "000") lying_blinker ++ frame_rows (codes "100") upright
    ++ frame_rows (codes "200") lying_blinker
    ++ frame_rows (codes "300") upright

-- ---- drawn logs

abbrev pub drawn_as : Bytes → Answer
drawn_as frames =
    record {
      made = [];
      shown = frames;
      complained = [];
      status = Done;
      inputs = codes "log.txt" ∷ [];
    }

abbrev pub drawn_of : Bytes → Bytes → Answer
drawn_of text bytes = drawing_answer (words text) (folder ((codes "log.txt", bytes) ∷ []))

pub record PortsRun : Type 0 where
  pub countdown : to (codes "cdpp -m m.ma -t 00:00:01:000 -l log.txt") (model counts_down)
      ≡ shows (codes "end 00:00:01:000 cycles 5")
      (log (cell (codes "000") (codes "0") ∷ cell (codes "100") (codes "3")
      ∷ cell (codes "200") (codes "2") ∷ cell (codes "300") (codes "1")
      ∷ cell (codes "400") (codes "9") ∷ [])) just_model
  pub old_values : to (codes "cdpp -m m.ma -t 00:00:01:000 -l log.txt") (model sees_old)
      ≡ shows (codes "end 00:00:01:000 cycles 4")
      (log (cell (codes "000") (codes "5") ∷ cell (codes "100") (codes "0")
      ∷ cell (codes "200") (codes "1") ∷ cell (codes "300") (codes "2") ∷ [])) just_model
  pub further_port : to (codes "cdpp -m m.ma -t 00:00:01:000 -l log.txt -L YNS") (model with_port)
      ≡ shows (codes "end 00:00:01:000 cycles 3") ((codes "log.txt", port_log) ∷ []) just_model
  pub blinks : to (codes "cdpp -m m.ma -t 00:00:00:300 -l log.txt -d f.txt -g Life -w 2")
      (model blinker)
      ≡ shows (codes "end 00:00:00:300 cycles 4")
      (log blinker_log ++ (codes "f.txt", lines blinker_frames) ∷ []) just_model
  pub made : to (codes "cdpp -G 5 -t 00:00:00:300") []
      ≡ shows (codes "made 5 cells 25 cycles 4 y 37 s 88 ones 3") [] []

-- ---- the ring's log, of which so many bytes are there

abbrev pub drawn_to : Bytes → Answer
drawn_to bytes = drawn_of (codes "drawlog -l log.txt -g line -s 1,3") bytes

abbrev pub in_frame : Bytes → Bytes → Bytes
in_frame time row =
    lines ((codes "Time: 00:00:00:" ++ time) ∷ codes "+---------+" ∷ row ∷ codes "+---------+" ∷ []
    ∷ [])

abbrev pub refused_at : Bytes → Answer
refused_at line =
    complains LogRefused (codes "log refused: line " ++ line) [] (codes "log.txt" ∷ [])

pub record LogsAreDrawn : Type 0 where
  pub no_line : drawn_to (take 0 line_log) ≡ drawn_as []
  pub a_byte : drawn_to (take 1 line_log) ≡ refused_at (codes "1")
  pub no_line_feed : drawn_to (take 44 line_log) ≡ refused_at (codes "1")
  pub one_line : drawn_to (take 45 line_log)
      ≡ drawn_as (in_frame (codes "000") (codes "|  0  ?  ?|"))
  pub one_line_and_a_byte : drawn_to (take 46 line_log) ≡ refused_at (codes "2")
  pub two_lines : drawn_to (take 90 line_log)
      ≡ drawn_as (in_frame (codes "000") (codes "|  0  1  ?|"))
  pub three_lines : drawn_to (take 135 line_log)
      ≡ drawn_as (in_frame (codes "000") (codes "|  0  1  0|"))
  pub four_lines : drawn_to (take 180 line_log)
      ≡ drawn_as
      (in_frame (codes "000") (codes "|  0  1  0|")
      ++ in_frame (codes "100") (codes "|  1  1  0|"))
  pub five_lines : drawn_to line_log
      ≡ drawn_as
      (in_frame (codes "000") (codes "|  0  1  0|")
      ++ in_frame (codes "100") (codes "|  1  1  1|"))
  pub ring : drawn_of (codes "drawlog -l log.txt -g line -s 1,3 -w 2") line_log
      ≡ drawn_as two_frames
  pub torn : drawn_of (codes "drawlog -l log.txt -g line -s 1,3 -w 2")
      (take (length line_log - 3) line_log)
      ≡ complains LogRefused (codes "log refused: line 5") [] (codes "log.txt" ∷ [])
  pub outside : drawn_of (codes "drawlog -l log.txt -g line -s 1,2 -w 2") line_log
      ≡ complains LogRefused (codes "log refused: line 3") [] (codes "log.txt" ∷ [])
  pub further_port : drawn_of (codes "drawlog -l log.txt -g g -s 1,1") port_log
      ≡ drawn_as port_frames
  pub no_log : drawing_answer (words (codes "drawlog -l log.txt -g line -s 1,3")) (folder [])
      ≡ complains Missing (codes "missing: log.txt") [] (codes "log.txt" ∷ [])
