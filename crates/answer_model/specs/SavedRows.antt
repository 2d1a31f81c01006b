-- Runs that are served in some order, saved and resumed, from whole files.
use Rattle.std.specs.Prelude.{◌≡◌, List, [], ◌∷◌, ◌++◌, codes}
use Rattle.quantity.specs.Bytes.{Bytes}
use Rattle.model_text.specs.Models.{line_model, blinker, queue_model, port_model}
use Rattle.text_forms.specs.Rows.{lines, line_log, queue_log, two_frames}
use Rattle.text_forms.specs.SavedRows.{line_saved, saved_state_text, fourth}
use Rattle.answer_model.specs.Answer.{MadeFiles, Answer}
use Rattle.answer_model.specs.WholeFiles.{to, file_of_lines, model, model_and, just_model, log, shows, complains, y, x, s}
use Rattle.answer_model.specs.PortRows.{blinker_log, blinker_frames}
use Rattle.answer_model.specs.CellRows.{left_cell, right, third, cell, out_of_order, taken_in_order, model_and_events, with_port_rules, two_events, events}
use Rattle.answer_model.specs.declared.status.Status.TheVariants.{Done, Missing, BadDelay, StateRefused}

abbrev pub with_state : List Bytes → Bytes → MadeFiles
with_state ls bytes = model ls ++ (codes "s.txt", bytes) ∷ []

abbrev pub resumed_answer : Bytes → Bytes → Answer
resumed_answer end state =
    to (codes "cdpp -m m.ma -t " ++ end ++ codes " -R s.txt -l log2.txt")
    (with_state line_model state)

abbrev pub state_refused : Bytes → Answer
state_refused line =
    complains StateRefused (codes "state refused: line " ++ line) []
    (codes "m.ma" ∷ codes "s.txt" ∷ [])

abbrev pub later_log : List Bytes
later_log =
    y (codes "200") left_cell (codes "0") ∷ y (codes "200") right (codes "0")
    ∷ y (codes "200") third (codes "0") ∷ []

-- the logs of a run that is saved, as its second file, and of the run on from it, one after the
-- other
abbrev pub first_of : MadeFiles → Bytes
first_of [] = []
first_of (f ∷ fs) = f.1

abbrev pub second_of : MadeFiles → Bytes
second_of [] = []
second_of (f ∷ fs) = first_of fs

abbrev pub log_of_both : MadeFiles → Bytes → Bytes → Bytes
log_of_both files first next =
    let made = (to first files).made
    in first_of made
    ++ first_of (to next (files ++ (codes "s.txt", second_of made) ∷ [])).made

abbrev pub whole : MadeFiles → Bytes → Bytes
whole files text = first_of (to text files).made

abbrev pub queue : MadeFiles
queue = model queue_model

abbrev pub with_events : MadeFiles
with_events = model port_model ++ out_of_order ∷ []

abbrev pub events_log : Bytes
events_log =
    lines
    (taken_in_order
    ++ x (codes "051") (codes "4")
    ∷ s (codes "051") (codes "g(0,0)") (codes "4") (codes "00:00:00:110")
    ∷ cell (codes "110") (codes "1")
    ∷ s (codes "110") (codes "g(0,0)") (codes "4") (codes "00:00:00:150")
    ∷ cell (codes "150") (codes "3")
    ∷ s (codes "150") (codes "g(0,0)") (codes "4") (codes "00:00:00:151")
    ∷ cell (codes "151") (codes "4")
    ∷ s (codes "151") (codes "g(0,0)") (codes "4") (codes "...") ∷ [])

abbrev pub three_frames : Bytes
three_frames =
    two_frames
    ++ lines
    (codes "Time: 00:00:00:200" ∷ codes "+------+" ∷ codes "| 0 0 0|" ∷ codes "+------+" ∷ []
    ∷ [])

-- a run that is served from this seed
abbrev pub served_by : Bytes → Bytes → MadeFiles → Answer
served_by seed text files = to (text ++ codes " -T " ++ seed) files

abbrev pub three_events : MadeFiles
three_events = model_and with_port_rules (events (two_events ++ codes "00:00:00:120 p 3" ∷ []))

abbrev pub too_late : Answer
too_late =
    complains BadDelay (codes "bad delay: g(0,0) at 00:00:00:120: -10.00000")
    (log (cell (codes "000") (codes "0") ∷ cell (codes "110") (codes "2") ∷ [])) model_and_events

abbrev pub until_late : Bytes
until_late = codes "cdpp -m m.ma -t 00:00:00:200 -e e -l log.txt"

abbrev pub both_files : Bytes
both_files = codes "cdpp -m m.ma -t 00:00:00:000 -l log.txt -o out.txt -L YXS"

abbrev pub queue_files : MadeFiles
queue_files =
    (codes "log.txt", queue_log)
    ∷ file_of_lines (codes "out.txt") (codes "00:00:00:000 o 8.00000" ∷ [])
    ∷ []

abbrev pub blinks : Bytes
blinks = codes "cdpp -m m.ma -t 00:00:00:300 -l log.txt -d f.txt -g Life -w 2"

abbrev pub blinker_files : MadeFiles
blinker_files = log blinker_log ++ file_of_lines (codes "f.txt") blinker_frames ∷ []

pub record RunsAreServed : Type 0 where
  pub mark : to (codes "cdpp -m m.ma -t 00:00:00:000 -T 1") (model line_model)
      ≡ shows (codes "end 00:00:00:000 cycles 1 mark 582706") [] just_model
  pub stop : served_by (codes "1") until_late three_events ≡ too_late
  pub stop_of_other_seed : served_by (codes "2147483647") until_late three_events ≡ too_late
  pub files_of_queue : (served_by (codes "1") both_files queue).made ≡ queue_files
  pub status_of_queue : (served_by (codes "1") both_files queue).status ≡ Done
  pub life : (served_by (codes "1") blinks (model blinker)).made ≡ blinker_files
  pub life_of_other_seed : (served_by (codes "2147483647") blinks (model blinker)).made
      ≡ blinker_files
  pub queue_of_other_seed : (served_by (codes "2147483647") both_files queue).made ≡ queue_files

pub record RunsAreSaved : Type 0 where
  pub saves : to (codes "cdpp -m m.ma -t 00:00:00:100 -S s.txt") (model line_model)
      ≡ shows (codes "end 00:00:00:100 cycles 2") ((codes "s.txt", line_saved) ∷ []) just_model
  pub resumes : resumed_answer (codes "00:00:00:200") line_saved
      ≡ shows (codes "end 00:00:00:200 cycles 1") (file_of_lines (codes "log2.txt") later_log ∷ [])
      (codes "m.ma" ∷ codes "s.txt" ∷ [])
  pub one_run : to (codes "cdpp -m m.ma -t 00:00:00:200 -l log.txt") (model line_model)
      ≡ shows (codes "end 00:00:00:200 cycles 3")
      ((codes "log.txt", line_log ++ lines later_log) ∷ []) just_model
  pub end_before : resumed_answer (codes "00:00:00:050") line_saved
      ≡ state_refused (codes "2: 2 EndBefore")
  pub no_end : resumed_answer (codes "00:00:00:200") (saved_state_text fourth [])
      ≡ state_refused (codes "6: 1 BadStateLine")
  pub not_after : resumed_answer (codes "00:00:00:200")
      (saved_state_text (codes "cell line(0,1) 1.00000 0.00000 1 100 0.00000") (codes "end\n"))
      ≡ state_refused (codes "4: 1 BadStateLine")
  -- a run that stops saves nothing
  pub stopped : to (until_late ++ codes " -S s.txt") three_events
      ≡ record too_late { made = too_late.made ++ (codes "s.txt", []) ∷ [] }
  pub no_state : to (codes "cdpp -m m.ma -t 00:00:00:200 -R s.txt") (model line_model)
      ≡ complains Missing (codes "missing: s.txt") [] (codes "m.ma" ∷ codes "s.txt" ∷ [])
  pub queue_joins : log_of_both queue
      (codes "cdpp -m m.ma -t 00:00:00:000 -l log.txt -L YXS -S s.txt")
      (codes "cdpp -m m.ma -t 00:00:02:000 -l log.txt -L YXS -R s.txt") ≡ queue_log
  pub queue_run : whole queue (codes "cdpp -m m.ma -t 00:00:02:000 -l log.txt -L YXS") ≡ queue_log
  pub events_join : log_of_both with_events
      (codes "cdpp -m m.ma -t 00:00:00:050 -e e -l log.txt -L YXS -S s.txt")
      (codes "cdpp -m m.ma -t 00:00:00:200 -e e -l log.txt -L YXS -R s.txt") ≡ events_log
  pub events_run : whole with_events (codes "cdpp -m m.ma -t 00:00:00:200 -e e -l log.txt -L YXS")
      ≡ events_log
  pub frames_join : log_of_both (model line_model)
      (codes "cdpp -m m.ma -t 00:00:00:100 -d f.txt -g line -w 2 -S s.txt")
      (codes "cdpp -m m.ma -t 00:00:00:300 -d f.txt -g line -w 2 -R s.txt") ≡ three_frames
  pub frames_run : whole (model line_model)
      (codes "cdpp -m m.ma -t 00:00:00:300 -d f.txt -g line -w 2") ≡ three_frames
