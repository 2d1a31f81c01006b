-- What the drawing program answers to words and files.
use Rattle.std.specs.Prelude.{ℕ, nat_lt, List, [], ◌++◌, length, if◌then◌else◌, codes, decimal, Ok, Err}
use Rattle.quantity.specs.declared.bounds.TheConstants.{MAX_LOG_BYTES}
use Rattle.quantity.specs.Bytes.{Bytes}
use Rattle.room_edge.specs.Outside.{Files}
use Rattle.model_tree.specs.Tree.{Word}
use Rattle.text_forms.specs.Frames.{frames_of_log}
use Rattle.answer_model.specs.AskedDrawing.{AskedDrawing, asked_drawing, drawing_usage}
use Rattle.answer_model.specs.Answer.{Answer, if_asked, with_file, only_complains, only_shows}
use Rattle.answer_model.specs.declared.status.Status.TheVariants.{LogRefused}

-- the complaint of a log that is refused at this line, 0 where it is too long
abbrev pub log_refused : ℕ → Bytes
log_refused line = codes "log refused: line " ++ decimal line

-- the answer to the bytes of a log: its frames are shown, or the first line that is refused is
-- complained
abbrev pub drawn_answer : AskedDrawing → Bytes → List Word → Answer
drawn_answer a log inputs =
    if nat_lt MAX_LOG_BYTES (length log) then only_complains LogRefused (log_refused 0) inputs
    else
    elim (frames_of_log a.picture a.group log) [
      | Err line ↦ only_complains LogRefused (log_refused line) inputs
      | Ok frames ↦ only_shows frames inputs
    ]

-- the answer to words and files, whose log is the file that the words name
unfoldable pub drawing_answer : List Word → Files → Answer
drawing_answer words files =
    if_asked drawing_usage (asked_drawing words) (λ a. with_file files a.log [] (drawn_answer a))
