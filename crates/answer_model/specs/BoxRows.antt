-- Runs of atomic components, from whole files.
use Rattle.std.specs.Prelude.{◌≡◌, List, [], ◌∷◌, ◌++◌, codes}
use Rattle.quantity.specs.Bytes.{Bytes}
use Rattle.model_tree.specs.Tree.{Word}
use Rattle.model_text.specs.Models.{queue_model, with_line}
use Rattle.text_forms.specs.Rows.{queue_log}
use Rattle.answer_model.specs.Answer.{MadeFiles, Answer}
use Rattle.answer_model.specs.WholeFiles.{to, file_of_lines, model, model_and, just_model, log, shows, complains, y}
use Rattle.answer_model.specs.declared.status.Status.TheVariants.{ModelRefused, Overflow}

abbrev pub output : Bytes → MadeFiles
output line = file_of_lines (codes "out.txt") (line ∷ []) ∷ []

-- ---- a counter that overflows

abbrev pub counter_model : List Bytes
counter_model =
    codes "[top]" ∷ codes "components : g@generator c@counter" ∷ codes "out : o"
    ∷ codes "link : out@g in@c" ∷ codes "link : out@c o"
    ∷ codes "[g]" ∷ codes "period : 00:00:00:010" ∷ codes "[c]" ∷ codes "step : 6000000000" ∷ []

-- ---- lights whose states stand in the file

abbrev pub lights : List Bytes
lights =
    codes "[top]" ∷ codes "components : l@table" ∷ codes "in : p" ∷ codes "out : o"
    ∷ codes "link : p a@l" ∷ codes "link : out@l o"
    ∷ codes "[l]" ∷ codes "states : red green" ∷ codes "hold : red 00:00:00:030 1 green"
    ∷ codes "hold : green 00:00:00:050 2 red"
    ∷ codes "take : green a 9 red" ∷ []

abbrev pub answer_of_lights : Bytes → Answer
answer_of_lights event =
    to (codes "cdpp -m m.ma -t 00:00:00:100 -e e -o out.txt")
    (model_and lights (file_of_lines (codes "e") (event ∷ [])))

abbrev pub two_lights : Bytes → MadeFiles
two_lights second =
    file_of_lines (codes "out.txt") (codes "00:00:00:030 o 1.00000" ∷ second ∷ []) ∷ []

abbrev pub model_and_events : List Word
model_and_events = codes "m.ma" ∷ codes "e" ∷ []

pub record BoxesRun : Type 0 where
  pub queue : to (codes "cdpp -m m.ma -t 00:00:00:000 -l log.txt -o out.txt -L YXS")
      (model queue_model)
      ≡ shows (codes "end 00:00:00:000 cycles 2")
      ((codes "log.txt", queue_log) ∷ output (codes "00:00:00:000 o 8.00000")) just_model
  pub overflow : to (codes "cdpp -m m.ma -t 00:00:01:000 -l log.txt -o out.txt")
      (model counter_model)
      ≡ complains Overflow (codes "overflow: c at 00:00:00:010")
      (log (y (codes "000") (codes "g") (codes "1")
      ∷ y (codes "000") (codes "c") (codes "6000000000") ∷ [])
      ++ output (codes "00:00:00:000 o 6000000000.00000")) just_model
  pub quiet : to (codes "cdpp -m m.ma -t 00:00:00:100")
      (model (codes "[top]" ∷ codes "components : q@queue" ∷ []))
      ≡ shows (codes "end 00:00:00:100 cycles 0") [] just_model
  pub taken : answer_of_lights (codes "00:00:00:040 p 9")
      ≡ shows (codes "end 00:00:00:100 cycles 3")
      (two_lights (codes "00:00:00:070 o 1.00000")) model_and_events
  pub taken_when_due : answer_of_lights (codes "00:00:00:030 p 9")
      ≡ shows (codes "end 00:00:00:100 cycles 2")
      (two_lights (codes "00:00:00:060 o 1.00000")) model_and_events
  pub no_state : to (codes "cdpp -m m.ma -t 00:00:00:100 -o out.txt")
      (model (with_line 9 (codes "hold : blue 00:00:00:030 1 red") lights))
      ≡ complains ModelRefused (codes "model refused: line 9: 13 BadParameter") [] just_model
