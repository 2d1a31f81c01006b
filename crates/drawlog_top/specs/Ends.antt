-- Private: what is answered to a log.
use Rattle.std.specs.Prelude.{Option, []}
use Rattle.quantity.specs.Bytes.{Bytes}
use Rattle.answer_model.specs.Answer.{Answer, with_file}
use Rattle.answer_model.specs.AskedDrawing.{AskedDrawing}
use Rattle.answer_model.specs.Drawlog.{drawn_answer}

-- of a log, if there is one
abbrev pub answer_to_file : AskedDrawing → Option Bytes → Answer
answer_to_file a log = with_file (λ _. log) a.log [] (drawn_answer a)
