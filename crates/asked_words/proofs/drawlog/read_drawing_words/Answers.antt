use Rattle.std.proofs.Common.{◌∙◌, ap}
use Rattle.std.proofs.lemmas.Result.{IfOk-weaker}
use Rattle.quantity.specs.Written.{for_some}
use Rattle.answer_model.specs.AskedDrawing.{drawing_in_draft}
use Rattle.asked_words.proofs.drawlog.read_drawing_words.Goals as goal

pub returns-in-Ok-Some-clause-value : goal.returns-in-Ok-Some-clause-value
returns-in-Ok-Some-clause-value c =
    IfOk-weaker c.drawing_of.result _ _ (λ a v. v ∙ ap (λ d. for_some d drawing_in_draft) (rw c.in-Ok-Some.field-0-is at c.in-Ok-Some.ensures.value)) c.drawing_of.ensures.value

pub returns-in-Ok-None-clause-value : goal.returns-in-Ok-None-clause-value
returns-in-Ok-None-clause-value c = ap (λ d. for_some d drawing_in_draft) (rw c.in-Ok-None.field-0-is at c.in-Ok-None.ensures.value)
