use Rattle.std.proofs.Common.{◌≡◌, List, [], ◌∷◌, ◌++◌, Option, Some, true, length, refl, ap, ◌∙◌}
use Rattle.std.specs.Prelude.{nat_lt}
use Rattle.std.specs.Fmt.{digits}
use Rattle.quantity.specs.declared.bounds.TheConstants.{MAX_LOG_BYTES}
use Rattle.quantity.specs.Bytes.{Bytes}
use Rattle.room_edge.specs.Outside.{Files}
use Rattle.model_tree.specs.Tree.{Word}
use Rattle.event_list.specs.Events.{events_of}
use Rattle.answer_model.specs.Answer.{Answer, if_asked, with_file, only_complains}
use Rattle.answer_model.specs.AskedDrawing.{AskedDrawing, drawing_usage}
use Rattle.answer_model.specs.Drawlog.{drawing_answer, drawn_answer, log_refused}
use Rattle.answer_model.specs.declared.status.Status.TheVariants.{LogRefused}
use Rattle.answer_model.proofs.laws.long_files_are_refused.Goals as goal

found_file : (files : Files) (name : Word) (bytes : Bytes) (inputs : List Word) (go : Bytes → List Word → Answer) → files name ≡ Some bytes → with_file files name inputs go ≡ go bytes (inputs ++ name ∷ [])
found_file files name bytes inputs go found = rw (with_file, found) refl

long_log : (a : AskedDrawing) (bytes : Bytes) (inputs : List Word) → nat_lt MAX_LOG_BYTES (length bytes) ≡ true → drawn_answer a bytes inputs ≡ only_complains LogRefused (log_refused 0) inputs
long_log a bytes inputs long = rw (drawn_answer, long) refl

pub returns : goal.returns
unfolding events_of drawing_answer digits
returns c =
    record {
      events = λ bytes ports long. rw long refl;
      log = λ words files a bytes asked found long. ap (λ (o : Option AskedDrawing). if_asked drawing_usage o (λ a. with_file files a.log [] (drawn_answer a))) asked
          ∙ found_file files a.log bytes [] (drawn_answer a) found ∙ long_log a bytes (a.log ∷ []) long;
    }
