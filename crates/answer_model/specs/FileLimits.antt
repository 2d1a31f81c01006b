-- Files that are longer than they may be, whatever they hold.
use Rattle.std.specs.Prelude.{◌≡◌, true, Some, List, [], ◌∷◌, length, nat_lt, codes}
use Rattle.std.specs.declared.result.Result.TheVariants.{Err}
use Rattle.quantity.specs.declared.bounds.TheConstants.{MAX_LOG_BYTES, MAX_FILE_BYTES}
use Rattle.quantity.specs.Bytes.{Bytes}
use Rattle.event_list.specs.Events.{events_of}
use Rattle.event_list.specs.declared.refusal.EventRefusal.TheVariants.{TooLarge}
use Rattle.room_edge.specs.Outside.{Files}
use Rattle.model_tree.specs.Tree.{Word}
use Rattle.answer_model.specs.AskedDrawing.{AskedDrawing, asked_drawing}
use Rattle.answer_model.specs.Answer.{only_complains}
use Rattle.answer_model.specs.Drawlog.{drawing_answer}
use Rattle.answer_model.specs.declared.status.Status.TheVariants.{LogRefused}

-- at line 0
pub record LongFilesAreRefused : Type 0 where
  pub events : (bytes : Bytes) (ports : List Bytes) → nat_lt MAX_FILE_BYTES (length bytes) ≡ true
      → events_of bytes ports ≡ Err (TooLarge 0)
  pub log : (words : List Word) (files : Files) (a : AskedDrawing) (bytes : Bytes)
      → asked_drawing words ≡ Some a → files a.log ≡ Some bytes
      → nat_lt MAX_LOG_BYTES (length bytes) ≡ true
      → drawing_answer words files
      ≡ only_complains LogRefused (codes "log refused: line 0") (a.log ∷ [])
