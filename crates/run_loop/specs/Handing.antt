-- Private: lines of the log, of which the first are handed over before the others are put.
use Rattle.std.specs.Prelude.{◌≡◌, ◌++◌, Result, Ok, Err}
use Rattle.quantity.specs.Bytes.{Bytes}
use Rattle.model_leaves.specs.declared.table.Model.{Model}
use Rattle.model_tree.specs.Tree.{leaves}
use Rattle.model_leaves.specs.Leaves.{OfTree}
use Rattle.text_forms.specs.declared.letter.Letter.{Letter}
use Rattle.text_forms.specs.declared.records.Records.{Records}
use Rattle.text_forms.specs.RecordTexts.{texts_of_letter}
use Rattle.room_edge.specs.Outside.{Outside}
use Rattle.asked_words.specs.declared.asked.Asked.{Asked}
use Rattle.run_loop.specs.declared.outputs.Output.TheVariants.{Log}
use Rattle.run_loop.specs.declared.outputs.Unwritten.{Unwritten}
use Rattle.run_loop.specs.AskedFiles.{names_of}
use Rattle.run_loop.specs.Texts.{FileNames}
use Rattle.run_loop.specs.Order.{one_piece}
use Rattle.run_loop.specs.Written.{AddsAll, Falls}

-- the first of these bytes were handed over, and the others are left
pub record Hands (n : FileNames) (bytes left : Bytes) (old new : Outside) : Type 0 where
  pub handed : Bytes
  pub joined : bytes ≡ handed ++ left
  pub adds : AddsAll n (one_piece Log handed) old new

-- the same, or what a failure leaves of them
abbrev pub HandsOver : {T : Type 0} → FileNames → Bytes → Bytes → Outside → Outside
    → Result T Unwritten → Type 0
HandsOver n bytes left old new (Ok _) = Hands n bytes left old new
HandsOver n bytes left old new (Err why) = Falls n why (one_piece Log bytes) old new

-- the lines of a letter are put behind the bytes that are left, and handed over or left with them
abbrev pub HandsLetter : {T : Type 0} → Asked → Model → Records → Letter → Bytes → Bytes
    → Outside → Outside → Result T Unwritten → Type 0
HandsLetter a model records letter old new outside later result =
    OfTree model (λ tree. HandsOver (names_of a)
    (old ++ texts_of_letter (leaves tree) a.given.letters records letter) new outside later result)
