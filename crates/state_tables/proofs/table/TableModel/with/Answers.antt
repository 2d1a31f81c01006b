use Rattle.std.proofs.Common.{sym, ap, ◌∙◌}
use Rattle.quantity.specs.declared.value.Value.TheVariants.{Undefined}
use Rattle.atomic_face.specs.declared.class.Class.TheVariants.{Table}
use Rattle.atomic_face.specs.StateTable.{TableState, state_on_entry, table_words}
use Rattle.atomic_face.specs.Held.{Held}
use Rattle.atomic_face.specs.Words.{word_of}
use Rattle.state_tables.specs.Settings.{words_of}
use Rattle.state_tables.proofs.Plain.{plain_words}
use Rattle.state_tables.proofs.table.TableModel.with.Goals as goal

pub returns : goal.returns
returns c =
    let s = c.args.settings in
    let box : TableState → Held = λ at. record { kind = Table; settings = words_of s; state = table_words at } in
    ap box (rw c.time.ensures at c.entered-at.ensures ∙ ap (λ t. state_on_entry t 0 (word_of Undefined) t.initial) (sym (plain_words s)))
