use Rattle.std.proofs.Common.{Some, refl, sym, ap, ◌∙◌}
use Rattle.atomic_face.specs.StateTable.{table_moved, table_words}
use Rattle.state_tables.specs.Moves.{plain_state}
use Rattle.state_tables.proofs.Plain.{plain_words}
use Rattle.state_tables.proofs.table.TableModelAtomicModel.advance.Goals as goal

pub returns : goal.returns
returns c =
    let t = c.args.self.now in (
      ap (λ s. Some (table_words (table_moved s c.args.now (plain_state t.at) c.args.bag.now))) (plain_words t.settings) ∙ ap (λ at. Some (table_words at)) (sym c.moved-self.ensures),
      refl,
    )
