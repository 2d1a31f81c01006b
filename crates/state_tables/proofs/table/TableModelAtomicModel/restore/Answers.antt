use Rattle.std.proofs.Common.{FitsSigned, get_or, pos, sym, ap, w64, rules, ◌∙◌}
use Rattle.std.proofs.lemmas.Int.{to_z-of_z}
use Rattle.atomic_face.specs.StateTable.{is_table}
use Rattle.atomic_face.specs.Moves.{with_state}
use Rattle.state_tables.specs.Settings.{words_of}
use Rattle.state_tables.specs.Table.{held_table}
use Rattle.state_tables.proofs.Plain.{three_listed, three_same}
use Rattle.state_tables.proofs.table.TableModelAtomicModel.restore.Goals as goal

pub returns : goal.returns
returns c =
    let words = c.args.words.now in
    let state_fits : FitsSigned w64 (get_or words 0 (pos 0)) = search rules in
    let due_fits : FitsSigned w64 (get_or words 1 (pos 0)) = search rules in
    let last_fits : FitsSigned w64 (get_or words 2 (pos 0)) = search rules in
    let same =
    three_same (to_z-of_z w64 (get_or words 0 (pos 0)) state_fits) (to_z-of_z w64 (get_or words 1 (pos 0)) due_fits) (to_z-of_z w64 (get_or words 2 (pos 0)) last_fits) ∙ sym (three_listed words c.in-len3.len_at_least c.in-len3.len_below) in (
      ap (is_table (words_of c.args.self.now.settings)) (sym same) ∙ c.in-Some.ensures.0,
      ap (with_state (held_table c.args.self.now)) (c.in-Some.ensures.1 ∙ same),
    )
