use Rattle.std.proofs.Common.{◌≡◌, [], ◌∷◌, ◌++◌, OnOk, sym, ap, subst, ◌∙◌}
use Rattle.quantity.specs.declared.value.Value.{Value}
use Rattle.atomic_face.specs.Bags.{outputs}
use Rattle.atomic_face.specs.StateTable.{held_value, hold_of}
use Rattle.state_tables.specs.Moves.{plain_state}
use Rattle.state_tables.proofs.Plain.{plain_words}
use Rattle.state_tables.proofs.table.TableModelAtomicModel.output.Goals as goal

pub returns-clause-ok : goal.returns-clause-ok
returns-clause-ok c =
    let at = c.args.self.now.at in
    subst (λ (v : Value). OnOk c.give.result (c.give.new.into.items ≡ c.args.into.now.items ++ outputs (v ∷ [])))
    (c.shown.ensures ∙ ap (λ t. held_value (plain_state at) (hold_of t at.state)) (sym (plain_words c.args.self.now.settings)))
    c.give.ensures.ok
