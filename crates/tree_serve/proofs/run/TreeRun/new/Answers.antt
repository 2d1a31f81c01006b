use Rattle.std.proofs.Common.{◌∙◌, refl, subst}
use Rattle.model_leaves.specs.Leaves.{OfTree}
use Rattle.tree_mail.specs.Tabled.{AreTables}
use Rattle.tree_serve.proofs.Made.{made-holds, no-service-yet}
use Rattle.tree_serve.proofs.run.TreeRun.new.Goals as goal

pub invariant_of-result : goal.invariant_of-result
invariant_of-result g c =
    let made = c.in_ok-leaves.ensures in
    let served = c.in-Ok.ensures in
    made-holds c.args.model c.args.stock c.in_ok-leaves.leaves made.model made.settings made.states
    c.records_name_what_there_is.ensures.start c.in-Ok.tables c.args.events c.args.end c.args.limit c.in_ok-leaves.due.items c.new.result.items c.in-Ok.mail
    c.requires.sound c.requires.at_inputs c.requires.end c.requires.limit (subst (λ m. OfTree m (λ t. AreTables t c.in-Ok.tables)) (c.model.ensures ∙ made.model) served.tables) made.due served.waiting served.kept

pub returns-in-Ok-clause-between : goal.returns-in-Ok-clause-between
returns-in-Ok-clause-between g c =
    record {
      instant = refl;
      service = no-service-yet c.in_ok-leaves.leaves.states c.in-Ok.tables.entries.items c.in-Ok.mail c.in-Ok.ensures.waiting c.in-Ok.ensures.kept;
    }
