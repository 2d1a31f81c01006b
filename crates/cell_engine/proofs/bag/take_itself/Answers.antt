use Rattle.std.proofs.Common.{◌+◌, ◌∙◌, [], ◌∷◌, ap}
use Rattle.model_tree.specs.declared.group.CellSettings.{CellSettings}
use Rattle.cell_engine.specs.Layout.{Layout}
use Rattle.cell_engine.proofs.Choosing.{alone}
use Rattle.cell_engine.proofs.Takes.{itself_taken}
use Rattle.cell_engine.proofs.bag.take_itself.Goals as goal

pub returns-clause-cell : goal.returns-clause-cell
returns-clause-cell c = λ g st sight.
    itself_taken g c.args.i c.args.t c.after-at.result c.args.value c.plan.inside.settings.kind c.args.table.now c.take.new.table (ap (λ (l : Layout). l.settings.kind) c.plan.view_is ∙ ap (λ (d : CellSettings). d.kind) st.settings)
    (c.after-at.ensures ∙ ap (λ d. c.args.t + d) (ap (λ (l : Layout). l.settings.default_delay) c.plan.view_is ∙ ap (λ (d : CellSettings). d.default_delay) st.settings))
    (c.in-Ok.ensures.cell ((0, c.args.value) ∷ []) (alone c.args.value))
