use Rattle.std.proofs.Common.{refl}
use Rattle.std.proofs.lemmas.Result.{IfOk-weaker}
use Rattle.rule_eval.specs.declared.tally.Tally.{Tally}
use Rattle.cell_grid.specs.Space.{cell_count}
use Rattle.cell_engine.specs.Tallied.{IsUnseen}
use Rattle.cell_engine.proofs.Shown.{all_unseen}
use Rattle.cell_engine.proofs.tallies.first_tallies.Goals as goal

pub returns : goal.returns
returns c =
    let none : Tally = record { ones = 0; zeros = 0; undefs = c.short-undefs.result } in
    let unseen : IsUnseen c.args.places none = record { ones = refl; zeros = refl; undefs = c.short-undefs.ensures } in
    IfOk-weaker c.all_of.result _ _
    (λ ts is. all_unseen c.args.places (cell_count c.args.plan.now.space) c.kept_for-count.result none ts.items is unseen c.kept_for-count.ensures) c.all_of.ensures
