use Rattle.std.proofs.Common.{sym, ap, subst, set, ◌∙◌}
use Rattle.rule_eval.specs.Tallies.{CanMove, moved_tally}
use Rattle.rule_eval.specs.declared.tally.Tally.{Tally}
use Rattle.cell_engine.proofs.tallies.move_one.Goals as goal

pub moved-requires : goal.moved-requires
moved-requires c = subst (λ (t : Tally). CanMove t c.args.gone c.args.come) (sym c.tally_at-tally.ensures) c.requires.can

pub returns : goal.returns
returns c =
    ap (λ (t : Tally). set c.args.tallies.now c.args.cell t) (c.moved.ensures ∙ ap (λ (t : Tally). moved_tally t c.args.gone c.args.come) c.tally_at-tally.ensures)
