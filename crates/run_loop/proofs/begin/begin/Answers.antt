use Rattle.std.proofs.Common.{◌≡◌, refl, subst}
use Rattle.model_leaves.specs.declared.table.Model.{Model}
use Rattle.model_leaves.specs.Models.{tree_of}
use Rattle.asked_words.specs.Shown.{source_of}
use Rattle.run_leaves.specs.Seated.{settings_at}
use Rattle.run_loop.specs.Begins.{counts_at_start}
use Rattle.run_loop.proofs.begin.begin.Goals as goal

pub returns-clause-counted : goal.returns-clause-counted
returns-clause-counted g c =
    let s = g.C.Cycles.standing c.args.run.now in
    record {
      counted = subst (λ (m : Model). c.in_ok-counted.counted ≡ counts_at_start (tree_of m (settings_at s.settings)) (source_of c.args.asked.now.source)) c.model.ensures (c.in_ok-counted.ensures (settings_at s.settings));
      cycles = refl;
    }
