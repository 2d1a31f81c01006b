use Rattle.std.proofs.Common.{◌∙◌, sym}
use Rattle.cycle_steps.proofs.collect.collect.Goals as goal

pub returns-clause-stands : goal.returns-clause-stands
returns-clause-stands g c = λ tree st. c.in-Ok.ensures.stands tree st

-- all that is so where memory ends
pub returns-in_default : goal.returns-in_default
returns-in_default g c =
    record {
      collected = tt;
      stands = λ tree st. tt;
      kept = c.collect_all.ensures.kept;
      ports = tt;
      most = tt;
      visits = c.collect_all.ensures.visits;
      gave = c.collect_all.ensures.gave;
      y_kept = c.clear.ensures.items ∙ sym c.requires.y;
      n_kept = c.clear-in_default.ensures.items ∙ sym c.requires.n;
      givers_kept = c.clear-in_default-2.ensures.items ∙ sym c.requires.givers;
    }
