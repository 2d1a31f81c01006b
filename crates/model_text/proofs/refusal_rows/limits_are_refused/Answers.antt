use Rattle.std.proofs.Common.{refl, ◌∙◌}
use Rattle.model_text.proofs.Limits.{limits_decide, many_inputs, many_outputs}
use Rattle.model_text.proofs.refusal_rows.limits_are_refused.Goals as goal

pub returns : goal.returns
returns c =
    record {
      inputs = λ bytes files classes drawing ss s p h. limits_decide bytes files classes drawing ss p ∙ (rw (many_inputs ss s h) refl);
      outputs = λ bytes files classes drawing ss s p h. limits_decide bytes files classes drawing ss p ∙ (rw (many_outputs ss s h) refl);
      paths = λ bytes files classes drawing ss p few many. limits_decide bytes files classes drawing ss p ∙ (rw (few, many) refl);
    }
