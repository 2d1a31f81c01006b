use Rattle.std.proofs.Common.{length, sym, ap, ◌∙◌, arith}
use Rattle.std.specs.Prelude.{◌==◌}
use Rattle.std.proofs.lemmas.Bool.{and_parts, eqb-true}
use Rattle.std.proofs.lemmas.List.{length-map}
use Rattle.cell_engine.specs.Layout.{Layout}
use Rattle.cell_engine.proofs.memo.is_single.Goals as goal

pub returns : goal.returns
returns c = λ so.
    let inside = c.plan.inside in
    let parts = and_parts (inside.variables == 0) (c.len-one.result == 1) so in (
      sym (ap (λ (l : Layout). l.variables) c.plan.view_is) ∙ eqb-true inside.variables 0 parts.0,
      omega (arith, ap (λ (l : Layout). length l.rule_sets) c.plan.view_is, length-map inside.rule_sets.items (λ rules. rules.items), c.len-one.ensures, inside.rule_sets.ok.0, eqb-true c.len-one.result 1 parts.1),
    )
