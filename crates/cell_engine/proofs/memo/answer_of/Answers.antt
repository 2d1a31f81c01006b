use Rattle.std.proofs.Common.{subst}
use Rattle.std.specs.Prelude.{IfSome}
use Rattle.quantity.specs.declared.value.Value.{Value}
use Rattle.rule_eval.specs.declared.tally.Tally.{Tally}
use Rattle.cell_engine.specs.Known.{AlwaysGive}
use Rattle.cell_engine.proofs.Knowing.{as_made}
use Rattle.cell_engine.proofs.memo.answer_of.Goals as goal

pub returns-then-is_for : goal.returns-then-is_for
returns-then-is_for c = λ n rules answer.
    let k = c.args.kept.now in
    let v = c.args.own.now in
    let t = c.args.tally in
    let same = c.is_for.ensures c.if-is_for.true in
    as_made k.made c.made_of.result (AlwaysGive n rules v t) c.made_of.ensures
    (subst (λ (w : Value). IfSome k.made (AlwaysGive n rules w t)) same.0 (subst (λ (u : Tally). IfSome k.made (AlwaysGive n rules k.own u)) same.1 answer))
