use Rattle.std.proofs.Common.{List, subst, arith}
use Rattle.rule_tree.specs.Expression.{Rule}
use Rattle.rule_eval.specs.Few.{GoByFew}
use Rattle.cell_engine.proofs.memo.is_alike.Goals as goal

pub codes_at-rules-requires : goal.codes_at-rules-requires
codes_at-rules-requires c = omega (arith, (c.is_single.ensures c.if-is_single.true).1)

pub returns-then-is_single : goal.returns-then-is_single
returns-then-is_single c = λ so.
    let parts = c.is_single.ensures c.if-is_single.true in
    record {
      variables = parts.0;
      single = parts.1;
      own_offset = c.requires;
      few = subst (λ (rs : List Rule). GoByFew c.args.own rs) c.codes_at-rules.ensures (c.go_by_few.ensures so);
    }
