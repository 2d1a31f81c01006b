use Rattle.std.proofs.Common.{sym, subst}
use Rattle.cell_engine.specs.declared.memo.Known.{Known}
use Rattle.cell_engine.specs.Known.{IsAnswer}
use Rattle.cell_engine.proofs.memo.answer_at.Goals as goal

pub returns-then-at-known : goal.returns-then-at-known
returns-then-at-known c = λ n rules each.
    let kept = c.index-known-at.result in
    c.answer_of.ensures n rules (subst (λ (k : Known). IsAnswer n rules k) (sym c.index-known-at.is) (each c.args.at kept c.if-at-known.true))
