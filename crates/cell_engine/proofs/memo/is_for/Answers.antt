use Rattle.std.proofs.Common.{sym, ◌∙◌}
use Rattle.std.proofs.lemmas.Bool.{and_parts}
use Rattle.cell_engine.proofs.Knowing.{same_tally}
use Rattle.cell_engine.proofs.memo.is_for.Goals as goal

pub returns : goal.returns
returns c = λ so.
    let parts = and_parts c.is_same-same.result c.are_same.result so in (
      c.is_same-same.ensures.same parts.0,
      same_tally c.args.kept.now.tally c.args.tally (sym c.are_same.ensures ∙ parts.1),
    )
