use Rattle.std.specs.Prelude.{codes}
use Rattle.rule_tree.specs.Phrases.{counts}
use Rattle.rule_words.proofs.Absent.{absent, other}
use Rattle.rule_words.proofs.table.count_in.Goals as goal

pub returns-else-eq-3 : goal.returns-else-eq-3
returns-else-eq-3 c =
    let w = c.args.word.now in
    absent counts w (
      other w c.as_slice.result.now (codes "truecount") c.as_slice.ensures c.if-eq.ensures,
      (
        other w c.as_slice-else-eq.result.now (codes "falsecount") c.as_slice-else-eq.ensures c.if-eq-2.ensures,
        (other w c.as_slice-else-eq-2.result.now (codes "undefcount") c.as_slice-else-eq-2.ensures c.if-eq-3.ensures, tt),
      ),
    )
