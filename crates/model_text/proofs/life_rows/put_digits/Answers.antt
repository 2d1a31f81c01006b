use Rattle.std.proofs.lemmas.List.{append_assoc}
use Rattle.model_text.proofs.LifeText.{kept_on, one_more}
use Rattle.model_text.proofs.life_rows.put_digits.Goals as goal

pub loop-column-preserved : goal.loop-column-preserved
loop-column-preserved c = record {
  appended = rw (c.in_ok-put.ensures.ok, c.loop-column.invariant.appended, c.digit.ensures, one_more) (simp append_assoc);
  kept = kept_on c.args.into.now.items c.loop-column.into.items c.put.new.into.items c.loop-column.invariant.kept c.in_ok-put.ensures.kept;
}
