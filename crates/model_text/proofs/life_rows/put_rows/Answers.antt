use Rattle.std.proofs.lemmas.List.{append_assoc}
use Rattle.model_text.proofs.LifeText.{kept_on, file_join, one_more}
use Rattle.model_text.proofs.life_rows.put_rows.Goals as goal

pub loop-row-preserved : goal.loop-row-preserved
loop-row-preserved c = record {
  appended = rw (c.in_ok-put_row.ensures.ok, c.loop-row.invariant.appended, one_more, file_join) (simp append_assoc);
  kept = kept_on c.args.into.now.items c.loop-row.into.items c.put_row.new.into.items c.loop-row.invariant.kept c.in_ok-put_row.ensures.kept;
}
