use Rattle.text_forms.proofs.Cycles.{logged}
use Rattle.text_forms.proofs.text.log_bytes.Goals as goal

pub returns-else-is_err-clause-ok : goal.returns-else-is_err-clause-ok
returns-else-is_err-clause-ok c = logged c.put_lines-done.result c.args.model.now c.args.letters.now c.args.records.now c.args.into.now.items c.put_lines-done.new.into.items c.put_lines-done.ensures.ok
