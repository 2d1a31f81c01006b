use Rattle.text_forms.proofs.Cycles.{put_out}
use Rattle.text_forms.proofs.text.out_bytes.Goals as goal

pub returns-else-is_err-clause-ok : goal.returns-else-is_err-clause-ok
returns-else-is_err-clause-ok c = put_out c.put_outputs_of-done.result c.args.model.now c.args.records.now c.args.into.now.items c.put_outputs_of-done.new.into.items c.put_outputs_of-done.ensures.ok
