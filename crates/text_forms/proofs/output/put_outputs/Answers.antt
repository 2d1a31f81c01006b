use Rattle.text_forms.proofs.Appended.{keeps_itself, kept_on, none_yet, texts_all, texts_more}
use Rattle.text_forms.specs.Lines.{out_line}
use Rattle.text_forms.specs.declared.records.OutRecord.{OutRecord}
use Rattle.text_forms.proofs.output.put_outputs.Goals as goal

pub loop-output-init : goal.loop-output-init
loop-output-init c = record {
  appended = none_yet c.args.into.now.items;
  kept = keeps_itself c.args.into.now.items;
}

pub loop-output-preserved : goal.loop-output-preserved
loop-output-preserved c = record {
  appended =
      texts_more
      (λ (r : OutRecord). out_line c.args.names.now r.time (record { port = r.port; value = r.value }))
      c.args.into.now.items c.loop-output.into.items c.put_output.new.into.items c.args.records.now
      c.loop-output.output-index c.output-item.result c.loop-output-test.true c.output-item.is
      c.loop-output.invariant.appended c.in_ok-put_output.ensures.ok;
  kept =
      kept_on c.args.into.now.items c.loop-output.into.items c.put_output.new.into.items
      c.loop-output.invariant.kept c.put_output.ensures.kept;
}

pub returns-in_err-put_output-clause-kept : goal.returns-in_err-put_output-clause-kept
returns-in_err-put_output-clause-kept c =
    kept_on c.args.into.now.items c.loop-output.into.items c.put_output.new.into.items
    c.loop-output.invariant.kept c.put_output.ensures.kept

pub returns-clause-ok : goal.returns-clause-ok
returns-clause-ok c =
    texts_all
    (λ (r : OutRecord). out_line c.args.names.now r.time (record { port = r.port; value = r.value }))
    c.args.into.now.items c.loop-output.into.items c.args.records.now c.loop-output.output-index
    c.loop-output-test.false c.loop-output.invariant.appended
