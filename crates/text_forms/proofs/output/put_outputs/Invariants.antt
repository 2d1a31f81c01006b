use Rattle.std.proofs.Common.{◌≡◌, ◌++◌, length, take}
use Rattle.text_forms.specs.RecordTexts.{out_texts}
use Rattle.text_forms.proofs.output.put_outputs.Given as goal

abbrev pub invariant-loop-output : goal.invariant-loop-output
invariant-loop-output l = record {
  appended : l.into.items ≡ l.fn.into.items ++ out_texts l.names (take l.output-index l.records);
  kept : take (length l.fn.into.items) l.into.items ≡ l.fn.into.items;
}
