use Rattle.std.proofs.Common.{ap, sym}
use Rattle.text_forms.specs.RecordTexts.{all_if}
use Rattle.text_forms.proofs.text.chosen.Goals as goal

pub returns-then-is_chosen : goal.returns-then-is_chosen
returns-then-is_chosen g c = sym (ap (λ b. all_if b c.args.records.now) c.if-is_chosen.true)

pub returns-else-is_chosen : goal.returns-else-is_chosen
returns-else-is_chosen g c = sym (ap (λ b. all_if b c.args.records.now) c.if-is_chosen.false)
