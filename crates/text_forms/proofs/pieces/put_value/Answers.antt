use Rattle.text_forms.proofs.Appended.{on_ok}
use Rattle.text_forms.proofs.Starts.{digit_ended}
use Rattle.text_forms.proofs.pieces.put_value.Goals as goal

pub returns-in-Some-clause-ok : goal.returns-in-Some-clause-ok
returns-in-Some-clause-ok c =
    on_ok c.put.result _ _ (λ last.
    digit_ended c.args.into.now.items c.put.new.into.items c.args.value c.in-Some.digit c.in-Some.ensures.0 c.in-Some.ensures.1 last) c.put.ensures.ok
