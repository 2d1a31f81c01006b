use Rattle.std.proofs.Common.{codes}
use Rattle.quantity.specs.ValueTexts.{text5}
use Rattle.text_forms.proofs.Appended.{append_keeps, kept_on, on_ok}
use Rattle.text_forms.proofs.Starts.{two_appended}
use Rattle.text_forms.proofs.pieces.put_long_value.Goals as goal

pub returns-clause-ok : goal.returns-clause-ok
returns-clause-ok c =
    on_ok c.put.result _ _ (λ last.
    two_appended c.args.into.now.items c.text5.new.into.items c.put.new.into.items
    (text5 c.args.value) (codes "\n") c.in_ok-text5.ensures.ok
    last) c.put.ensures.ok

pub returns-clause-kept : goal.returns-clause-kept
returns-clause-kept c =
    kept_on c.args.into.now.items c.text5.new.into.items c.put.new.into.items
    (append_keeps c.args.into.now.items c.text5.new.into.items _ c.in_ok-text5.ensures.ok)
    c.put.ensures.kept
