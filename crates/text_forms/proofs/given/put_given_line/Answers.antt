use Rattle.text_forms.specs.Begun.{head_text}
use Rattle.text_forms.specs.RecordTexts.{y_text}
use Rattle.text_forms.specs.Lines.{out_port_name}
use Rattle.text_forms.proofs.Appended.{given_joined, kept_on, no_tail, on_ok}
use Rattle.text_forms.proofs.given.put_given_line.Goals as goal

pub returns-clause-ok : goal.returns-clause-ok
unfolding y_text
returns-clause-ok c =
    on_ok c.put_value.result _ _ (λ last settings l e.
    given_joined c.args.into.now.items c.args.start.now.letter
    c.args.given.now.time l
    (out_port_name l c.args.given.now.port.0) c.args.given.now.value c.put_head.new.into.items
    c.put_out_port.new.into.items c.put_value.new.into.items
    (no_tail c.args.into.now.items c.put_head.new.into.items (head_text c.args.start.now.letter c.args.given.now.time l) c.none.result c.none.ensures
    (c.in_ok-put_head.ensures.ok settings l e))
    (c.in_ok-put_out_port.ensures.ok settings l e) (rw c.get.ensures at last)) c.put_value.ensures.ok

pub returns-in_err-put_out_port-clause-kept : goal.returns-in_err-put_out_port-clause-kept
returns-in_err-put_out_port-clause-kept c =
    kept_on c.args.into.now.items c.put_head.new.into.items c.put_out_port.new.into.items
    c.put_head.ensures.kept c.put_out_port.ensures.kept

pub returns-clause-kept : goal.returns-clause-kept
returns-clause-kept c =
    kept_on c.args.into.now.items c.put_out_port.new.into.items c.put_value.new.into.items
    (kept_on c.args.into.now.items c.put_head.new.into.items c.put_out_port.new.into.items
    c.put_head.ensures.kept c.put_out_port.ensures.kept) c.put_value.ensures.kept
