use Rattle.std.proofs.Common.{◌≡◌, ◌++◌, subst}
use Rattle.text_forms.specs.declared.letter.Letter.{Letter}
use Rattle.text_forms.specs.declared.letter.Letter.TheVariants.{X}
use Rattle.text_forms.specs.Lines.{in_port_name}
use Rattle.text_forms.specs.Begun.{head_text}
use Rattle.text_forms.specs.RecordTexts.{x_text}
use Rattle.text_forms.proofs.Appended.{given_joined, kept_on, no_tail, on_ok}
use Rattle.text_forms.proofs.given.put_reached_line.Goals as goal

pub returns-clause-ok : goal.returns-clause-ok
unfolding x_text
returns-clause-ok c =
    on_ok c.put_value.result _ _ (λ last settings l e.
    let before = c.args.into.now.items in
    let r = c.args.reached.now in
    let head = c.put_head.new.into.items in
    given_joined before X r.time l
    (in_port_name l r.port.0) r.value head c.put_in_port.new.into.items c.put_value.new.into.items
    (subst (λ (n : Letter). head ≡ before ++ head_text n r.time l) c.requires.letter
    (no_tail before head (head_text c.args.start.now.letter r.time l) c.none.result c.none.ensures (c.in_ok-put_head.ensures.ok settings l e)))
    (c.in_ok-put_in_port.ensures.ok settings l e) (rw c.get.ensures at last)) c.put_value.ensures.ok

pub returns-in_err-put_in_port-clause-kept : goal.returns-in_err-put_in_port-clause-kept
returns-in_err-put_in_port-clause-kept c =
    kept_on c.args.into.now.items c.put_head.new.into.items c.put_in_port.new.into.items
    c.put_head.ensures.kept c.put_in_port.ensures.kept

pub returns-clause-kept : goal.returns-clause-kept
returns-clause-kept c =
    kept_on c.args.into.now.items c.put_in_port.new.into.items c.put_value.new.into.items
    (kept_on c.args.into.now.items c.put_head.new.into.items c.put_in_port.new.into.items
    c.put_head.ensures.kept c.put_in_port.ensures.kept) c.put_value.ensures.kept
