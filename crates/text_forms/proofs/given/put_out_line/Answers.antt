use Rattle.std.proofs.Common.{◌++◌, ◌∙◌, ap, codes, append-nil}
use Rattle.quantity.specs.Bytes.{Bytes}
use Rattle.quantity.specs.ValueTexts.{text5}
use Rattle.text_forms.specs.Begun.{head_text}
use Rattle.text_forms.specs.RecordTexts.{y_text}
use Rattle.text_forms.proofs.Appended.{kept_on, line_more, on_ok, out_told}
use Rattle.text_forms.proofs.Starts.{digit_is}
use Rattle.text_forms.proofs.given.put_out_line.Goals as goal

pub returns-in-Some-clause-ok : goal.returns-in-Some-clause-ok
unfolding y_text
returns-in-Some-clause-ok c =
    on_ok c.put_head.result _ _ (λ last settings l e.
    let v = c.args.given.now.value in
    let digit = digit_is v c.in-Some.digit c.in-Some.ensures.0 (rw c.get-given_value.ensures at c.in-Some.ensures.1) in
    last settings l e
    ∙ ap (λ (x : Bytes). c.args.into.now.items ++ x)
    (out_told c.args.start.now.letter c.args.given.now.time l c.args.given.now.port.0 v c.of-tail.result c.requires.out
    (c.of-tail.ensures ∙ ap (λ (x : Bytes). codes "out / " ++ (x ++ codes "\n")) digit))) c.put_head.ensures.ok

pub returns-in_ok-put_head-in-None-clause-ok : goal.returns-in_ok-put_head-in-None-clause-ok
unfolding y_text
returns-in_ok-put_head-in-None-clause-ok c =
    on_ok c.put_long_value.result _ _ (λ last settings l e.
    let v = c.args.given.now.value in
    let more = text5 v ++ codes "\n" in
    line_more c.args.into.now.items c.put_head-in-None.new.into.items c.put_long_value.new.into.items
    (head_text c.args.start.now.letter c.args.given.now.time l) c.of-tail-in-None.result more
    (c.in_ok-put_head-in-None.ensures.ok settings l e) (rw c.get-given_value.ensures at last)
    ∙ ap (λ (x : Bytes). c.args.into.now.items ++ x)
    (out_told c.args.start.now.letter c.args.given.now.time l c.args.given.now.port.0 v (c.of-tail-in-None.result ++ more) c.requires.out
    (ap (λ (x : Bytes). x ++ more) (c.of-tail-in-None.ensures ∙ append-nil (codes "out / "))))) c.put_long_value.ensures.ok

pub returns-in_ok-put_head-in-None-clause-kept : goal.returns-in_ok-put_head-in-None-clause-kept
returns-in_ok-put_head-in-None-clause-kept c =
    kept_on c.args.into.now.items c.put_head-in-None.new.into.items c.put_long_value.new.into.items
    c.in_ok-put_head-in-None.ensures.kept c.put_long_value.ensures.kept
