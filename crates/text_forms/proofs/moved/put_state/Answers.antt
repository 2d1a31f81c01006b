use Rattle.std.proofs.Common.{◌++◌, ◌∙◌, Option, ap, sym}
use Rattle.quantity.specs.Bytes.{Bytes}
use Rattle.quantity.specs.declared.value.Value.{Value}
use Rattle.quantity.specs.ValueTexts.{text5}
use Rattle.text_forms.specs.LogLine.{state_text}
use Rattle.text_forms.specs.Begun.{head_text}
use Rattle.text_forms.proofs.Appended.{kept_more, kept_on, no_tail, on_ok}
use Rattle.text_forms.proofs.Starts.{box_line, digit_is, two_appended}
use Rattle.text_forms.proofs.moved.put_state.Goals as goal

pub returns-in-Some-one_digit-clause-ok : goal.returns-in-Some-one_digit-clause-ok
returns-in-Some-one_digit-clause-ok c =
    on_ok c.put_head-in-Some-one_digit.result _ _ (λ last settings l e.
    let digit = digit_is c.in-Some.value c.in-Some-one_digit.digit c.in-Some-one_digit.ensures.0 c.in-Some-one_digit.ensures.1 in
    last settings l e
    ∙ ap (λ (x : Bytes). c.args.into.now.items ++ (head_text c.args.start.now.letter c.args.moved.now.time l ++ x))
    (c.of-tail-in-Some-one_digit.ensures ∙ ap (λ (x : Bytes). x ++ c.args.behind.now) digit
    ∙ ap (λ (o : Option Value). state_text o ++ c.args.behind.now) (sym (sym c.get.ensures ∙ c.in-Some.is)))) c.put_head-in-Some-one_digit.ensures.ok

pub returns-in_ok-text5-in-None-clause-ok : goal.returns-in_ok-text5-in-None-clause-ok
returns-in_ok-text5-in-None-clause-ok c =
    on_ok c.put.result _ _ (λ last settings l e.
    let old = c.args.into.now.items in
    let head = head_text c.args.start.now.letter c.args.moved.now.time l in
    let first = c.put_head-in-None.new.into.items in
    box_line old first c.put.new.into.items head (text5 c.in-Some.value ++ c.args.behind.now)
    (no_tail old first head c.none.result c.none.ensures (c.in_ok-put_head-in-None.ensures.ok settings l e))
    (two_appended first c.text5.new.into.items c.put.new.into.items (text5 c.in-Some.value) c.args.behind.now
    c.in_ok-text5-in-None.ensures.ok last)
    ∙ ap (λ (o : Option Value). old ++ (head ++ (state_text o ++ c.args.behind.now))) (sym (sym c.get.ensures ∙ c.in-Some.is))) c.put.ensures.ok

pub returns-in_ok-text5-in-None-clause-kept : goal.returns-in_ok-text5-in-None-clause-kept
returns-in_ok-text5-in-None-clause-kept c =
    kept_on c.args.into.now.items c.text5.new.into.items c.put.new.into.items
    (kept_more c.args.into.now.items c.put_head-in-None.new.into.items c.text5.new.into.items _
    c.in_ok-put_head-in-None.ensures.kept c.in_ok-text5-in-None.ensures.ok) c.put.ensures.kept
