use Rattle.std.proofs.Common.{◌++◌, ◌^◌, true, false, sym, ap, ◌∙◌}
use Rattle.std.specs.Option.{option_map}
use Rattle.quantity.specs.ValueTexts.{signed_in}
use Rattle.text_forms.specs.StateOf.{all_in}
use Rattle.state_lines.specs.LeafLines.{box_line}
use Rattle.state_lines.proofs.Compared.{its_numbers}
use Rattle.state_lines.proofs.compare.numbers_in_line.Goals as goal

pub returns-then-same_bytes : goal.returns-then-same_bytes
returns-then-same_bytes c = λ settings l there.
    its_numbers l c.args.line.now c.deref-2.result.now c.in-Some.numbers.items true
    (ap (all_in (signed_in (10 ^ 17))) (sym c.state_words-words.ensures) ∙ c.in_ok-numbers.ensures
    ∙ ap (option_map (λ v. v.items)) c.in-Some.is)
    (c.deref-2.ensures.value ∙ c.in_ok-put_box.ensures.ok settings l there
    ∙ ap (λ ws. c.clear.new.self.items ++ box_line l ws) c.deref.ensures.value
    ∙ ap (λ x. x ++ box_line l c.in-Some.numbers.items) c.clear.ensures.items)
    (sym c.same_bytes.ensures ∙ c.if-same_bytes.true)

pub returns-else-same_bytes : goal.returns-else-same_bytes
returns-else-same_bytes c = λ settings l there.
    its_numbers l c.args.line.now c.deref-2.result.now c.in-Some.numbers.items false
    (ap (all_in (signed_in (10 ^ 17))) (sym c.state_words-words.ensures) ∙ c.in_ok-numbers.ensures
    ∙ ap (option_map (λ v. v.items)) c.in-Some.is)
    (c.deref-2.ensures.value ∙ c.in_ok-put_box.ensures.ok settings l there
    ∙ ap (λ ws. c.clear.new.self.items ++ box_line l ws) c.deref.ensures.value
    ∙ ap (λ x. x ++ box_line l c.in-Some.numbers.items) c.clear.ensures.items)
    (sym c.same_bytes.ensures ∙ c.if-same_bytes.false)
