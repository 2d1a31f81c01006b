use Rattle.std.proofs.Common.{◌++◌, ◌∙◌, ℕ, Option, ap, append_assoc, codes, sym}
use Rattle.quantity.specs.Bytes.{Bytes}
use Rattle.quantity.specs.Times.{time_text}
use Rattle.text_forms.specs.LogLine.{next_text, state_text}
use Rattle.text_forms.specs.Begun.{head_text}
use Rattle.text_forms.specs.RecordTexts.{s_text}
use Rattle.text_forms.proofs.Appended.{kept_more, kept_on, kept_same, line_more, moved_line_told, on_ok}
use Rattle.text_forms.proofs.Starts.{two_appended}
use Rattle.text_forms.proofs.moved.put_moved_line.Goals as goal

pub returns-in-None-clause-ok : goal.returns-in-None-clause-ok
unfolding s_text
returns-in-None-clause-ok c =
    on_ok c.put_state.result _ _ (λ last settings l e.
    let r = c.args.moved.now in
    last settings l e
    ∙ ap (λ (x : Bytes). c.args.into.now.items ++ x)
    (moved_line_told c.args.start.now.letter r.time l r.value r.next (codes " / ...\n") c.requires.letter
    (ap (λ (n : Option ℕ). codes " / " ++ (next_text n ++ codes "\n")) (sym (sym c.get.ensures ∙ c.in-None.is))))) c.put_state.ensures.ok

pub returns-in_ok-text-in-Some-clause-ok : goal.returns-in_ok-text-in-Some-clause-ok
unfolding s_text
returns-in_ok-text-in-Some-clause-ok c =
    on_ok c.put.result _ _ (λ last settings l e.
    let r = c.args.moved.now in
    let old = c.args.into.now.items in
    let state = state_text r.value in
    let head = head_text c.args.start.now.letter r.time l in
    let more = time_text c.in-Some.next ++ codes "\n" in
    line_more old c.put_state-in-Some.new.into.items c.put.new.into.items head (state ++ codes " / ") more
    (c.in_ok-put_state-in-Some.ensures.ok settings l e)
    (two_appended c.put_state-in-Some.new.into.items c.text.new.into.items c.put.new.into.items (time_text c.in-Some.next) (codes "\n")
    c.in_ok-text-in-Some.ensures.ok last)
    ∙ ap (λ (x : Bytes). old ++ (head ++ x)) (append_assoc state (codes " / ") more)
    ∙ ap (λ (x : Bytes). old ++ x)
    (moved_line_told c.args.start.now.letter r.time l r.value r.next (codes " / " ++ more) c.requires.letter
    (ap (λ (n : Option ℕ). codes " / " ++ (next_text n ++ codes "\n")) (sym (sym c.get.ensures ∙ c.in-Some.is))))) c.put.ensures.ok

pub returns-in_err-text-in-Some-clause-kept : goal.returns-in_err-text-in-Some-clause-kept
returns-in_err-text-in-Some-clause-kept c =
    kept_same c.args.into.now.items c.put_state-in-Some.new.into.items c.text.new.into.items
    c.in_ok-put_state-in-Some.ensures.kept c.in_err-text-in-Some.ensures.err

pub returns-in_ok-text-in-Some-clause-kept : goal.returns-in_ok-text-in-Some-clause-kept
returns-in_ok-text-in-Some-clause-kept c =
    kept_on c.args.into.now.items c.text.new.into.items c.put.new.into.items
    (kept_more c.args.into.now.items c.put_state-in-Some.new.into.items c.text.new.into.items _
    c.in_ok-put_state-in-Some.ensures.kept c.in_ok-text-in-Some.ensures.ok) c.put.ensures.kept
