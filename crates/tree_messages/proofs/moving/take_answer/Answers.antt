use Rattle.std.proofs.Common.{Some, ◌≤◌, ◌<◌, ℕ, List, length, subst, [], refl, sym, ◌∙◌, ap}
use Rattle.std.proofs.lemmas.Result.{on_ok_weaker}
use Rattle.tree_mail.specs.Notes.{Note, left_at, notes_of, answer_in, answer_noted, with_one_less}
use Rattle.tree_mail.specs.Puts.{component_answers}
use Rattle.tree_messages.proofs.Becoming.{at-root, at-its-parent}
use Rattle.tree_mail.proofs.Putting.{left-stays, put-none, put-same}
use Rattle.tree_messages.proofs.moving.take_answer.Goals as goal

pub count_answered-requires : goal.count_answered-requires
count_answered-requires c =
    let es = c.args.entries.now in
    let notes = notes_of c.args.mail.now.kept.items in
    let p = c.parent_in-parent.result in
    let waits : 1 ≤ left_at notes p =
    subst (λ (n : ℕ). n < length es → 1 ≤ left_at notes n) (sym c.parent_in-parent.ensures) c.requires.waits c.in-Some.ensures.lookup.3.0 in
    let same = left-stays notes c.args.from (λ k. record k { answered = Some (answer_in c.args.answer) }) (λ k. refl) p in
    subst (λ (ns : List Note). 1 ≤ left_at ns p) (sym c.has_answered.ensures) (subst (λ (n : ℕ). 1 ≤ n) (sym same) waits)

pub returns-in-None-clause-puts : goal.returns-in-None-clause-puts
returns-in-None-clause-puts c =
    let W = c.args.mail.now.waiting in
    let notes = answer_noted c.args.from (answer_in c.args.answer) (notes_of c.args.mail.now.kept.items) in
    put-same W W [] _ (sym (at-root c.args.entries.now c.args.from c.parent_in-parent.result c.parent_in-parent.ensures [] (λ n e. component_answers n e.children.items notes) c.in-None.ensures.lookup.3)) (put-none W W refl)

pub returns-in-None-clause-notes : goal.returns-in-None-clause-notes
returns-in-None-clause-notes c =
    let notes = answer_noted c.args.from (answer_in c.args.answer) (notes_of c.args.mail.now.kept.items) in
    c.has_answered.ensures
    ∙ sym (at-root c.args.entries.now c.args.from c.parent_in-parent.result c.parent_in-parent.ensures notes (λ n e. with_one_less n notes) c.in-None.ensures.lookup.3)

pub returns-in-Some-clause-puts : goal.returns-in-Some-clause-puts
returns-in-Some-clause-puts c =
    let W = c.args.mail.now.waiting in
    let p = c.parent_in-parent.result in
    let e = c.in-Some.entry.now in
    let there = c.in-Some.ensures.lookup in
    let notes = answer_noted c.args.from (answer_in c.args.answer) (notes_of c.args.mail.now.kept.items) in
    on_ok_weaker c.count_answered.result
    (λ h. put-same W c.count_answered.new.mail.waiting _ _
    (ap (λ ns. component_answers p ns (notes_of c.has_answered.new.kept.items)) c.deref.ensures.value
    ∙ ap (component_answers p e.children.items) c.has_answered.ensures
    ∙ sym (at-its-parent c.args.entries.now c.args.from p c.parent_in-parent.ensures [] (λ n x. component_answers n x.children.items notes) e there.3.0 there.1)) h)
    c.count_answered.ensures.puts

pub returns-in-Some-clause-notes : goal.returns-in-Some-clause-notes
returns-in-Some-clause-notes c =
    let p = c.parent_in-parent.result in
    let e = c.in-Some.entry.now in
    let there = c.in-Some.ensures.lookup in
    let notes = answer_noted c.args.from (answer_in c.args.answer) (notes_of c.args.mail.now.kept.items) in
    on_ok_weaker c.count_answered.result
    (λ h. h ∙ ap (with_one_less p) c.has_answered.ensures
    ∙ sym (at-its-parent c.args.entries.now c.args.from p c.parent_in-parent.ensures notes (λ n x. with_one_less n notes) e there.3.0 there.1))
    c.count_answered.ensures.notes
