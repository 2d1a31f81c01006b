use Rattle.std.proofs.Common.{false, [], ◌∷◌, sym, ◌∙◌, ap}
use Rattle.std.proofs.lemmas.Result.{on_ok_weaker}
use Rattle.served_tree.specs.Service.{transition}
use Rattle.tree_mail.specs.Notes.{notes_of, given_noted}
use Rattle.tree_mail.specs.Puts.{component_gives, component_gave}
use Rattle.tree_messages.proofs.Becoming.{at-root, at-its-parent}
use Rattle.tree_mail.proofs.Putting.{put-same}
use Rattle.tree_messages.proofs.collect.take_output.Goals as goal

pub returns-in-None-clause-puts : goal.returns-in-None-clause-puts
returns-in-None-clause-puts c =
    let turned = transition 0 c.args.inputs.now false ∷ [] in
    let notes = given_noted c.args.from c.args.bag.items (notes_of c.args.mail.now.kept.items) in
    on_ok_weaker c.turn.result
    (λ h. put-same c.args.mail.now.waiting c.turn.new.mail.waiting _ _
    (sym (at-root c.args.entries.now c.args.from c.parent_in-parent.result c.parent_in-parent.ensures turned (λ n e. component_gives n e notes) c.in-None.ensures.lookup.3)) h)
    c.turn.ensures.puts

pub returns-in-None-clause-notes : goal.returns-in-None-clause-notes
returns-in-None-clause-notes c =
    let notes = given_noted c.args.from c.args.bag.items (notes_of c.args.mail.now.kept.items) in
    on_ok_weaker c.turn.result
    (λ _. ap (λ k. notes_of k.items) c.turn.ensures.kept ∙ c.has_given.ensures
    ∙ sym (at-root c.args.entries.now c.args.from c.parent_in-parent.result c.parent_in-parent.ensures notes (λ n e. component_gave n e notes) c.in-None.ensures.lookup.3))
    c.turn.ensures.puts

pub returns-in-Some-clause-puts : goal.returns-in-Some-clause-puts
returns-in-Some-clause-puts c =
    let p = c.parent_in-parent.result in
    let e = c.in-Some.entry.now in
    let there = c.in-Some.ensures.lookup in
    let turned = transition 0 c.args.inputs.now false ∷ [] in
    let notes = given_noted c.args.from c.args.bag.items (notes_of c.args.mail.now.kept.items) in
    on_ok_weaker c.count_given.result
    (λ h. put-same c.args.mail.now.waiting c.count_given.new.mail.waiting _ _
    (ap (component_gives p e) c.has_given.ensures
    ∙ sym (at-its-parent c.args.entries.now c.args.from p c.parent_in-parent.ensures turned (λ n x. component_gives n x notes) e there.3.0 there.1)) h)
    c.count_given.ensures.puts

pub returns-in-Some-clause-notes : goal.returns-in-Some-clause-notes
returns-in-Some-clause-notes c =
    let p = c.parent_in-parent.result in
    let e = c.in-Some.entry.now in
    let there = c.in-Some.ensures.lookup in
    let notes = given_noted c.args.from c.args.bag.items (notes_of c.args.mail.now.kept.items) in
    on_ok_weaker c.count_given.result
    (λ h. h ∙ ap (component_gave p e) c.has_given.ensures
    ∙ sym (at-its-parent c.args.entries.now c.args.from p c.parent_in-parent.ensures notes (λ n x. component_gave n x notes) e there.3.0 there.1))
    c.count_given.ensures.notes
