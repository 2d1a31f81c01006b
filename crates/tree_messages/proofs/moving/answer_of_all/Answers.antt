use Rattle.tree_mail.specs.Notes.{notes_of, all_heard, answer_in}
use Rattle.std.proofs.Common.{get_or, refl, ap, ◌∙◌}
use Rattle.served_tree.specs.Parts.{answer_of_both}
use Rattle.tree_mail.proofs.Rest.{answers-further, answers-all}
use Rattle.tree_messages.proofs.moving.answer_of_all.Goals as goal

pub loop-child-preserved : goal.loop-child-preserved
loop-child-preserved c =
    let kept = all_heard (notes_of c.args.kept.now) in
    let n = get_or c.args.children.now c.loop-child.child-index 0 in
    answers-further kept c.args.children.now c.loop-child.child-index 0 n (answer_in c.loop-child.all) (answer_in c.join-all.result) _ c.loop-child-test.true refl
    (c.join-all.ensures ∙ ap (answer_of_both (answer_in c.loop-child.all)) c.answer_by.ensures) c.loop-child.invariant

pub returns : goal.returns
returns c =
    let kept = all_heard (notes_of c.args.kept.now) in
    answers-all kept c.args.children.now c.loop-child.child-index (answer_in c.loop-child.all) _ c.loop-child-test.false c.loop-child.invariant
