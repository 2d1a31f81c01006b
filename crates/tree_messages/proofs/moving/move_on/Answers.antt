use Rattle.std.proofs.Common.{◌<◌, length, sym, ◌∙◌, ap, subst, arith}
use Rattle.std.proofs.lemmas.Result.{on_ok_weaker}
use Rattle.atomic_face.specs.Classes.{Bag}
use Rattle.tree_mail.specs.declared.message.Message.TheVariants as lent
use Rattle.tree_messages.specs.Due.{due_at}
use Rattle.tree_mail.specs.Notes.{notes_of}
use Rattle.tree_messages.specs.Changes.{Becomes, leaf_answers}
use Rattle.tree_mail.specs.Puts.{done_with}
use Rattle.tree_messages.proofs.Becoming.{due-read, as-many-due}
use Rattle.tree_mail.proofs.Putting.{put-one}
use Rattle.tree_messages.proofs.moving.move_on.Goals as goal

pub index-requires : goal.index-requires
index-requires g c =
    let many = as-many-due c.args.t c.args.brought.woken c.deref.result.now c.args.leaf c.args.leaves.now c.move_if.new.leaves c.args.due.now.items c.move_if.new.due.items c.in_ok-became.became c.in_ok-became.ensures.becomes in
    let inside = c.requires.leaf.inside in
    let counted = c.move_if.new.due.ok.0 in
    omega (arith, many, inside, counted)

pub returns-clause-moves : goal.returns-clause-moves
returns-clause-moves g c =
    let t = c.args.t in
    let l = c.args.leaf in
    let due = c.args.due.now.items in
    let due' = c.move_if.new.due.items in
    let became = c.in_ok-became.became in
    let becomes = subst (λ (bag : Bag). Becomes t c.args.brought.woken bag l c.args.leaves.now c.move_if.new.leaves due due' became) c.deref.ensures.value c.in_ok-became.ensures.becomes in
    let many = as-many-due t c.args.brought.woken c.args.brought.bag.items l c.args.leaves.now c.move_if.new.leaves due due' became becomes in
    let inside = c.requires.leaf.inside in
    let within : l < length due' = omega (arith, many, inside) in
    let is-due = due-read due' l c.index.result.now within c.index.ensures in
    on_ok_weaker c.put.result
    (λ is. record {
      became = became;
      becomes = becomes;
      puts = put-one c.args.mail.now.waiting c.put.new.self.waiting (lent.Done c.args.processor c.leaf_answer-answer.result) (done_with c.args.processor (leaf_answers l became (due_at due' l))) is
          (ap (done_with c.args.processor) (c.leaf_answer-answer.ensures ∙ ap (leaf_answers l became) (sym is-due)));
      notes = ap (λ k. notes_of k.items) c.put.ensures.kept ∙ c.has_moved.ensures;
    })
    c.put.ensures.waiting
