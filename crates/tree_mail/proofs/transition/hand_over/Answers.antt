use Rattle.std.proofs.Common.{[], ◌∷◌, ◌++◌, false, get_or, refl, ◌∙◌, ap}
use Rattle.served_tree.specs.Service.{transition}
use Rattle.tree_mail.specs.Notes.{notes_of}
use Rattle.tree_mail.specs.Mail.{messages_in}
use Rattle.tree_mail.specs.Puts.{ins_read, handed_on}
use Rattle.tree_mail.proofs.Rest.{further, all-made}
use Rattle.tree_mail.proofs.transition.hand_over.Goals as goal

pub loop-child-preserved : goal.loop-child-preserved
loop-child-preserved c =
    let notes = notes_of c.args.mail.now.kept.items in
    let es = c.args.entries.now in
    let bag = c.args.bag.now in
    let n = get_or c.args.children.now c.loop-child.child-index 0 in
    let same = ap (λ k. notes_of k.items) c.loop-child.invariant.kept in
    record {
      puts = further (λ ns. handed_on es notes ns bag) (λ ns. handed_on es notes ns bag) c.args.children.now c.loop-child.child-index 0 n c.loop-child-test.true refl
          (transition n (ins_read es notes bag n) false ∷ []) refl
          (messages_in c.loop-child.mail.waiting) (messages_in c.hand_to.new.mail.waiting) _
          (c.in_ok-hand_to.ensures.puts ∙ ap (λ ks. messages_in c.loop-child.mail.waiting ++ transition n (ins_read es ks bag n) false ∷ []) same) c.loop-child.invariant.puts;
      kept = c.hand_to.ensures.kept ∙ c.loop-child.invariant.kept;
    }

pub returns-clause-puts : goal.returns-clause-puts
returns-clause-puts c =
    let notes = notes_of c.args.mail.now.kept.items in
    all-made (λ ns. handed_on c.args.entries.now notes ns c.args.bag.now) c.args.children.now c.loop-child.child-index c.loop-child-test.false refl (messages_in c.loop-child.mail.waiting) _ c.loop-child.invariant.puts
