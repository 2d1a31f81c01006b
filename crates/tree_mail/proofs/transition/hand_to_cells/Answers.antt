use Rattle.std.proofs.Common.{◌≡◌, ◌+◌, [], ◌∷◌, ◌++◌, ℕ, List, map, get_or, refl, ◌∙◌, ap, arith}
use Rattle.std.specs.List.{enumerate_from}
use Rattle.std.proofs.lemmas.Grind.{common_steps}
use Rattle.served_tree.specs.Service.{transition}
use Rattle.tree_mail.specs.Notes.{notes_of}
use Rattle.tree_mail.specs.Mail.{messages_in}
use Rattle.tree_mail.specs.Puts.{ins_read, woken_in, handed_to}
use Rattle.tree_mail.proofs.Rest.{further, all-made}
use Rattle.tree_mail.proofs.transition.hand_to_cells.Goals as goal

pub loop-i-preserved : goal.loop-i-preserved
loop-i-preserved c =
    let notes = notes_of c.args.mail.now.kept.items in
    let es = c.args.entries.now in
    let ns = c.args.children.now in
    let bag = c.args.bag.now in
    let space = c.args.space.now in
    let i = c.loop-i.i in
    let n = get_or ns i 0 in
    let number : c.in_ok-cell.cell ≡ i = grind (arith, common_steps) in
    let same = ap (λ k. notes_of k.items) c.loop-i.invariant.kept in
    let hand = handed_to es notes ns space bag in
    record {
      puts = further (λ (rest : List ℕ). map hand (enumerate_from i rest)) (λ (rest : List ℕ). map hand (enumerate_from (i + 1) rest)) ns i 0 n c.loop-i-test.true refl
          (hand (i, n) ∷ []) refl
          (messages_in c.loop-i.mail.waiting) (messages_in c.hand_to.new.mail.waiting) _
          (c.in_ok-hand_to.ensures.puts
          ∙ ap (λ w. messages_in c.loop-i.mail.waiting ++ transition n (ins_read es (notes_of c.loop-i.mail.kept.items) bag n) w ∷ []) (c.is_woken-woken.ensures ∙ ap (λ ks. woken_in (notes_of ks) ns space.grid space.offsets.items c.in_ok-cell.cell) c.deref.ensures.value ∙ ap (λ cell. woken_in (notes_of c.loop-i.mail.kept.items) ns space.grid space.offsets.items cell) number)
          ∙ ap (λ ks. messages_in c.loop-i.mail.waiting ++ transition n (ins_read es ks bag n) (woken_in ks ns space.grid space.offsets.items i) ∷ []) same)
          c.loop-i.invariant.puts;
      kept = c.hand_to.ensures.kept ∙ c.loop-i.invariant.kept;
    }

pub returns-clause-puts : goal.returns-clause-puts
returns-clause-puts c =
    let notes = notes_of c.args.mail.now.kept.items in
    let hand = handed_to c.args.entries.now notes c.args.children.now c.args.space.now c.args.bag.now in
    let i = c.loop-i.i in
    all-made (λ (rest : List ℕ). map hand (enumerate_from i rest)) c.args.children.now i c.loop-i-test.false refl (messages_in c.loop-i.mail.waiting) _ c.loop-i.invariant.puts
