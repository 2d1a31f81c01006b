use Rattle.std.proofs.Common.{◌<◌, ◌||◌, ◌∙◌, ℕ, List, length, ap, refl, subst, sym}
use Rattle.std.specs.List.{All}
use Rattle.leaf_set.specs.Members.{is_in}
use Rattle.quantity.specs.Bytes.{has_number}
use Rattle.cycle_steps.specs.Watching.{watches_any}
use Rattle.cycle_steps.proofs.Marked.{woken-more, joined-same}
use Rattle.cycle_steps.proofs.OneMore.{had-all}
use Rattle.cycle_steps.proofs.wake.wake.Goals as goal

pub loop-leaf-preserved : goal.loop-leaf-preserved
loop-leaf-preserved g c =
    let watches = g.W.Watched.watches c.args.watched.now in
    let givers = c.args.givers.now in
    let at = g.S.LeafSet.members in
    record {
      long = c.mark_all.ensures.long ∙ c.loop-leaf.invariant.long;
      woken = λ k. woken-more watches givers c.loop-leaf.leaf-index (is_in (at c.args.woken.now) k || watches_any watches givers k) (at c.loop-leaf.woken) (at c.mark_all.new.set) c.watchers_of.new.into.items k c.loop-leaf-test.true (c.loop-leaf.invariant.woken k) (c.in_ok-watchers_of.ensures.watch k)
          (c.mark_all.ensures.marked k ∙ ap (λ ls. is_in (at c.loop-leaf.woken) k || has_number ls k) c.deref.ensures.value);
    }

pub mark_all-requires : goal.mark_all-requires
mark_all-requires g c = record {
  within =
      subst (λ (ls : List ℕ). All (λ l. l < length (g.S.LeafSet.members c.loop-leaf.woken)) ls) (sym c.deref.ensures.value)
      (subst (λ (n : ℕ). All (λ l. l < n) c.watchers_of.new.into.items) (sym (c.loop-leaf.invariant.long ∙ c.requires.woken)) c.in_ok-watchers_of.ensures.within);
}

pub returns-clause-woken : goal.returns-clause-woken
returns-clause-woken g c = λ k.
    had-all (λ ls. watches_any (g.W.Watched.watches c.args.watched.now) ls k) refl c.args.givers.now c.loop-leaf.leaf-index _ (is_in (g.S.LeafSet.members c.loop-leaf.woken) k) c.loop-leaf-test.false (c.loop-leaf.invariant.woken k)

pub join-requires : goal.join-requires
join-requires g c = sym (ap length c.requires.same ∙ sym c.loop-leaf.invariant.long)

pub returns-clause-same : goal.returns-clause-same
returns-clause-same g c =
    let at = g.S.LeafSet.members in
    joined-same (at c.args.touched.now) (at c.args.woken.now) (at c.loop-leaf.woken) (at c.join.new.self) (watches_any (g.W.Watched.watches c.args.watched.now) c.args.givers.now)
    c.requires.same c.loop-leaf.invariant.long (returns-clause-woken g c) c.join.ensures
