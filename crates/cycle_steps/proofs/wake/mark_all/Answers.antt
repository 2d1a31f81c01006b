use Rattle.std.proofs.Common.{◌∙◌, ◌<◌, true, eqb, length, length-set, ap, refl, arith}
use Rattle.std.specs.Prelude.{slice_index_or}
use Rattle.leaf_set.specs.Members.{is_in}
use Rattle.quantity.specs.Bytes.{has_number}
use Rattle.cycle_steps.proofs.OneMore.{has-more, had-all, in-marked}
use Rattle.cycle_steps.proofs.wake.mark_all.Goals as goal

pub loop-leaf-init : goal.loop-leaf-init
loop-leaf-init g c = record { long = refl; marked = λ k. refl }

pub loop-leaf-preserved : goal.loop-leaf-preserved
loop-leaf-preserved g c =
    let ls = c.args.leaves.now in
    let i = c.loop-leaf.leaf-index in
    let l = slice_index_or ls i 0 in
    let old = g.S.LeafSet.members c.loop-leaf.set in
    let new = g.S.LeafSet.members c.insert.new.self in
    let long = c.loop-leaf.invariant.long in
    let there : l < length (g.S.LeafSet.members c.args.set.now) = c.requires.within i 0 c.loop-leaf-test.true in
    let within : l < length old = omega (arith, there, long) in
    record {
      long = ap length c.insert.ensures ∙ length-set old l true ∙ long;
      marked = λ k. has-more (λ ls. has_number ls k) (λ l. eqb l k) (λ l ls. refl) ls i l 0 _ (is_in old k) (is_in new k) c.loop-leaf-test.true refl (c.loop-leaf.invariant.marked k)
          (ap (λ ms. is_in ms k) c.insert.ensures ∙ in-marked old l k within);
    }

pub returns-clause-marked : goal.returns-clause-marked
returns-clause-marked g c = λ k.
    had-all (λ ls. has_number ls k) refl c.args.leaves.now c.loop-leaf.leaf-index _ (is_in (g.S.LeafSet.members c.loop-leaf.set) k) c.loop-leaf-test.false (c.loop-leaf.invariant.marked k)
