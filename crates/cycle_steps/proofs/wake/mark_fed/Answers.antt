use Rattle.std.proofs.Common.{◌∙◌, ◌<◌, List, true, eqb, length, length-set, ap, refl, sym, subst, arith}
use Rattle.text_forms.specs.declared.records.XRecord.{XRecord}
use Rattle.leaf_set.specs.Members.{is_in}
use Rattle.sparse_cycle.specs.Wake.{is_fed}
use Rattle.cycle_steps.specs.Untimed.{x_records}
use Rattle.cycle_steps.proofs.OneMore.{has-more, had-all, in-marked}
use Rattle.cycle_steps.proofs.wake.mark_fed.Goals as goal

pub loop-r-init : goal.loop-r-init
loop-r-init g c = record { long = refl; marked = λ k. refl }

pub loop-r-preserved : goal.loop-r-preserved
loop-r-preserved g c =
    let fed = c.args.fed.now in
    let i = c.loop-r.r-index in
    let r = c.r-item.result in
    let old = g.S.LeafSet.members c.loop-r.set in
    let new = g.S.LeafSet.members c.insert.new.self in
    let long = c.loop-r.invariant.long in
    let there : r.leaf < length (g.S.LeafSet.members c.args.set.now) =
    subst (λ (r : XRecord). r.leaf < length (g.S.LeafSet.members c.args.set.now)) (sym c.r-item.is) (c.requires.within i r c.loop-r-test.true) in
    let within : r.leaf < length old = omega (arith, there, long) in
    record {
      long = ap length c.insert.ensures ∙ length-set old r.leaf true ∙ long;
      marked = λ k. has-more (λ (rs : List XRecord). is_fed (x_records rs) k) (λ (r : XRecord). eqb r.leaf k) (λ r rs. refl) fed i r r _ (is_in old k) (is_in new k) c.loop-r-test.true c.r-item.is (c.loop-r.invariant.marked k)
          (ap (λ ms. is_in ms k) c.insert.ensures ∙ in-marked old r.leaf k within);
    }

pub returns-clause-marked : goal.returns-clause-marked
returns-clause-marked g c = λ k.
    had-all (λ (rs : List XRecord). is_fed (x_records rs) k) refl c.args.fed.now c.loop-r.r-index _ (is_in (g.S.LeafSet.members c.loop-r.set) k) c.loop-r-test.false (c.loop-r.invariant.marked k)
