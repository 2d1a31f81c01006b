use Rattle.std.proofs.Common.{◌++◌, ◌∷◌, [], ◌∙◌, List, map, ap, sym, append-nil, cond, eqb}
use Rattle.std.proofs.lemmas.Bool.{eq-eqb}
use Rattle.text_forms.specs.declared.records.XRecord.{XRecord}
use Rattle.sparse_cycle.specs.Sparse.{bag_in, records_at, value_at_port}
use Rattle.cycle_steps.specs.Untimed.{x_record, x_records}
use Rattle.cycle_steps.proofs.OneMore.{appends-more, map-kept}
use Rattle.cycle_steps.proofs.Bags.{none-above}
use Rattle.cycle_steps.proofs.bag.append_bag.Goals as goal

pub returns-then-r-leaf : goal.returns-then-r-leaf
returns-then-r-leaf c =
    sym (c.loop-r.invariant ∙ ap (λ bag. c.loop-r.into.items ++ bag)
    (none-above c.args.leaf c.loop-r.r-index c.args.rest.now c.requires.rise c.requires.above c.r-item.result c.r-item.is c.loop-r-test.true c.if-r-leaf.true)
    ∙ append-nil c.loop-r.into.items)

pub loop-r-preserved : goal.loop-r-preserved
loop-r-preserved c =
    let l = c.args.leaf in
    let r = c.r-item.result in
    appends-more (λ (rs : List XRecord). bag_in (x_records rs) l)
    (λ r rs. map-kept value_at_port (eqb r.leaf l) (x_record r) (records_at l (x_records rs)))
    c.args.rest.now c.loop-r.r-index r _ c.loop-r.into.items c.push.new.self.items c.loop-r-test.true c.r-item.is c.loop-r.invariant
    ((rw c.get.ensures at c.in-Ok.ensures.items) ∙ ap (λ b. c.loop-r.into.items ++ map value_at_port (cond b (x_record r ∷ []) [])) (sym (eq-eqb r.leaf l c.if-r-leaf.false)))
