use Rattle.sparse_cycle.specs.Sparse.{leaf_of}
use Rattle.state_file.proofs.Putting.{box_not_put, box_put, its_box, still_box, still_goes}
use Rattle.state_file.proofs.leaf.put_numbers.Goals as goal

pub box_next-requires-clause-goes : goal.box_next-requires-clause-goes
box_next-requires-clause-goes g c =
    let run = c.args.run.now in
    let b = its_box (leaf_of run.state.leaf_states c.args.leaf) c.requires.boxed in
    let h = c.in-Ok.ensures b.box b.is in
    still_goes run c.put_box.new.self c.args.leaf b.box h.0
    (record { there = b.is; put = h.2 }) c.requires.fresh.1

pub box_next-requires-clause-leaf : goal.box_next-requires-clause-leaf
box_next-requires-clause-leaf g c =
    let run = c.args.run.now in
    let b = its_box (leaf_of run.state.leaf_states c.args.leaf) c.requires.boxed in
    let h = c.in-Ok.ensures b.box b.is in
    still_box run c.put_box.new.self c.args.leaf b.box h.0 (record { there = b.is; put = h.2 })

pub returns-in-Ok : goal.returns-in-Ok
returns-in-Ok g c = λ b there.
    let h = c.in-Ok.ensures b there in
    box_put c.args.run.now c.put_box.new.self c.args.leaf c.args.t b h.0 c.args.numbers.now
    c.is_after.result c.box_next.result (record { there = there; put = h.2 }) h.1.0 h.1.1
    c.box_next.ensures c.is_after.ensures

pub returns-in-Err-BadState : goal.returns-in-Err-BadState
returns-in-Err-BadState g c = λ b there.
    let e = rw c.in-Err-BadState.field-0-is at c.in-Err-BadState.ensures in
    let h = e b there in
    box_not_put c.args.run.now c.put_box.new.self c.args.leaf c.args.t b c.args.numbers.now h.1.0
