use Rattle.std.proofs.Common.{◌≡◌, ◌-◌, Some, length, sym, ◌∙◌, ap, arith}
use Rattle.std.specs.Prelude.{slice_get}
use Rattle.run_leaves.specs.declared.seats.Anchor.TheVariants.{Boxes, Cells}
use Rattle.run_leaves.specs.Anchored.{box_place}
use Rattle.run_leaves.proofs.Places.{read-at}
use Rattle.run_leaves.proofs.Anchored.{places-long, place-at}
use Rattle.run_leaves.proofs.seats.Seats.at.Goals as goal

pub at-requires : goal.at-requires
at-requires c =
    let s = c.self.inside in
    let long = places-long s.boxes.items 0 s.anchors in
    let same = ap length c.self.view_is in
    omega (arith, long, same, c.requires)

pub overflow_sub-leaf : goal.overflow_sub-leaf
overflow_sub-leaf c = (c.self.invariant.each c.args.leaf (Boxes c.in-Boxes.skipped) (c.at.ensures ∙ ap Some c.in-Boxes.is)).0

pub index-requires : goal.index-requires
index-requires c =
    let there = c.self.invariant.each c.args.leaf (Boxes c.in-Boxes.skipped) (c.at.ensures ∙ ap Some c.in-Boxes.is) in
    let inside = there.1 in
    omega (arith, inside, c.self.inside.boxes.ok.0)

pub overflow_sub-result : goal.overflow_sub-result
overflow_sub-result c = c.self.invariant.each c.args.leaf (Cells c.in-Cells.group c.in-Cells.first) (c.at.ensures ∙ ap Some c.in-Cells.is)

pub returns-in-Boxes : goal.returns-in-Boxes
returns-in-Boxes c =
    let s = c.self.inside in
    let leaf = c.args.leaf in
    let there = c.self.invariant.each leaf (Boxes c.in-Boxes.skipped) (c.at.ensures ∙ ap Some c.in-Boxes.is) in
    let box : slice_get s.boxes.items (leaf - c.in-Boxes.skipped) ≡ Some c.index.result.now = read-at s.boxes.items (leaf - c.in-Boxes.skipped) c.index.result.now there.1 c.index.ensures in
    ap (λ ps. slice_get ps leaf) (sym c.self.view_is)
    ∙ place-at s.boxes.items s.anchors leaf (Boxes c.in-Boxes.skipped) (c.at.ensures ∙ ap Some c.in-Boxes.is)
    ∙ ap (λ o. Some (box_place o)) box

pub returns-in-Cells : goal.returns-in-Cells
returns-in-Cells c =
    let s = c.self.inside in
    ap (λ ps. slice_get ps c.args.leaf) (sym c.self.view_is)
    ∙ place-at s.boxes.items s.anchors c.args.leaf (Cells c.in-Cells.group c.in-Cells.first) (c.at.ensures ∙ ap Some c.in-Cells.is)
