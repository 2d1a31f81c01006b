use Rattle.std.proofs.Common.{◌-◌, ◌≤◌, ◌++◌, List, [], ◌∷◌, length, sym, ◌∙◌, ap, subst, arith}
use Rattle.std.proofs.lemmas.Result.{on_ok_weaker}
use Rattle.model_leaves.specs.declared.leaves.LeafAt.{LeafAt}
use Rattle.model_leaves.specs.declared.leaves.LeafAt.TheVariants.{Cell}
use Rattle.run_leaves.specs.declared.seats.Anchor.TheVariants.{Cells}
use Rattle.run_leaves.specs.Anchored.{places_from, AreThere}
use Rattle.run_leaves.proofs.Anchored.{places-long, either-way, more-cells, cell-more}
use Rattle.run_leaves.proofs.seats.Seats.push_cell.Goals as goal

pub overflow_sub-first : goal.overflow_sub-first
overflow_sub-first c =
    let s = c.self.inside in
    let long = places-long s.boxes.items 0 s.anchors in
    let same = ap length c.self.view_is in
    omega (arith, long, same, c.requires.cell, c.leaves.ensures)

pub add_anchor-requires : goal.add_anchor-requires
add_anchor-requires c =
    let s = c.self.inside in
    let long = places-long s.boxes.items 0 s.anchors in
    let same = ap length c.self.view_is in
    omega (arith, long, same, c.requires.few)

pub invariant_of-self : goal.invariant_of-self
invariant_of-self c =
    let s = c.self.inside in
    let long = places-long s.boxes.items 0 s.anchors in
    let same = ap length c.self.view_is in
    let within : c.args.cell ≤ length s.anchors = omega (arith, long, same, c.requires.cell) in
    let first : length s.anchors - c.args.cell ≤ length s.anchors = omega arith in
    either-way (AreThere s.boxes.items) c.add_anchor.result s.anchors (s.anchors ++ Cells c.args.group (c.leaves.result - c.args.cell) ∷ []) c.add_anchor.new.anchors c.add_anchor.ensures.ok c.add_anchor.ensures.err
    (subst (λ n. AreThere s.boxes.items (s.anchors ++ Cells c.args.group (n - c.args.cell) ∷ [])) (sym c.leaves.ensures)
    (more-cells s.boxes.items s.anchors c.self.invariant c.args.group (length s.anchors - c.args.cell) first))
    c.self.invariant

pub returns : goal.returns
returns c =
    let s = c.self.inside in
    let long = places-long s.boxes.items 0 s.anchors in
    let same = ap length c.self.view_is in
    let within : c.args.cell ≤ length s.anchors = omega (arith, long, same, c.requires.cell) in
    on_ok_weaker c.add_anchor.result
    (λ added. ap (places_from s.boxes.items 0) added
    ∙ ap (λ n. places_from s.boxes.items 0 (s.anchors ++ Cells c.args.group (n - c.args.cell) ∷ [])) c.leaves.ensures
    ∙ cell-more s.boxes.items s.anchors c.self.invariant c.args.group c.args.cell within
    ∙ ap (λ (ps : List LeafAt). ps ++ Cell c.args.group c.args.cell ∷ []) c.self.view_is)
    c.add_anchor.ensures.ok
