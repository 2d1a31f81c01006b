use Rattle.std.proofs.Common.{◌≡◌, ◌-◌, ◌++◌, List, [], ◌∷◌, length, sym, ◌∙◌, ap, subst, arith}
use Rattle.atomic_face.specs.declared.stock.BoxNo.{BoxNo}
use Rattle.model_leaves.specs.declared.leaves.LeafAt.{LeafAt}
use Rattle.model_leaves.specs.declared.leaves.LeafAt.TheVariants.{Atomic}
use Rattle.run_leaves.specs.declared.seats.Anchor.{Anchor}
use Rattle.run_leaves.specs.declared.seats.Anchor.TheVariants.{Boxes}
use Rattle.run_leaves.specs.Anchored.{places_from, AreThere}
use Rattle.run_leaves.proofs.Anchored.{places-long, more-boxes, box-more}
use Rattle.run_leaves.proofs.seats.Seats.push_box.Goals as goal

pub add_anchor-requires : goal.add_anchor-requires
add_anchor-requires c =
    let s = c.self.inside in
    let long = places-long s.boxes.items 0 s.anchors in
    let same = ap length c.self.view_is in
    omega (arith, long, same, c.requires)

pub invariant_of-self-2 : goal.invariant_of-self-2
invariant_of-self-2 c =
    let s = c.self.inside in
    let b = c.args.at in
    let boxes : c.push_reserved.new.self.items ≡ s.boxes.items ++ b ∷ [] = c.push_reserved.ensures.items ∙ ap (λ (bs : List BoxNo). bs ++ b ∷ []) c.in_ok-reserve.ensures.items in
    let skipped : c.leaves.result - c.len.result ≡ length s.anchors - length s.boxes.items = omega (arith, c.leaves.ensures, c.len.ensures, s.boxes.ok.0) in
    let anchors : c.add_anchor.new.anchors ≡ s.anchors ++ Boxes (length s.anchors - length s.boxes.items) ∷ [] = c.in_ok-add_anchor.ensures.ok ∙ ap (λ n. s.anchors ++ Boxes n ∷ []) skipped in
    subst (λ (bs : List BoxNo). AreThere bs c.add_anchor.new.anchors) (sym boxes)
    (subst (λ (ns : List Anchor). AreThere (s.boxes.items ++ b ∷ []) ns) (sym anchors) (more-boxes s.boxes.items s.anchors c.self.invariant b))

pub returns : goal.returns
returns c =
    let s = c.self.inside in
    let b = c.args.at in
    let boxes : c.push_reserved.new.self.items ≡ s.boxes.items ++ b ∷ [] = c.push_reserved.ensures.items ∙ ap (λ (bs : List BoxNo). bs ++ b ∷ []) c.in_ok-reserve.ensures.items in
    let skipped : c.leaves.result - c.len.result ≡ length s.anchors - length s.boxes.items = omega (arith, c.leaves.ensures, c.len.ensures, s.boxes.ok.0) in
    let anchors : c.add_anchor.new.anchors ≡ s.anchors ++ Boxes (length s.anchors - length s.boxes.items) ∷ [] = c.in_ok-add_anchor.ensures.ok ∙ ap (λ n. s.anchors ++ Boxes n ∷ []) skipped in
    (λ i. places_from (boxes i) 0 (anchors i))
    ∙ box-more s.boxes.items s.anchors c.self.invariant b ∙ ap (λ (ps : List LeafAt). ps ++ Atomic b ∷ []) c.self.view_is
