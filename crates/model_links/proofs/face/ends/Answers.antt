use Rattle.std.proofs.Common.{◌≡◌, rules, List, [], None, map, ap, sym, get_or, ◌∙◌, append-nil}
use Rattle.std.proofs.lemmas.List.{map-append, take_all}
use Rattle.std.proofs.lemmas.List.Concat.{flat_map-append}
use Rattle.std.specs.List.{flat_map}
use Rattle.source_text.specs.Shown.{texts}
use Rattle.model_text.specs.Keyed.{texts_of}
use Rattle.model_walk.specs.declared.item.Item.{Item}
use Rattle.model_walk.specs.Shown.{item_of}
use Rattle.model_links.specs.Lent.{end_of, with_end, with_ends}
use Rattle.model_links.specs.PortEnds.{own_key, ends_at, child_ends, ends_by}
use Rattle.model_links.proofs.Lists.{grown}
use Rattle.model_links.proofs.face.ends.Goals as goal

pub loop-child-init : goal.loop-child-init
loop-child-init c =
    let none : map end_of c.new-ends.result.keys ≡ [] = search rules in
    let own : texts c.deref.result.now ≡ texts_of (own_key c.args.side) c.args.section.now = ap texts c.deref.ensures.value ∙ c.in_ok-own.ensures in
    c.in_ok-add_ports.ensures ∙ (λ k. with_ends (none k) (ends_at None (own k)))

pub loop-child-preserved : goal.loop-child-preserved
loop-child-preserved c =
    let of = child_ends c.args.side c.args.sections.now in
    let own = ends_at None (texts_of (own_key c.args.side) c.args.section.now) in
    let old = map end_of c.loop-child.ends.keys in
    let here = of (item_of (get_or c.args.children.now c.loop-child.child-index _)) in
    grown with_end (λ (is : List Item). flat_map of (map item_of is)) (λ xs ys. ap (flat_map of) (map-append item_of xs ys) ∙ flat_map-append of (map item_of xs) (map item_of ys)) c.args.children.now c.loop-child.child-index _ c.loop-child-test.true
    (with_ends [] own) old (map end_of c.add_child.new.ends.keys) (c.in_ok-add_child.ensures ∙ ap (with_ends old) (sym (append-nil here))) c.loop-child.invariant

pub returns : goal.returns
returns c =
    c.loop-child.invariant
    ∙ ap (λ (is : List Item). ends_by c.args.side c.args.sections.now c.args.section.now (map item_of is)) (take_all c.loop-child.child-index c.args.children.now c.loop-child-test.false)
