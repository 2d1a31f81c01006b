use Rattle.std.proofs.Common.{◌≡◌, ◌+◌, Some, List, length, refl, sym, ap, ◌∙◌, subst, arith}
use Rattle.std.specs.Prelude.{slice_get}
use Rattle.std.proofs.lemmas.Option.{slice_get_read}
use Rattle.std.proofs.lemmas.Result.{IfOk-weaker}
use Rattle.model_tree.specs.Pull.{Source}
use Rattle.model_tree.specs.declared.component.Component.{Component}
use Rattle.port_net.specs.Shown.{Gives}
use Rattle.port_net.specs.Outside.{GivesOut, comes_out}
use Rattle.port_net.proofs.Standing.{empty-joined, none-found, one-found}
use Rattle.port_net.proofs.sources.named_node.Goals as goal

pub returns-in-None-clause-gives : goal.returns-in-None-clause-gives
returns-in-None-clause-gives c =
    IfOk-weaker c.join.result _ _
    (λ k h ins first settings known.
    subst (λ (xs : List Source). Gives ins c.join.new.nodes.items k xs)
    (sym (none-found c.args.children.now.list.now settings first 0 c.args.port.now c.args.child.now (sym (c.place.ensures.place settings) ∙ c.in-None.is)))
    (empty-joined c.args.nodes.now.items c.join.new.nodes.items k c.new.result.items c.new.ensures.items h ins))
    c.join.ensures.joins

pub returns-in-Some-out_at-clause-gives : goal.returns-in-Some-out_at-clause-gives
returns-in-Some-out_at-clause-gives c =
    let place : c.in-Some.place ≡ 0 + c.in-Some.place = omega arith in
    let child : slice_get c.args.children.now.list.now c.in-Some.place ≡ Some c.index-children-place.result =
    slice_get_read c.args.children.now.list.now (length c.args.children.now.list.now) c.in-Some.place c.index-children-place.result refl c.in-Some.ensures.within c.index-children-place.is in
    IfOk-weaker c.out_node.result _ _
    (λ k h ins first settings known.
    let found = one-found c.args.nodes.now.items c.args.children.now.list.now c.args.outs.now settings first 0 c.in-Some.place c.in-Some.place c.args.port.now c.args.child.now c.index-children-place.result c.in-Some-out_at.out.now known place
    (sym (c.place.ensures.place settings) ∙ c.in-Some.is) child c.in-Some-out_at.ensures in
    let there = c.in-Some-out_at.out.now in
    let is = c.index-children-place.is in
    subst (λ (xs : List Source). Gives ins c.out_node.new.nodes.items k xs) (sym (found.1 ∙ ap (λ (x : Component). comes_out x settings there c.args.port.now) is))
    (h ins settings (subst (λ (x : Component). GivesOut c.args.nodes.now.items x there) is found.0)))
    c.out_node.ensures.gives
