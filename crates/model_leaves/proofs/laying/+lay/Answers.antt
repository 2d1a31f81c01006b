use Rattle.std.proofs.Common.{rules, ◌≡◌, ◌<◌, ◌+◌, ◌++◌, [], ◌∷◌, ℕ, List, length, take, sym, ap, ◌∙◌, subst, drop, arith, get_or}
use Rattle.std.specs.Prelude.{slice_set}
use Rattle.std.proofs.lemmas.Grind.{common_steps}
use Rattle.std.proofs.lemmas.List.{with_items_is, take_more, take_more_set, drop-drop}
use Rattle.quantity.specs.declared.value.Value.{Value}
use Rattle.model_tree.specs.declared.component.Component.{Component}
use Rattle.model_leaves.specs.Table.{groups_in}
use Rattle.model_leaves.specs.Growing.{groups_in_all}
use Rattle.model_leaves.specs.Laying.{IsLaid, AreLaid}
use Rattle.model_leaves.proofs.Rows.{groups_in-Coupled}
use Rattle.model_leaves.proofs.Shown.{groups-more}
use Rattle.model_leaves.proofs.Lays.{laid-Coupled, laid-more, laid-length}
use Rattle.model_leaves.proofs.laying.+lay.Goals as goal

pub lay_coupled-returns-clause-laid : goal.lay_coupled-returns-clause-laid
lay_coupled-returns-clause-laid t c =
    let long : length c.lay_all.new.children ≡ c.args.coupled.now.children.len =
    laid-length c.deref_mut.result.now c.lay_all.new.children c.args.values.now.items c.lay_all.ensures.laid ∙ c.deref_mut.ensures.len in
    laid-Coupled c.args.coupled.now _ c.args.values.now.items
    (subst (λ (ds : List Component). AreLaid c.args.coupled.now.children.items ds c.args.values.now.items) (sym (with_items_is c.args.coupled.now.children c.lay_all.new.children long))
    (subst (λ (cs : List Component). AreLaid cs c.lay_all.new.children c.args.values.now.items) c.deref_mut.ensures.value c.lay_all.ensures.laid))

pub lay_coupled-returns-clause-left : goal.lay_coupled-returns-clause-left
lay_coupled-returns-clause-left t c = c.lay_all.ensures.left ∙ ap (λ (k : ℕ). drop k c.args.values.now.items) (ap groups_in_all c.deref_mut.ensures.value ∙ sym (groups_in-Coupled c.args.coupled.now))

pub lay_all-loop-i-preserved : goal.lay_all-loop-i-preserved
lay_all-loop-i-preserved t c =
    let within : c.loop-i.i < length c.args.children.now = search rules in
    let inside : c.loop-i.i < length c.loop-i.children = search rules in
    let is : c.index-children-i.result ≡ get_or c.args.children.now c.loop-i.i c.index-children-i.result = c.index-children-i.is ∙ c.loop-i.invariant.unvisited.1 c.loop-i.i c.index-children-i.result (omega arith) in
    let took : take c.loop-i.i c.args.children.now ++ c.index-children-i.result ∷ [] ≡ take (c.loop-i.i + 1) c.args.children.now =
    ap (λ (x : Component). take c.loop-i.i c.args.children.now ++ x ∷ []) is ∙ sym (take_more c.args.children.now c.loop-i.i c.index-children-i.result within) in
    let put : take c.loop-i.i c.loop-i.children ++ c.lay_in.new.component ∷ [] ≡ take (c.loop-i.i + 1) (slice_set c.loop-i.children c.loop-i.i c.lay_in.new.component) =
    sym (take_more_set c.loop-i.children c.loop-i.i c.lay_in.new.component inside) in
    let more = laid-more (take c.loop-i.i c.args.children.now) (take c.loop-i.i c.loop-i.children) c.args.values.now.items c.index-children-i.result c.lay_in.new.component c.loop-i.invariant.laid
    (subst (λ (vs : List (List Value)). IsLaid c.index-children-i.result c.lay_in.new.component vs) c.loop-i.invariant.left (subst (λ (x : Component). IsLaid x c.lay_in.new.component c.loop-i.values.items) (sym c.index-children-i.is) c.lay_in.ensures.laid)) in
    record {
      unvisited = search (rules, common_steps);
      laid = subst (λ (cs : List Component). AreLaid cs (take (c.loop-i.i + 1) (slice_set c.loop-i.children c.loop-i.i c.lay_in.new.component)) c.args.values.now.items) took
          (subst (λ (ds : List Component). AreLaid (take c.loop-i.i c.args.children.now ++ c.index-children-i.result ∷ []) ds c.args.values.now.items) put more);
      left = c.lay_in.ensures.left ∙ ap (λ (x : Component). drop (groups_in x) c.loop-i.values.items) (sym c.index-children-i.is) ∙ ap (drop (groups_in c.index-children-i.result)) c.loop-i.invariant.left ∙ drop-drop (groups_in c.index-children-i.result) (groups_in_all (take c.loop-i.i c.args.children.now)) c.args.values.now.items
          ∙ ap (λ (k : ℕ). drop k c.args.values.now.items) (sym (groups-more (take c.loop-i.i c.args.children.now) c.index-children-i.result) ∙ ap groups_in_all took);
    }
