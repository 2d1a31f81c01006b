use Rattle.std.proofs.Common.{◌≡◌, ◌++◌, ◌∷◌, [], subst, sym, ap, ◌∙◌, rules, List}
use Rattle.model_walk.specs.declared.met.MetComponent.TheViews.{the_lemmas}
use Rattle.model_tree.specs.declared.component.Component.TheVariants.{Coupled as in_tree, Cells}
use Rattle.model_text.specs.Walk.{is_group}
use Rattle.model_walk.specs.declared.met.MetComponent.{MetComponent}
use Rattle.model_walk.specs.MetTree.{met_with, section_met}
use Rattle.model_walk.proofs.MetTrees.{section_met-Section}
use Rattle.model_build.specs.Ahead.{ItemsAhead, ItemAhead, BuildsItems, BuildsItem}
use Rattle.model_build.proofs.Fronts.{group_builds, coupled_builds, coupled_boxes, bare_builds, items_none, items_step, boxes_step}
use Rattle.model_build.proofs.Standing.{group_there, links_there, items_stand, item_stands, others_stand, atomic_there, section_stands}
use Rattle.model_build.proofs.component.+building.Goals as goal

pub components-loop-component-init : goal.components-loop-component-init
components-loop-component-init t c =
    record {
      built = items_none c.args.parts.now c.in_ok-all.all.items c.in_ok-all.ensures.items;
      boxes = rw c.in_ok-all.ensures.items;
      ahead = c.requires;
    }

pub components-made_component-requires : goal.components-made_component-requires
components-made_component-requires t c = (
  search (rules, the_lemmas),
  subst (λ (m : MetComponent). ItemAhead m c.loop-component.parts) (sym c.component-item.is)
      (item_stands c.args.met.now c.loop-component.component-index _ c.loop-component.parts c.loop-component-test.true c.loop-component.invariant.ahead),
)

pub components-loop-component-preserved : goal.components-loop-component-preserved
components-loop-component-preserved t c =
    let pushed : c.push.new.self.items ≡ c.loop-component.all.items ++ c.in_ok-made.made ∷ [] = search rules in
    let one = subst (λ (m : MetComponent). BuildsItem m c.loop-component.parts c.in_ok-made.made c.made_component.new.parts) c.component-item.is c.in_ok-made.ensures.built in
    record {
      built = items_step c.args.met.now c.loop-component.component-index _ c.args.parts.now c.loop-component.parts c.made_component.new.parts c.loop-component.all.items c.push.new.self.items
          c.in_ok-made.made c.loop-component-test.true pushed c.loop-component.invariant.built one;
      boxes = boxes_step c.args.parts.now c.loop-component.parts c.made_component.new.parts c.loop-component.all.items c.push.new.self.items c.in_ok-made.made pushed c.loop-component.invariant.boxes c.in_ok-made.ensures.boxes;
      ahead = others_stand c.args.met.now c.loop-component.component-index _ c.loop-component.parts c.made_component.new.parts c.in_ok-made.made c.loop-component-test.true c.loop-component.invariant.ahead one;
    }

pub made_component-next_atomic-requires : goal.made_component-next_atomic-requires
made_component-next_atomic-requires t c = atomic_there c.args.parts.now (subst (λ (m : MetComponent). ItemAhead m c.args.parts.now) c.in_default.is c.requires)

pub made_component-next_group-requires-clause-groups : goal.made_component-next_group-requires-clause-groups
made_component-next_group-requires-clause-groups t c =
    let m = met_with c.in-Section.met in
    let group = ap is_group (sym c.section.ensures) ∙ sym c.is_group.ensures ∙ c.if-is_group.true in
    (group_there m c.args.parts.now group (section_stands c.args.met.now m c.args.parts.now (ap section_met c.in-Section.is ∙ section_met-Section c.in-Section.met) c.requires)).0

pub made_component-next_group-requires-clause-rules : goal.made_component-next_group-requires-clause-rules
made_component-next_group-requires-clause-rules t c =
    let m = met_with c.in-Section.met in
    let group = ap is_group (sym c.section.ensures) ∙ sym c.is_group.ensures ∙ c.if-is_group.true in
    (group_there m c.args.parts.now group (section_stands c.args.met.now m c.args.parts.now (ap section_met c.in-Section.is ∙ section_met-Section c.in-Section.met) c.requires)).1

pub made_component-next_group-requires-clause-links : goal.made_component-next_group-requires-clause-links
made_component-next_group-requires-clause-links t c =
    let m = met_with c.in-Section.met in
    links_there m c.args.parts.now (section_stands c.args.met.now m c.args.parts.now (ap section_met c.in-Section.is ∙ section_met-Section c.in-Section.met) c.requires)

pub made_component-returns-then-is_group-clause-built : goal.made_component-returns-then-is_group-clause-built
made_component-returns-then-is_group-clause-built t c =
    let m = met_with c.in-Section.met in
    let group = ap is_group (sym c.section.ensures) ∙ sym c.is_group.ensures ∙ c.if-is_group.true in
    bare_builds c.components_are_made_item_by_item.ensures.items c.args.met.now m c.args.parts.now c.next_group.new.parts (Cells c.in_ok-group.group) (ap section_met c.in-Section.is ∙ section_met-Section c.in-Section.met)
    (group_builds c.components_are_made_item_by_item.ensures.sections m c.args.parts.now c.next_group.new.parts c.in_ok-group.group group c.in_ok-group.ensures)

pub made_component-next_links-links-requires : goal.made_component-next_links-links-requires
made_component-next_links-links-requires t c =
    let m = met_with c.in-Section.met in
    links_there m c.args.parts.now (section_stands c.args.met.now m c.args.parts.now (ap section_met c.in-Section.is ∙ section_met-Section c.in-Section.met) c.requires)

pub made_component-components-requires : goal.made_component-components-requires
made_component-components-requires t c =
    let m = met_with c.in-Section.met in
    let no_group = ap is_group (sym c.section.ensures) ∙ sym c.is_group.ensures ∙ c.if-is_group.false in (
      search (rules, the_lemmas),
      subst (λ (ms : List MetComponent). ItemsAhead ms c.next_links-links.new.parts) (sym c.deref.ensures.value)
          (items_stand m c.args.parts.now c.next_links-links.new.parts c.next_links-links.result.items no_group c.next_links-links.ensures
          (section_stands c.args.met.now m c.args.parts.now (ap section_met c.in-Section.is ∙ section_met-Section c.in-Section.met) c.requires)),
    )

pub made_component-returns-clause-built : goal.made_component-returns-clause-built
made_component-returns-clause-built t c =
    let m = met_with c.in-Section.met in
    let no_group = ap is_group (sym c.section.ensures) ∙ sym c.is_group.ensures ∙ c.if-is_group.false in
    let children = subst (λ (ms : List MetComponent). BuildsItems ms c.next_links-links.new.parts c.in_ok-children.children.items c.components.new.parts) c.deref.ensures.value c.in_ok-children.ensures.built in
    bare_builds c.components_are_made_item_by_item.ensures.items c.args.met.now m c.args.parts.now c.components.new.parts (in_tree c.in_ok-made.made) (ap section_met c.in-Section.is ∙ section_met-Section c.in-Section.met)
    (coupled_builds c.components_are_made_item_by_item.ensures.sections m c.args.parts.now c.next_links-links.new.parts c.components.new.parts c.in_ok-made.made c.in_ok-children.children.items c.next_links-links.result.items no_group
    c.next_links-links.ensures children c.in_ok-made.ensures)

pub made_component-returns-clause-boxes : goal.made_component-returns-clause-boxes
made_component-returns-clause-boxes t c =
    coupled_boxes c.args.parts.now c.next_links-links.new.parts c.components.new.parts c.in-Section.met.section.now c.in_ok-made.made c.in_ok-children.children.items c.next_links-links.result.items c.next_links-links.ensures
    c.in_ok-made.ensures c.in_ok-children.ensures.boxes
