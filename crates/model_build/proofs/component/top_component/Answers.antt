use Rattle.std.proofs.Common.{subst, sym, List}
use Rattle.model_walk.specs.declared.met.MetComponent.{MetComponent}
use Rattle.model_walk.specs.MetTree.{met_with}
use Rattle.model_build.specs.Ahead.{ItemsAhead, BuildsItems}
use Rattle.model_build.proofs.Fronts.{coupled_builds, coupled_boxes}
use Rattle.model_build.proofs.Standing.{links_there, items_stand}
use Rattle.model_build.proofs.component.top_component.Goals as goal

pub next_links-links-requires : goal.next_links-links-requires
next_links-links-requires c = links_there (met_with c.args.top.now) c.args.parts.now c.requires.ahead

pub components-requires : goal.components-requires
components-requires c =
    subst (λ (ms : List MetComponent). ItemsAhead ms c.next_links-links.new.parts) (sym c.deref.ensures.value)
    (items_stand (met_with c.args.top.now) c.args.parts.now c.next_links-links.new.parts c.next_links-links.result.items c.requires.no_group c.next_links-links.ensures c.requires.ahead)

pub returns : goal.returns
returns c =
    let children = subst (λ (ms : List MetComponent). BuildsItems ms c.next_links-links.new.parts c.in_ok-children.children.items c.components.new.parts) c.deref.ensures.value c.in_ok-children.ensures.built in
    record {
      built = coupled_builds c.components_are_made_item_by_item.ensures.sections (met_with c.args.top.now) c.args.parts.now c.next_links-links.new.parts c.components.new.parts c.in_ok-made.made c.in_ok-children.children.items
          c.next_links-links.result.items c.requires.no_group c.next_links-links.ensures children c.in_ok-made.ensures;
      boxes = coupled_boxes c.args.parts.now c.next_links-links.new.parts c.components.new.parts c.args.top.now.section.now c.in_ok-made.made c.in_ok-children.children.items c.next_links-links.result.items c.next_links-links.ensures
          c.in_ok-made.ensures c.in_ok-children.ensures.boxes;
    }
