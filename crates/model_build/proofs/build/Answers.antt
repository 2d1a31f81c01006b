use Rattle.std.proofs.Common.{map, ap, ◌∙◌, Vec, Global, Some, None, Option}
use Rattle.std.specs.Prelude.{IfSome}
use Rattle.model_leaves.specs.Leaves.{Settings}
use Rattle.model_tree.specs.declared.link.Link.{Link}
use Rattle.model_walk.specs.MetTree.{met_with}
use Rattle.model_walk.specs.Placed.{plain_group}
use Rattle.model_walk.specs.Sets.{sets_shown}
use Rattle.model_build.specs.declared.parts.Parts.{Parts}
use Rattle.model_build.specs.Built.{HasSettings}
use Rattle.model_build.specs.Settled.{name_and_class}
use Rattle.model_build.proofs.Fronts.{top_was_met, top_is_coupled, start, tree_is_built, boxes_are_held}
use Rattle.model_build.proofs.Standing.{top_stands}
use Rattle.model_build.proofs.build.Goals as goal

pub top_component-requires-clause-no_group : goal.top_component-requires-clause-no_group
top_component-requires-clause-no_group c =
    let m = met_with c.args.walked.now.top in
    top_is_coupled c.components_are_made_item_by_item.ensures.walk c.requires.passed.0 c.args.sections.now m c.requires.passed.1 (top_was_met c.args.sections.now m c.requires.walk.met)

pub top_component-requires-clause-ahead : goal.top_component-requires-clause-ahead
top_component-requires-clause-ahead c =
    let m = met_with c.args.walked.now.top in
    let parts : Parts = record { groups = c.into_iter-groups.result; rules = c.into_iter-rules.result; atomics = c.into_iter-atomics.result; links = c.into_iter-links.result } in
    top_stands c.components_are_made_item_by_item.ensures.walk c.requires.passed.0 c.args.sections.now m parts c.requires.passed.1 (top_was_met c.args.sections.now m c.requires.walk.met)
    (start None c.args.sections.now parts (ap (map plain_group) c.into_iter-groups.ensures.rest ∙ c.requires.groups) (ap (map sets_shown) c.into_iter-rules.ensures.rest ∙ c.requires.rules)
    (ap (map name_and_class) c.into_iter-atomics.ensures.rest ∙ c.requires.atomics) tt (ap (map (λ (l : Vec Link Global). l.items)) c.into_iter-links.ensures.rest ∙ c.requires.links))

pub returns : goal.returns
returns c =
    let m = met_with c.args.walked.now.top in
    let top = top_was_met c.args.sections.now m c.requires.walk.met in
    let parts : Parts = record { groups = c.into_iter-groups.result; rules = c.into_iter-rules.result; atomics = c.into_iter-atomics.result; links = c.into_iter-links.result } in
    let ahead = λ (told : Option Settings) (has : IfSome told (λ s. HasSettings c.args.sections.now s c.into_iter-atomics.result.rest.items)).
    start told c.args.sections.now parts (ap (map plain_group) c.into_iter-groups.ensures.rest ∙ c.requires.groups) (ap (map sets_shown) c.into_iter-rules.ensures.rest ∙ c.requires.rules)
    (ap (map name_and_class) c.into_iter-atomics.ensures.rest ∙ c.requires.atomics) has (ap (map (λ (l : Vec Link Global). l.items)) c.into_iter-links.ensures.rest ∙ c.requires.links)
    in
    record {
      tree = λ settings has.
          tree_is_built c.components_are_made_item_by_item.ensures.walk c.requires.passed.0 c.args.sections.now m parts c.top_component.new.parts c.in_ok-top.top settings c.requires.passed.1 top c.in_ok-top.ensures.built
          (ahead (Some settings) (rw c.into_iter-atomics.ensures.rest has));
      atomics = boxes_are_held c.components_are_made_item_by_item.ensures.walk c.requires.passed.0 c.args.sections.now m parts c.top_component.new.parts c.in_ok-top.top c.requires.passed.1 top c.in_ok-top.ensures.built
          c.in_ok-top.ensures.boxes (ahead None tt) ∙ c.into_iter-atomics.ensures.rest;
    }
