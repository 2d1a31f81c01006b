use Rattle.std.proofs.Common.{[], ◌∷◌, sym, ap, subst, ◌∙◌, List, map}
use Rattle.std.proofs.lemmas.List.{map-append, take_all}
use Rattle.ma_lines.specs.Sections.{Section}
use Rattle.model_text.specs.Walk.{groups}
use Rattle.model_text.specs.Rules.{of_group_rules}
use Rattle.model_walk.specs.declared.placed.PlacedGroup.{PlacedGroup}
use Rattle.model_walk.specs.Sets.{sets_of}
use Rattle.model_rules.specs.Parts.{IsPlaced, AddsGroups, HasGroups, group_section}
use Rattle.model_rules.proofs.Adds.{adds_more}
use Rattle.model_rules.proofs.Whole.{placed_at, sections_of}
use Rattle.model_rules.proofs.group.rules_of_groups.Goals as goal

pub add_group-requires-clause-group : goal.add_group-requires-clause-group
add_group-requires-clause-group c =
    subst IsPlaced (sym c.group-item.is) (placed_at c.args.groups.now (groups c.args.sections.now) c.loop-group.group-index _ c.requires c.loop-group-test.true)

pub loop-group-preserved : goal.loop-group-preserved
loop-group-preserved c =
    let ss = c.args.sections.now in
    let added = subst (λ (g : PlacedGroup). AddsGroups ss c.loop-group.read c.add_group.new.read (group_section g ∷ [])) c.group-item.is c.in_ok-add_group.ensures.added in
    record {
      rules = adds_more (of_group_rules ss) (map (sets_of ss)) (map group_section) (map-append (sets_of ss)) (map-append group_section) c.args.groups.now c.loop-group.group-index _ c.loop-group-test.true added c.loop-group.invariant.rules;
      last = c.in_ok-add_group.ensures.last;
    }

pub returns : goal.returns
returns c =
    let gs = c.args.groups.now in
    let there = ap (map group_section) (take_all c.loop-group.group-index gs c.loop-group-test.false) ∙ sections_of gs (groups c.args.sections.now) c.requires in
    let all = subst (λ (us : List Section). HasGroups c.args.sections.now us c.loop-group.read) there c.loop-group.invariant.rules in
    record { refused = all.refused; rules = all.items }
