use Rattle.std.proofs.Common.{◌≤◌, ◌∙◌, ap, arith, length, map, rules}
use Rattle.std.proofs.lemmas.List.{length-map, take_all}
use Rattle.model_leaves.specs.Grouped.{groups_shown}
use Rattle.model_tree.specs.Tree.{groups}
use Rattle.model_leaves.specs.Models.{tree_of}
use Rattle.model_tree.specs.Stands.{group_of}
use Rattle.model_leaves.proofs.Grouping.{as-many, group-at}
use Rattle.state_lines.specs.Sizes.{size_of}
use Rattle.state_lines.proofs.GroupSizes.{one_more_size}
use Rattle.state_lines.proofs.sizes.cell_sizes.Goals as goal

pub loop-group-preserved : goal.loop-group-preserved
loop-group-preserved c = λ settings.
    let gs = groups (tree_of c.args.model.now settings) in
    one_more_size gs c.loop-group.sizes.items c.push.new.self.items c.loop-group.group-index
    (group_of c.group-item.result.now) c.size_of.result (c.loop-group.invariant settings)
    (group-at c.deref-group-items.result.now gs c.loop-group.group-index c.group-item.result
    (ap groups_shown c.deref-group-items.ensures.value ∙ c.in_ok-groups.ensures settings)
    c.loop-group-test.true c.group-item.is)
    c.size_of.ensures (search rules)

pub returns : goal.returns
returns c = λ settings.
    let gs = groups (tree_of c.args.model.now settings) in
    let many = as-many c.deref-group-items.result.now gs
    (ap groups_shown c.deref-group-items.ensures.value ∙ c.in_ok-groups.ensures settings) in
    let past = c.loop-group-test.false in
    let behind : length (map size_of gs) ≤ c.loop-group.group-index =
    omega (arith, many, past, length-map gs size_of) in
    c.loop-group.invariant settings ∙ take_all c.loop-group.group-index (map size_of gs) behind
