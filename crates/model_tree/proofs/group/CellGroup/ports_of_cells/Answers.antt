use Rattle.std.proofs.Common.{rules, ◌≡◌, ◌<◌, ◌≤◌, List, map, length, get_or, arith, ap, ◌∙◌}
use Rattle.std.specs.Vec.{with_items}
use Rattle.std.proofs.lemmas.List.{with_items_is}
use Rattle.cell_grid.specs.Space.{cell_count}
use Rattle.model_tree.specs.declared.link.Link.{Link}
use Rattle.model_tree.specs.CellPorts.{with_end}
use Rattle.model_tree.proofs.CellNames.{ends-more, ends-all}
use Rattle.model_tree.proofs.group.CellGroup.ports_of_cells.Goals as goal

pub loop-link-preserved : goal.loop-link-preserved
loop-link-preserved c =
    let within : c.loop-link.link-index < length c.args.self.now.links.items = search rules in
    let here = c.link-item.is ∙ ap (λ (ls : List Link). get_or ls c.loop-link.link-index c.link-item.result) c.deref-link-items.ensures.value in
    let count : length c.add_to_end.new.all ≡ c.loop-link.all.len = omega (arith, c.add_to_end.auto.all, c.loop-link.all.ok.0, c.deref_mut.ensures.len) in
    let items : (with_items c.loop-link.all c.add_to_end.new.all).items ≡ c.add_to_end.new.all = with_items_is c.loop-link.all c.add_to_end.new.all count in
    let one : map (λ v. v.items) c.add_to_end.new.all ≡ with_end c.link-item.result.to (map (λ v. v.items) c.loop-link.all.items) = search rules in
    ap (map (λ v. v.items)) items ∙ one ∙ ap (with_end c.link-item.result.to) c.loop-link.invariant
    ∙ ends-more c.args.self.now.links.items c.loop-link.link-index (cell_count c.args.self.now.grid) c.link-item.result within here

pub returns : goal.returns
returns c =
    let past : length c.args.self.now.links.items ≤ c.loop-link.link-index = omega (arith, ap length c.deref-link-items.ensures.value) in
    c.loop-link.invariant ∙ ends-all c.args.self.now.links.items c.loop-link.link-index (cell_count c.args.self.now.grid) past
