use Rattle.std.proofs.Common.{◌≡◌, ◌∙◌, ℕ, length, replicate, sym, ap, rules}
use Rattle.cell_grid.specs.Space.{cell_count}
use Rattle.model_tree.specs.Stands.{group_of}
use Rattle.cell_engine.proofs.Numbered.{all_first, no_items}
use Rattle.cell_engine.proofs.make.sets_of_cells.Goals as goal

pub returns-then-is_empty : goal.returns-then-is_empty
returns-then-is_empty c =
    let g = group_of c.args.group.now in
    let long : length g.zone_rules ≡ 0 = search rules in
    c.first.ensures ∙ ap (λ (n : ℕ). replicate n 0) c.cells.ensures.value ∙ sym (all_first g 0 (cell_count g.space) (no_items g.zone_rules long))
