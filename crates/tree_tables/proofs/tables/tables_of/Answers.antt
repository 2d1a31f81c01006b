use Rattle.std.proofs.Common.{map, ap, ◌∙◌}
use Rattle.model_tree.specs.declared.component.Component.TheVariants as in_tree
use Rattle.model_tree.specs.declared.component.Coupled.{Coupled}
use Rattle.model_tree.specs.Stands.{part_of}
use Rattle.served_tree.specs.Processors.{processors}
use Rattle.tree_tables.specs.Stations.{row_of, stations}
use Rattle.tree_tables.proofs.Put.{puts-all}
use Rattle.tree_tables.proofs.tables.tables_of.Goals as goal

pub returns : goal.returns
returns c = λ settings.
    let top = c.top-top.result.now in
    puts-all (part_of (in_tree.Coupled top) settings) c.in_ok-table.table c.put_coupled.new.table c.in_ok-root.root (map row_of c.new-2.result.items)
    c.in_ok-table.ensures.entries c.in_ok-table.ensures.leaves (c.in_ok-root.ensures settings) (ap (map row_of) c.new-2.ensures.items)
    (c.in_ok-put_coupled.ensures.takes settings (processors (part_of (in_tree.Coupled top) settings)))
    ∙ ap (λ (x : Coupled). stations (part_of (in_tree.Coupled x) settings)) c.top-top.ensures
