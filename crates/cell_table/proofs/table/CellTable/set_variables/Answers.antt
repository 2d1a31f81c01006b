use Rattle.std.proofs.Common.{◌∙◌, ◌+◌, ◌*◌, ◌++◌, take, drop, length, ap, sym, arith, rules}
use Rattle.std.proofs.lemmas.List.{with_items_is}
use Rattle.cell_table.proofs.Alone.{none_set}
use Rattle.cell_table.proofs.Kept.{variable_row, count_seen, variables_written}
use Rattle.cell_table.proofs.table.CellTable.set_variables.Goals as goal

pub write-requires : goal.write-requires
write-requires c =
    omega (arith, variable_row c.self.inside c.args.self.now c.self.view_is c.self.invariant c.args.i c.requires.cell, c.self.invariant.variables, c.deref_mut.ensures.len, c.self.inside.variables.ok.0, c.requires.count, count_seen c.self.inside c.args.self.now c.self.view_is)

pub returns : goal.returns
returns c =
    variables_written c.self.inside c.args.self.now c.self.view_is c.self.invariant c.args.i c.requires.cell c.args.values.now _ (c.requires.count ∙ sym (count_seen c.self.inside c.args.self.now c.self.view_is))
    (with_items_is c.self.inside.variables c.write.new.values (omega (arith, c.write.auto.values, c.self.inside.variables.ok.0)) ∙ c.write.ensures
    ∙ ap (λ xs. take (c.args.i * c.self.inside.variable_count) xs ++ c.args.values.now ++ drop (c.args.i * c.self.inside.variable_count + length c.args.values.now) xs) c.deref_mut.ensures.value)

pub returns-then-is_empty : goal.returns-then-is_empty
returns-then-is_empty c =
    none_set c.args.i c.args.values.now c.args.self.now c.cells-cells.ensures.table c.requires.cell c.requires.count (search rules)
