use Rattle.std.proofs.Common.{◌≡◌, length, ap, subst, arith}
use Rattle.std.specs.Prelude.{IfOk}
use Rattle.model_tree.specs.Stands.{group_of}
use Rattle.cell_table.specs.Table.{Table, table_at_start}
use Rattle.cell_engine.proofs.Made.{numbers}
use Rattle.cell_engine.proofs.make.table_of.Goals as goal

pub new-requires : goal.new-requires
new-requires c =
    let n = numbers (group_of c.args.group.now) c.requires in
    record {
      cells = omega (arith, ap length c.values-initial.ensures, n.cells, c.cells-most.ensures.value, c.cells-most.ensures.bounded);
      ports = omega (arith, ap length c.deref.ensures.value, n.ports);
      variables = omega (arith, ap length c.deref-2.ensures.value, n.variables);
    }

pub returns : goal.returns
returns c =
    subst (λ (start : Table). IfOk c.new.result (λ t. t ≡ start)) (λ k. table_at_start (c.values-initial.ensures k) (c.deref.ensures.value k) (c.deref-2.ensures.value k)) c.new.ensures
