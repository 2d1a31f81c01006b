use Rattle.std.proofs.Common.{◌≡◌, drop}
use Rattle.model_tree.specs.Tree.{Group}
use Rattle.run_model.specs.CellStep.{all_treated}
use Rattle.cell_table.specs.Told.{cell_at, OnlyCell}
use Rattle.cell_engine.specs.Step.{IsOfGroup, sees}
use Rattle.cell_engine.specs.Store.{IsAtDesk}
use Rattle.cell_engine.proofs.bag.treat_all.Given as goal

abbrev pub invariant-loop-input : goal.invariant-loop-input
invariant-loop-input l = record {
  only : OnlyCell l.i l.fn.table.cells l.table.cells;
  ready : IsAtDesk l.plan l.table l.desk;
  left : (g : Group) → IsOfGroup g l.plan l.ports l.i
      → all_treated g l.i l.t (sees l.plan l.t l.fn.table l.i) l.bag (cell_at l.fn.table.cells l.i)
      ≡ all_treated g l.i l.t (sees l.plan l.t l.fn.table l.i) (drop l.input-index l.bag) (cell_at l.table.cells l.i);
}
