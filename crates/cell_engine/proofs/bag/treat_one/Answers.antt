use Rattle.std.proofs.Common.{◌≡◌, [], subst}
use Rattle.std.specs.Prelude.{slice_get}
use Rattle.std.specs.Option.{unwrap_or}
use Rattle.model_tree.specs.Pull.{cell_ports}
use Rattle.model_tree.specs.Tree.{Word}
use Rattle.run_model.specs.CellStep.{by_port_rules, port_rules}
use Rattle.cell_table.specs.Told.{cell_at}
use Rattle.cell_engine.specs.Cells.{Computes}
use Rattle.cell_engine.specs.Step.{sees}
use Rattle.cell_engine.proofs.Moving.{named_port}
use Rattle.cell_engine.proofs.bag.treat_one.Goals as goal

pub returns-clause-cell : goal.returns-clause-cell
returns-clause-cell c = λ g of.
    let i = c.args.i in
    let old = c.args.table.now in
    let n = c.args.input.now.0.0 in
    let name : c.index-ports-from.result ≡ unwrap_or (slice_get (cell_ports g i) n) [] =
    named_port c.args.ports.now (cell_ports g i) c.from.result n c.index-ports-from.result c.requires.port c.from.ensures c.index-ports-from.is of.ports_are in
    subst (λ (w : Word). Computes i old.cells c.treat.new.table.cells
    (by_port_rules g c.args.t (sees c.args.plan.now c.args.t old i) c.args.input.now.1 (port_rules g i w) (cell_at old.cells i)) c.treat.result)
    name (c.treat.ensures.cell g of.stands of.sound)
