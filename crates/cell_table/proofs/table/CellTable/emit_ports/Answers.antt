use Rattle.std.proofs.Common.{◌≤◌, ◌∙◌, ◌++◌, ℕ, [], length, get_or, ap, arith}
use Rattle.run_model.specs.CellStep.{CellState, port_emitted, cell_emitted}
use Rattle.cell_table.specs.Told.{no_cell, cell_at, if_given}
use Rattle.cell_table.specs.Table.{changed_port, given_by_port, no_port}
use Rattle.cell_table.proofs.Emitting.{bag_is, all_emitted}
use Rattle.cell_table.proofs.Taking.{four_changes, here_after, cell_after}
use Rattle.cell_table.proofs.table.CellTable.emit_ports.Goals as goal

pub emit_port-b-requires : goal.emit_port-b-requires
emit_port-b-requires c = record { cell = here_after c.args.i _ c.args.self.now c.emit_port-a.new.self c.emit_port-a.ensures.port c.requires.cell }

pub emit_port-c-requires : goal.emit_port-c-requires
emit_port-c-requires c =
    let b = here_after c.args.i _ c.args.self.now c.emit_port-a.new.self c.emit_port-a.ensures.port c.requires.cell in
    record { cell = here_after c.args.i _ c.emit_port-a.new.self c.emit_port-b.new.self c.emit_port-b.ensures.port b }

pub emit_port-d-requires : goal.emit_port-d-requires
emit_port-d-requires c =
    let b = here_after c.args.i _ c.args.self.now c.emit_port-a.new.self c.emit_port-a.ensures.port c.requires.cell in
    let d = here_after c.args.i _ c.emit_port-a.new.self c.emit_port-b.new.self c.emit_port-b.ensures.port b in
    record { cell = here_after c.args.i _ c.emit_port-b.new.self c.emit_port-c.new.self c.emit_port-c.ensures.port d }

pub returns-clause-cell : goal.returns-clause-cell
returns-clause-cell c =
    let t = c.args.self.now in
    let numbers = c.width-width.ensures.table.numbers c.args.i no_cell c.requires.cell in
    let few : length (cell_at t.cells c.args.i).ports ≤ 4 = omega (arith, numbers.0, c.width-width.ensures.table.width) in
    let f = port_emitted c.args.t in
    four_changes c.args.i (changed_port 0 f) (changed_port 1 f) (changed_port 2 f) (changed_port 3 f) (cell_emitted c.args.t) t c.emit_port-a.new.self c.emit_port-b.new.self c.emit_port-c.new.self c.emit_port-d.new.self
    c.emit_port-a.ensures.port c.emit_port-b.ensures.port c.emit_port-c.ensures.port c.emit_port-d.ensures.port
    (ap (λ ps. record (cell_at t.cells c.args.i) { ports = ps }) (all_emitted f (cell_at t.cells c.args.i).ports few))

pub returns-clause-given : goal.returns-clause-given
returns-clause-given c =
    let t = c.args.self.now in
    let numbers = c.width-width.ensures.table.numbers c.args.i no_cell c.requires.cell in
    let few : length (cell_at t.cells c.args.i).ports ≤ 4 = omega (arith, numbers.0, c.width-width.ensures.table.width) in
    let f = port_emitted c.args.t in
    let i = c.args.i in
    let ha = here_after i _ t c.emit_port-a.new.self c.emit_port-a.ensures.port c.requires.cell in
    let hb = here_after i _ c.emit_port-a.new.self c.emit_port-b.new.self c.emit_port-b.ensures.port ha in
    let ca = cell_after i (changed_port 0 f) t c.emit_port-a.new.self c.emit_port-a.ensures.port c.requires.cell in
    let cb = cell_after i (changed_port 1 f) c.emit_port-a.new.self c.emit_port-b.new.self c.emit_port-b.ensures.port ha ∙ ap (changed_port 1 f) ca in
    let cd = cell_after i (changed_port 2 f) c.emit_port-b.new.self c.emit_port-c.new.self c.emit_port-c.ensures.port hb ∙ ap (changed_port 2 f) cb in
    let given = λ (p : ℕ) (x : CellState). given_by_port c.args.t (get_or x.ports p no_port) in
    let eb = c.emit_port-b.ensures.given ∙ ap (given 1) ca in
    let ec = c.emit_port-c.ensures.given ∙ ap (given 2) cb in
    let ed = c.emit_port-d.ensures.given ∙ ap (given 3) cd in
    (λ k. if_given (0, c.emit_port-a.ensures.given k) ++ (if_given (1, eb k) ++ (if_given (2, ec k) ++ (if_given (3, ed k) ++ []))))
    ∙ bag_is c.args.t (cell_at t.cells c.args.i).ports few
