use Rattle.std.proofs.Common.{◌≡◌, ℕ, ◌+◌, ◌<◌, ◌≤◌, length, sym, ap, ◌∙◌, subst, arith}
use Rattle.std.specs.Prelude.{IsTrue}
use Rattle.cell_grid.specs.Space.{cell_count}
use Rattle.text_forms.specs.Frames.{Picture}
use Rattle.sparse_cycle.specs.Sparse.{leaf_of}
use Rattle.run_leaves.specs.Saved.{is_cell_state}
use Rattle.run_loop.specs.Emitted.{given_by}
use Rattle.run_loop.proofs.Emitted.{preset_none, preset_next, preset_all, no_more_cells}
use Rattle.run_loop.proofs.shown.show_cells.Goals as goal

pub loop-cell-init : goal.loop-cell-init
loop-cell-init g c = record { shown = preset_none (g.C.Cycles.standing c.args.run.now).state.leaf_states c.args.drawn.now c.requires.unbegun; steps = omega arith }

pub overflow_add-leaf : goal.overflow_add-leaf
overflow_add-leaf g c =
    let inside : c.loop-cell.cell < cell_count c.args.drawn.now.drawing.picture.space = omega (arith, c.loop-cell-test.true, c.cells-cell-end.ensures) in
    omega (arith, (c.requires.cells c.loop-cell.cell inside).0, c.requires.few, c.first.ensures, c.loop-cell.invariant.shown.place)

pub emitted-requires-clause-cell : goal.emitted-requires-clause-cell
emitted-requires-clause-cell g c =
    let states = (g.C.Cycles.standing c.args.run.now).state.leaf_states in
    let inside : c.loop-cell.cell < cell_count c.args.drawn.now.drawing.picture.space = omega (arith, c.loop-cell-test.true, c.cells-cell-end.ensures) in
    subst (λ (k : ℕ). IsTrue (is_cell_state (leaf_of states (k + c.loop-cell.cell)))) (sym (c.first.ensures ∙ c.loop-cell.invariant.shown.place)) (c.requires.cells c.loop-cell.cell inside).1

pub emitted-requires-clause-within : goal.emitted-requires-clause-within
emitted-requires-clause-within g c =
    let inside : c.loop-cell.cell < cell_count c.args.drawn.now.drawing.picture.space = omega (arith, c.loop-cell-test.true, c.cells-cell-end.ensures) in
    omega (arith, (c.requires.cells c.loop-cell.cell inside).0, c.first.ensures, c.loop-cell.invariant.shown.place)

pub returns-in_err-value-clause-visits : goal.returns-in_err-value-clause-visits
returns-in_err-value-clause-visits g c =
    let states = (g.C.Cycles.standing c.args.run.now).state.leaf_states in
    let count = cell_count c.args.drawn.now.drawing.picture.space in
    let few : count ≤ length states = no_more_cells c.args.drawn.now.first count (length states) (λ cell lt. (c.requires.cells cell lt).0) in
    omega (arith, few, c.loop-cell-test.true, c.cells-cell-end.ensures, c.loop-cell.invariant.steps, c.emitted.ensures.visits)

pub preset-requires-clause-begun : goal.preset-requires-clause-begun
preset-requires-clause-begun g c = c.loop-cell.invariant.shown.begun

pub preset-requires-clause-inside : goal.preset-requires-clause-inside
preset-requires-clause-inside g c =
    let inside : c.loop-cell.cell < cell_count c.args.drawn.now.drawing.picture.space = omega (arith, c.loop-cell-test.true, c.cells-cell-end.ensures) in
    subst (λ (p : Picture). c.loop-cell.cell < cell_count p.space) (sym c.loop-cell.invariant.shown.picture) inside

pub loop-cell-preserved : goal.loop-cell-preserved
loop-cell-preserved g c =
    let states = (g.C.Cycles.standing c.args.run.now).state.leaf_states in
    let inside : c.loop-cell.cell < cell_count c.args.drawn.now.drawing.picture.space = omega (arith, c.loop-cell-test.true, c.cells-cell-end.ensures) in
    let first = ap (λ (k : ℕ). k + c.loop-cell.cell) c.first.ensures in
    record {
      shown = preset_next states c.args.drawn.now c.loop-cell.drawn c.preset.new.self c.loop-cell.cell c.in_ok-value.value c.loop-cell.invariant.shown inside
          (subst (λ (k : ℕ). c.in_ok-value.value ≡ given_by states k) first c.in_ok-value.ensures.value) c.preset.ensures;
      steps = omega (arith, c.loop-cell.invariant.steps, c.emitted.ensures.visits);
    }

pub returns-clause-shown : goal.returns-clause-shown
returns-clause-shown g c =
    let count = cell_count c.args.drawn.now.drawing.picture.space in
    let all : c.loop-cell.cell ≡ count = omega (arith, c.loop-cell-test.false, c.loop-cell.auto.cell-end, c.cells-cell-end.ensures) in
    preset_all (g.C.Cycles.standing c.args.run.now).state.leaf_states c.args.drawn.now c.loop-cell.drawn c.loop-cell.cell c.loop-cell.invariant.shown all

pub returns-clause-visits : goal.returns-clause-visits
returns-clause-visits g c =
    let states = (g.C.Cycles.standing c.args.run.now).state.leaf_states in
    let count = cell_count c.args.drawn.now.drawing.picture.space in
    let few : count ≤ length states = no_more_cells c.args.drawn.now.first count (length states) (λ cell lt. (c.requires.cells cell lt).0) in
    omega (arith, few, c.loop-cell.auto.cell-end, c.cells-cell-end.ensures, c.loop-cell.invariant.steps)
