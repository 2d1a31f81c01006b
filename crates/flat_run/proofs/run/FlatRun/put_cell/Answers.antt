use Rattle.std.proofs.Common.{◌≡◌, ◌∙◌, None, map, sym, ap, subst, arith}
use Rattle.std.specs.Prelude.{slice_set}
use Rattle.run_model.specs.CellStep.{CellState, cell_next, next_of_ports}
use Rattle.run_model.specs.Cycle.{cell_state}
use Rattle.run_model.specs.Fitting.{Fits, OfLeaf}
use Rattle.cell_table.specs.Saved.{port_of_saved, cell_of_saved}
use Rattle.run_leaves.specs.Standing.{Standing, tree_in}
use Rattle.flat_run.specs.Running.{tree_by}
use Rattle.flat_run.proofs.Turning.{waiting-counted}
use Rattle.flat_run.proofs.Putting.{fits-within, put-holds}
use Rattle.flat_run.proofs.run.FlatRun.put_cell.Goals as goal

pub set_next-requires : goal.set_next-requires
set_next-requires g c =
    let i = c.self.inside in
    let x : CellState = cell_of_saved c.args.state.now in
    let fits : OfLeaf (tree_by i.parts.leaves) c.args.leaf (λ a. Fits a (cell_state x)) =
    subst (λ (s : Standing). OfLeaf (tree_in s) c.args.leaf (λ a. Fits a (cell_state x))) (sym c.self.view_is) c.requires.state.fits
    in
    let none : i.stopped ≡ None = ap (λ (s : Standing). s.stopped) c.self.view_is ∙ c.requires.fresh.1 in
    let many = waiting-counted (tree_by i.parts.leaves) i.parts.leaves (g.Q.TimeQueue.waiting i.queue) i.parts.work.woken i.parts.work.touched (c.self.invariant.goes_on none) in
    let lt = fits-within (tree_by i.parts.leaves) c.args.leaf (cell_state x) fits in
    omega (arith, many, lt)

pub invariant_of-self-2 : goal.invariant_of-self-2
invariant_of-self-2 g c =
    let i = c.self.inside in
    let x : CellState = cell_of_saved c.args.state.now in
    let fits : OfLeaf (tree_by i.parts.leaves) c.args.leaf (λ a. Fits a (cell_state x)) =
    subst (λ (s : Standing). OfLeaf (tree_in s) c.args.leaf (λ a. Fits a (cell_state x))) (sym c.self.view_is) c.requires.state.fits
    in
    let next : c.least_time.result ≡ cell_next x = c.least_time.ensures ∙ ap (λ ps. next_of_ports (map port_of_saved ps)) c.deref.ensures.value in
    put-holds i.parts.leaves c.put_cell.new.self i.routes i.parts.watchers i.events (g.Q.TimeQueue.waiting i.queue) (g.Q.TimeQueue.waiting c.set_next.new.queue) i.parts.work.woken i.parts.work.touched _ _ i.end i.limit i.count i.stopped
    c.args.leaf (cell_state x) c.self.invariant fits c.in_ok-put_cell.ensures.ok
    (c.set_next.ensures ∙ ap (slice_set (g.Q.TimeQueue.waiting i.queue) c.args.leaf) next)
