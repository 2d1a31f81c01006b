use Rattle.std.proofs.Common.{◌<◌, List, length, ◌++◌, sym, ◌∙◌, ap, subst, arith}
use Rattle.rule_eval.specs.declared.tally.Tally.{Tally}
use Rattle.std.proofs.lemmas.Result.{on_ok_weaker}
use Rattle.run_model.specs.CellStep.{cell_emitted, cell_output}
use Rattle.cell_table.specs.Told.{no_cell, cell_at}
use Rattle.cell_engine.specs.Cells.{Cells, with_cell_state}
use Rattle.cell_table.specs.Table.{Table}
use Rattle.cell_table.proofs.Changes.{changed-set, length-changed}
use Rattle.cell_engine.specs.Step.{near}
use Rattle.cell_engine.proofs.Ready.{ready_after}
use Rattle.cell_engine.proofs.Shown.{kept_where_kept}
use Rattle.cell_engine.proofs.store.CellStore.emit_into.Goals as goal

pub follow-requires : goal.follow-requires
follow-requires g c =
    let l = c.self.inside.plan in
    let tb = c.self.inside.table in
    let i = c.args.i in
    let given = c.emit_into-done.ensures.cell in
    let here : i < length tb.cells = omega (arith, c.requires.within, ap (λ (s : Cells). length s.cells) c.self.view_is) in
    let many = ap (λ (t : Table). length t.cells) given ∙ length-changed i (cell_emitted c.args.t) tb.cells in
    let cells = ap (λ (t : Table). t.cells) given ∙ changed-set i (cell_emitted c.args.t) no_cell tb.cells in
    record {
      cell = omega (arith, here, many);
      ready = ready_after l tb c.emit_into-done.new.self _ _ _ _ (ap (λ (t : Table). t.width) given) (ap (λ (t : Table). t.variables) given) many c.self.invariant.0;
      kept = kept_where_kept (near l) i (cell_emitted c.args.t (cell_at tb.cells i)) tb c.emit_into-done.new.self c.shown-before.result c.self.inside.tallies.items here cells
          (λ some. c.shown-before.ensures (subst (λ (ts : List Tally). 0 < length ts) (sym c.deref.ensures.value) some))
          c.self.invariant.1;
    }

pub invariant_of-self : goal.invariant_of-self
invariant_of-self g c = (c.follow.ensures.ready, c.follow.ensures.kept, c.self.invariant.2)

pub returns-clause-cells : goal.returns-clause-cells
returns-clause-cells g c =
    let cells = ap (λ (t : Table). t.cells) c.emit_into-done.ensures.cell ∙ changed-set c.args.i (cell_emitted c.args.t) no_cell c.self.inside.table.cells in
    (λ k. record { layout = c.self.inside.plan; cells = cells k }) ∙ ap (λ (s : Cells). with_cell_state s c.args.i (cell_emitted c.args.t (cell_at s.cells c.args.i))) c.self.view_is

pub returns-clause-given : goal.returns-clause-given
returns-clause-given g c =
    on_ok_weaker c.emit_into-done.result (λ put. put ∙ ap (λ (s : Cells). c.args.into.now.items ++ cell_output c.args.t (cell_at s.cells c.args.i)) c.self.view_is) c.emit_into-done.ensures.given
