use Rattle.std.proofs.Common.{◌<◌, length, ap, arith}
use Rattle.std.proofs.lemmas.List.{length-map}
use Rattle.cell_table.specs.Saved.{port_of_saved, cell_of_saved}
use Rattle.cell_engine.specs.Cells.{Cells}
use Rattle.cell_engine.specs.Step.{near}
use Rattle.cell_engine.proofs.Put.{put_ready, put_ok, put_err}
use Rattle.cell_engine.proofs.Shown.{kept_put}
use Rattle.cell_engine.proofs.store.CellStore.put.Goals as goal

pub put-done-requires : goal.put-done-requires
put-done-requires c =
    record {
      cell = omega (arith, c.requires.within, ap (λ (s : Cells). length s.cells) c.self.view_is);
      ports = omega (arith, length-map c.args.state.now.ports.items port_of_saved, c.requires.state.ports, ap (λ (s : Cells). s.layout.ports) c.self.view_is, c.self.invariant.0.width);
      variables = omega (arith, c.requires.state.variables, ap (λ (s : Cells). s.layout.variables) c.self.view_is, c.self.invariant.0.variables);
      rising = c.requires.state.rising;
    }

pub follow-requires : goal.follow-requires
follow-requires c =
    let l = c.self.inside.plan in
    let tb = c.self.inside.table in
    let i = c.args.i in
    let put = c.put-done.ensures in
    let state = cell_of_saved c.args.state.now in
    let here : i < length tb.cells = omega (arith, c.requires.within, ap (λ (s : Cells). length s.cells) c.self.view_is) in
    let standing = put_ready i state tb c.put-done.new.self c.put-done.result l _ _ _ _ put.ok put.err c.self.invariant.0 in
    record {
      cell = omega (arith, here, standing.cells, c.self.invariant.0.cells);
      ready = standing;
      kept = kept_put c.put-done.result (near l) i state tb c.put-done.new.self c.emitted-before.result c.self.inside.tallies.items here c.emitted-before.ensures put.ok put.err c.self.invariant.1;
    }

pub invariant_of-self : goal.invariant_of-self
invariant_of-self c = (c.follow.ensures.ready, c.follow.ensures.kept, c.self.invariant.2)

pub returns : goal.returns
returns c =
    record {
      ok = put_ok c.args.i (cell_of_saved c.args.state.now) c.self.inside.plan c.self.inside.table c.put-done.new.self c.args.self.now c.put-done.result c.self.view_is c.put-done.ensures.ok;
      err = put_err c.self.inside.plan c.self.inside.table c.put-done.new.self c.args.self.now c.put-done.result c.self.view_is c.put-done.ensures.err;
    }
