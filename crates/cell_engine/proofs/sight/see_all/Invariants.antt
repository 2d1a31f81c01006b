use Rattle.std.proofs.Common.{◌≡◌, ◌*◌, take, vec_len}
use Rattle.std.specs.List.{flat_map}
use Rattle.std.specs.Vec.{vec_capacity}
use Rattle.cell_engine.specs.Step.{given_by}
use Rattle.cell_engine.proofs.sight.see_all.Given as goal

abbrev pub invariant-loop-neighbour : goal.invariant-loop-neighbour
invariant-loop-neighbour l = record {
  seen : l.seen.items ≡ flat_map (given_by l.table) (take l.neighbour-index l.neighbours);
  long : vec_len l.seen ≡ l.neighbour-index * l.table.width;
  same : vec_capacity l.seen ≡ vec_capacity l.fn.seen;
}
