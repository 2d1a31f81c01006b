use Rattle.std.proofs.Common.{◌≡◌, ◌≤◌, length, take, vec_len}
use Rattle.std.specs.List.{filter_map}
use Rattle.std.specs.Vec.{vec_capacity}
use Rattle.cell_grid.proofs.Watching.{watcher}
use Rattle.cell_grid.proofs.grid.Grid.watchers.Given as goal

abbrev pub invariant-loop-offset : goal.invariant-loop-offset
invariant-loop-offset l = record {
  found : l.into.items ≡ filter_map (watcher l.self l.cell) (take l.offset-index l.offsets);
  few : vec_len l.into ≤ l.offset-index;
  room : length l.offsets ≤ vec_capacity l.into;
}
