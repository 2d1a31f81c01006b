use Rattle.std.proofs.Common.{◌≡◌, map, take}
use Rattle.cell_grid.specs.Watched.{opposite}
use Rattle.cell_reach.proofs.reach.Reach.new.Given as goal

abbrev pub invariant-loop-offset : goal.invariant-loop-offset
invariant-loop-offset l = record {
  ahead_space : l.ahead.space ≡ l.fn.grid;
  back_space : l.back.space ≡ l.fn.grid;
  ahead : l.ahead.offsets ≡ take l.offset-index l.offsets;
  back : l.back.offsets ≡ map opposite (take l.offset-index l.offsets);
}
