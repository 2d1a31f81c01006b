use Rattle.std.proofs.Common.{◌≡◌, map, take}
use Rattle.cell_engine.specs.Step.{out_further}
use Rattle.cell_engine.proofs.sight.see_further.Given as goal

abbrev pub invariant-loop-place : goal.invariant-loop-place
invariant-loop-place l = take l.place l.seen ≡ map (out_further l.emitted l.cell) (take l.place l.differences)
