use Rattle.std.proofs.Common.{◌≡◌, map, take}
use Rattle.cell_engine.specs.Step.{out_of}
use Rattle.cell_engine.proofs.sight.see_outs.Given as goal

abbrev pub invariant-loop-place : goal.invariant-loop-place
invariant-loop-place l = take l.place l.seen ≡ map (out_of l.emitted) (take l.place l.neighbours)
