use Rattle.std.proofs.Common.{◌≡◌, vec_len}
use Rattle.std.specs.Vec.{vec_capacity}
use Rattle.cell_reach.proofs.strides.set_len.Given as goal

abbrev pub invariant-loop-place : goal.invariant-loop-place
invariant-loop-place l = (vec_len l.into ≡ l._place) × (vec_capacity l.into ≡ vec_capacity l.fn.into)
