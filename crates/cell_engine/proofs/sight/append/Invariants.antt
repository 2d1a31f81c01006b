use Rattle.std.proofs.Common.{◌≡◌, ◌+◌, ◌++◌, take, vec_len}
use Rattle.std.specs.Vec.{vec_capacity}
use Rattle.cell_engine.proofs.sight.append.Given as goal

abbrev pub invariant-loop-value : goal.invariant-loop-value
invariant-loop-value l = record {
  seen : l.seen.items ≡ l.fn.seen.items ++ take l.value-index l.values;
  long : vec_len l.seen ≡ vec_len l.fn.seen + l.value-index;
  same : vec_capacity l.seen ≡ vec_capacity l.fn.seen;
}
