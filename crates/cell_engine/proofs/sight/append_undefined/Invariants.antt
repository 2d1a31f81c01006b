use Rattle.std.proofs.Common.{◌≡◌, ◌+◌, ◌++◌, replicate, vec_len}
use Rattle.std.specs.Vec.{vec_capacity}
use Rattle.quantity.specs.declared.value.Value.TheVariants.{Undefined}
use Rattle.cell_engine.proofs.sight.append_undefined.Given as goal

abbrev pub invariant-loop-port : goal.invariant-loop-port
invariant-loop-port l = record {
  seen : l.seen.items ≡ l.fn.seen.items ++ replicate l._port Undefined;
  long : vec_len l.seen ≡ vec_len l.fn.seen + l._port;
  same : vec_capacity l.seen ≡ vec_capacity l.fn.seen;
}
