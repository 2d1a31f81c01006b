use Rattle.std.proofs.Common.{◌≡◌, take}
use Rattle.port_net.specs.Outside.{leaves_of}
use Rattle.port_net.proofs.outputs.total.Given as goal

abbrev pub invariant-loop-out : goal.invariant-loop-out
invariant-loop-out l = l.all ≡ leaves_of (take l.out-index l.outs)
