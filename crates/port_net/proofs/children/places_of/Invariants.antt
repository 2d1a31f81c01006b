use Rattle.port_net.proofs.Called.{AreLed}
use Rattle.port_net.proofs.children.places_of.Given as goal

abbrev pub invariant-loop-i : goal.invariant-loop-i
invariant-loop-i l = AreLed l.places.entries l.children l.i
