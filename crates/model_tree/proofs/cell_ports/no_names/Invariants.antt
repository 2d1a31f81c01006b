use Rattle.std.proofs.Common.{◌≡◌, map}
use Rattle.model_tree.specs.CellPorts.{none_each}
use Rattle.model_tree.proofs.cell_ports.no_names.Given as goal

abbrev pub invariant-loop-cell : goal.invariant-loop-cell
invariant-loop-cell l = map (λ v. v.items) l.all.items ≡ none_each l._cell
