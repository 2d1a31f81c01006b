use Rattle.model_leaves.specs.LeafTexts.{in_ports}
use Rattle.run_leaves.proofs.Bagged.{no_names, names_are}
use Rattle.run_leaves.proofs.names.names_for.Goals as goal

pub returns-then-is_empty : goal.returns-then-is_empty
returns-then-is_empty c = λ settings l is.
    no_names c.args.bag.now c.is_empty.result _ (in_ports l) c.is_empty.ensures c.if-is_empty.true

pub returns-else-is_empty : goal.returns-else-is_empty
returns-else-is_empty c = λ settings l is.
    names_are c.args.bag.now c.ports_at.result.now (in_ports l) (c.ports_at.ensures settings l is)
