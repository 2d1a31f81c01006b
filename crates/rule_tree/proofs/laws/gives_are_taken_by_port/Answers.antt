use Rattle.rule_tree.proofs.Taken.{is_taken_by_port}
use Rattle.rule_tree.proofs.laws.gives_are_taken_by_port.Goals as goal

pub returns : goal.returns
returns g c = is_taken_by_port _
