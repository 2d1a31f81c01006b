use Rattle.run_model.proofs.ByPort.{takes-by-port}
use Rattle.run_model.proofs.laws.values_are_taken_by_port.Goals as goal

pub returns : goal.returns
returns c = takes-by-port
