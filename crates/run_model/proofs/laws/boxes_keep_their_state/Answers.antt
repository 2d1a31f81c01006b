use Rattle.run_model.proofs.BoxesStay.{queues-stay, cpus-stay, counters-stay}
use Rattle.run_model.proofs.laws.boxes_keep_their_state.Goals as goal

pub returns-clause-queues : goal.returns-clause-queues
returns-clause-queues c = queues-stay

pub returns-clause-cpus : goal.returns-clause-cpus
returns-clause-cpus c = cpus-stay

pub returns-clause-counters : goal.returns-clause-counters
returns-clause-counters c = counters-stay
