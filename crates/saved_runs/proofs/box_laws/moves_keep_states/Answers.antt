use Rattle.saved_runs.proofs.AllClasses.{moves-keep}
use Rattle.saved_runs.proofs.box_laws.moves_keep_states.Goals as goal

pub returns : goal.returns
returns c = moves-keep c.boxes_keep_their_state.ensures.queues c.boxes_keep_their_state.ensures.cpus
    c.boxes_keep_their_state.ensures.counters
