use Rattle.tree_serve.proofs.Made.{waits-there}
use Rattle.tree_serve.proofs.parts.leaves_at_start.Goals as goal

pub start_times-requires : goal.start_times-requires
start_times-requires g c =
    let made = c.in_ok-leaves.ensures in
    waits-there c.args.model c.args.stock c.in_ok-leaves.leaves made.model made.settings made.states
