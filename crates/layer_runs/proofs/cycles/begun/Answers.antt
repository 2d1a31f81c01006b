use Rattle.std.proofs.Common.{List, sym, subst}
use Rattle.event_list.specs.Events.{Event}
use Rattle.flat_run.specs.Changes.{StartsFrom}
use Rattle.layer_runs.proofs.Starting.{starts}
use Rattle.layer_runs.proofs.cycles.begun.Goals as goal

pub new-requires-clause-starts : goal.new-requires-clause-starts
new-requires-clause-starts c =
    subst (λ (events : List Event). StartsFrom c.args.model c.args.stock c.args.routes events c.in-Ok.queue) (sym c.none-none.ensures)
    (starts c.args.stock c.args.model c.args.routes c.leaves.result c.in-Ok.queue c.requires.ready c.leaves.ensures c.in-Ok.ensures)
