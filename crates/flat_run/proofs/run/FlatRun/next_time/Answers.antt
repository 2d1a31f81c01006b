use Rattle.std.proofs.Common.{◌≡◌, ◌∙◌, ap}
use Rattle.time_queue.specs.Waiting.{least_time}
use Rattle.quantity.specs.Times.{earlier}
use Rattle.run_model.specs.Cycle.{next_of_all}
use Rattle.run_model.specs.Run.{first_event, next_instant}
use Rattle.run_leaves.specs.Standing.{Standing}
use Rattle.flat_run.proofs.Instants.{first-event-of}
use Rattle.flat_run.proofs.run.FlatRun.next_time.Goals as goal

pub returns : goal.returns
returns g c =
    let states = c.self.inside.parts.leaves.states in
    let goes = c.self.invariant.goes_on (ap (λ (s : Standing). s.stopped) c.self.view_is ∙ c.requires) in
    let leaf : c.least.result ≡ next_of_all states = c.least.ensures ∙ ap least_time goes.queue ∙ c.leaves_move_one_after_another.ensures.queue.least states in
    let event : c.next.result ≡ first_event c.self.inside.events = first-event-of c.self.inside.events c.next.result c.next.ensures.value c.next.ensures.least in
    c.earlier.ensures ∙ (λ i. earlier (leaf i) (event i)) ∙ ap (λ (s : Standing). next_instant s.state) c.self.view_is
