use Rattle.answer_model.proofs.BoundedEvents.{events_are_at_ports}
use Rattle.answer_model.proofs.drawn.accepted_events_are_at_ports.Goals as goal

pub returns : goal.returns
returns c = events_are_at_ports
