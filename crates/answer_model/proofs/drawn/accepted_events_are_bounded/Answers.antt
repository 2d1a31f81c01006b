use Rattle.answer_model.proofs.BoundedEvents.{events_are_bounded}
use Rattle.answer_model.proofs.drawn.accepted_events_are_bounded.Goals as goal

pub returns : goal.returns
returns c = events_are_bounded
