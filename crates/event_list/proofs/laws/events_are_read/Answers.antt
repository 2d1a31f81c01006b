use Rattle.std.proofs.Common.{refl}
use Rattle.event_list.specs.Events.{events_of}
use Rattle.event_list.proofs.laws.events_are_read.Goals as goal

pub returns : goal.returns
unfolding events_of
returns c = record { nothing = refl; in_order = refl; second_input = refl; hours = refl; behind_a_return = refl }
