use Rattle.std.proofs.Common.{refl}
use Rattle.event_list.specs.Events.{events_of}
use Rattle.event_list.proofs.laws.events_are_refused.Goals as goal

pub returns : goal.returns
unfolding events_of
returns c =
    record { no_input = refl; no_time = refl; no_value = refl; no_name = refl; one_word_more = refl; no_number = refl; value_before_input = refl; first_line = refl; one_too_many = refl; just_enough = refl }
