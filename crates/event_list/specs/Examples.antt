-- Event files that are read and refused.
use Rattle.std.specs.Prelude.{◌≡◌, ℕ, ◌*◌, Some, None, List, [], ◌∷◌, ◌++◌, pos, codes}
use Rattle.std.specs.declared.result.Result.TheVariants.{Ok, Err}
use Rattle.quantity.specs.declared.bounds.TheConstants.{MAX_EVENTS}
use Rattle.quantity.specs.declared.value.Value.TheVariants.{Undefined, Num}
use Rattle.quantity.specs.Bytes.{Bytes}
use Rattle.source_text.specs.Lines.{file}
use Rattle.event_list.specs.declared.refusal.EventRefusal.{EventRefusal}
use Rattle.event_list.specs.declared.refusal.EventRefusal.TheVariants.{BadEventLine, UnknownPort, TooLarge}
use Rattle.event_list.specs.Events.{Event, event_refused, events_of}

-- of a whole value at the first input
abbrev pub event : ℕ → ℕ → Event
event t v = record { time = t; port = 0; value = Num (pos (v * 100000)) }

abbrev pub reads : List Bytes → List Event → Type 0
reads ls events = events_of (file ls) (codes "p" ∷ codes "q" ∷ []) ≡ Ok events

abbrev pub refuses : List Bytes → EventRefusal → Type 0
refuses ls r = events_of (file ls) (codes "p" ∷ codes "q" ∷ []) ≡ Err r

pub record EventsAreRead : Type 0 where
  pub nothing : reads ([] ∷ codes "% no event" ∷ []) []
  pub in_order : reads (codes "00:00:00:050 p 2" ∷ codes "00:00:00:010 P 1"
      ∷ codes "00:00:00:050 p 3" ∷ codes "00:00:00:051 p 4" ∷ [])
      (event 10 1 ∷ event 50 2 ∷ event 50 3 ∷ event 51 4 ∷ [])
  pub second_input : reads (codes " 0:0:0:1\tq ?  % undefined" ∷ [])
      (record { time = 1; port = 1; value = Undefined } ∷ [])
  pub hours : reads (codes "1:2:3:4 p 9" ∷ []) (event 3723004 9 ∷ [])
  pub behind_a_return : reads ([] ∷ codes "\t" ∷ (codes "0:0:0:5 P 9" ++ 13 ∷ []) ∷ [])
      (event 5 9 ∷ [])

pub record EventsAreRefused : Type 0 where
  pub no_input : refuses (codes "00:00:00:010 r 1" ∷ []) (UnknownPort 1)
  pub no_time : refuses (codes "00:60:00:000 p 1" ∷ []) (BadEventLine 1)
  pub no_value : refuses (codes "00:00:00:000 p" ∷ []) (BadEventLine 1)
  pub no_name : refuses (codes "00:00:00:000 r@s 1" ∷ []) (BadEventLine 1)
  pub one_word_more : refuses (codes "0:0:0:0 p 1 2" ∷ []) (BadEventLine 1)
  pub no_number : refuses (codes "0:0:0:0 p x" ∷ []) (BadEventLine 1)
  pub value_before_input : refuses (codes "0:0:0:0 r x" ∷ []) (BadEventLine 1)
  pub first_line : refuses ([] ∷ codes "00:00:00:000 r 1" ∷ codes "x" ∷ []) (UnknownPort 2)
  pub one_too_many : event_refused MAX_EVENTS 7 (Ok (event 0 0)) ≡ Some (TooLarge 7)
  pub just_enough : event_refused 1048575 7 (Ok (event 0 0)) ≡ None
