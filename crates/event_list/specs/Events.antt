-- Event files: lines of a time, an input of top and a value.
use Rattle.std.specs.Prelude.{ℕ, ◌+◌, Bool, true, nat_le, nat_lt, Option, Some, None, List, [], ◌∷◌, length, if◌then◌else◌}
use Rattle.std.specs.declared.result.Result.{Result}
use Rattle.std.specs.declared.result.Result.TheVariants.{Ok, Err}
use Rattle.std.specs.List.{filter_map, position}
use Rattle.std.specs.Option.{option_or}
use Rattle.std.specs.Result.{result_ok}
use Rattle.std.specs.Str.{bytes_eq}
use Rattle.quantity.specs.declared.bounds.TheConstants.{MAX_EVENTS, MAX_FILE_BYTES}
use Rattle.quantity.specs.declared.value.Value.{Value}
use Rattle.quantity.specs.Bytes.{Bytes, words}
use Rattle.quantity.specs.Names.{is_name}
use Rattle.quantity.specs.Times.{time_in}
use Rattle.quantity.specs.Literals.{value_in}
use Rattle.source_text.specs.Lines.{Line, filled_lines, in_lower_case}
use Rattle.event_list.specs.declared.refusal.EventRefusal.{EventRefusal}
use Rattle.event_list.specs.declared.refusal.EventRefusal.TheVariants.{BadEventLine, UnknownPort, TooLarge}

-- a value at an input of top, which has this number
pub record Event : Type 0 where
  pub time : ℕ
  pub port : ℕ
  pub value : Value

-- ---- lines

-- the event of a line's words, or its refusal
abbrev pub event_of : ℕ → Option ℕ → Option Value → Bool → Option ℕ → Result Event EventRefusal
event_of line (Some t) (Some v) true (Some port) = Ok (record { time = t; port = port; value = v })
event_of line (Some t) (Some v) true None = Err (UnknownPort line)
event_of line t v is_right port = Err (BadEventLine line)

-- the same, of three words
abbrev pub event_of_words : List Bytes → ℕ → List Bytes → Result Event EventRefusal
event_of_words ports line (time ∷ name ∷ value ∷ []) =
    event_of line (time_in time) (value_in value) (is_name (in_lower_case name))
    (position (bytes_eq (in_lower_case name)) ports)
event_of_words ports line texts = Err (BadEventLine line)

-- the event of a line
abbrev pub event_at : List Bytes → Line → Result Event EventRefusal
event_at ports l = event_of_words ports l.number (words l.text)

-- ---- refusals

-- a line is refused by itself, or as one event too many
abbrev pub event_refused : ℕ → ℕ → Result Event EventRefusal → Option EventRefusal
event_refused before line (Ok e) = if nat_le MAX_EVENTS before then Some (TooLarge line) else None
event_refused before line (Err r) = Some r

-- the first line that is refused, after so many events
abbrev pub events_refused : List Bytes → ℕ → List Line → Option EventRefusal
events_refused ports before [] = None
events_refused ports before (l ∷ ls) =
    option_or (event_refused before l.number (event_at ports l))
    (events_refused ports (before + 1) ls)

-- why an event file is refused
abbrev pub file_refused : List Bytes → Bytes → Option EventRefusal
file_refused ports bytes =
    if nat_lt MAX_FILE_BYTES (length bytes) then Some (TooLarge 0)
    else events_refused ports 0 (filled_lines bytes)

-- ---- in order of time, and at one time in order of the file

-- before all events that aren't earlier
abbrev pub put_event : Event → List Event → List Event
put_event e [] = e ∷ []
put_event e (x ∷ xs) = if nat_le e.time x.time then e ∷ x ∷ xs else x ∷ put_event e xs

-- the events in order of time, those of one time as they stand
abbrev pub by_time : List Event → List Event
by_time [] = []
by_time (e ∷ es) = put_event e (by_time es)

-- the events of a file for these inputs of top, or its first refused line
unfoldable pub events_of : Bytes → List Bytes → Result (List Event) EventRefusal
events_of bytes ports = given (file_refused ports bytes)
  where
    given : Option EventRefusal → Result (List Event) EventRefusal
    given None = Ok (by_time (filter_map (λ l. result_ok (event_at ports l)) (filled_lines bytes)))
    given (Some r) = Err r
