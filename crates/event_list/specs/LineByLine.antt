-- Private: a file, line by line.
use Rattle.std.specs.Prelude.{◌≡◌, ℕ, not, List, [], ◌∷◌, map}
use Rattle.std.specs.List.{enumerate_from, filter, filter_map, slice_split}
use Rattle.std.specs.Result.{result_ok}
use Rattle.std.specs.declared.result.Result.TheVariants.{Err}
use Rattle.quantity.specs.Bytes.{Bytes, is_byte, is_empty}
use Rattle.source_text.specs.Lines.{Line, text_of_line}
use Rattle.event_list.specs.Events.{Event, event_at, event_of_words}
use Rattle.event_list.specs.declared.refusal.EventRefusal.TheVariants.{BadEventLine}

-- the lines of these pieces that are filled, where the first has this number
abbrev pub filled_from : ℕ → List Bytes → List Line
filled_from number pieces =
    filter (λ (l : Line). not (is_empty l.text)) (map (λ (p : ℕ × Bytes). record {
      number = p.0;
      text = text_of_line p.1;
    }) (enumerate_from number pieces))

-- this line, unless it is empty
abbrev pub filled_line : ℕ → Bytes → List Line
filled_line number piece = filled_from number (piece ∷ [])

-- the lines that are left, numbered from here
abbrev pub lines_left : ℕ → Bytes → List Line
lines_left number bytes = filled_from number (slice_split (is_byte 10) bytes)

-- the events of lines
abbrev pub events_in : List Bytes → List Line → List Event
events_in ports lines = filter_map (λ l. result_ok (event_at ports l)) lines

-- these words are no event, for any inputs and at any line
abbrev pub AreNoEvent : List Bytes → Type 0
AreNoEvent texts =
    (ports : List Bytes) (line : ℕ) → event_of_words ports line texts ≡ Err (BadEventLine line)
