-- Private: the settings and the state of a table, as the classes' table names them.
use Rattle.std.specs.Prelude.{ℕ, ◌==◌, ◌&&◌, ◌||◌, Bool, Option, Some, None, map, ℤ, pos}
use Rattle.quantity.specs.declared.value.Value.{Value}
use Rattle.atomic_face.specs.declared.class.PortNo.{PortNo}
use Rattle.atomic_face.specs.Words.{word_of}
use Rattle.atomic_face.specs.DueWords.{word_or_none}
use Rattle.atomic_face.specs.TableSettings.{any_word}
use Rattle.atomic_face.specs.StateTable.{no_hold, same_word, Hold as PlainHold, Take as PlainTake, TableSettings as PlainSettings, TableState as PlainState}
use Rattle.state_tables.specs.declared.settings.Hold.{Hold}
use Rattle.state_tables.specs.declared.settings.Take.{Take}
use Rattle.state_tables.specs.declared.settings.TableSettings.{TableSettings}
use Rattle.state_tables.specs.declared.moves.Standing.{Standing}
use Rattle.state_tables.specs.Settings.{shown_word, wanted_word}

-- a hold in code as one of the definitions
abbrev pub plain_hold : Option Hold → PlainHold
plain_hold None = no_hold
plain_hold (Some h) = record { time = pos h.time; value = shown_word h.shown; next = h.next }

-- a take in code as one of the definitions
abbrev pub plain_take : Take → PlainTake
plain_take t =
    record { state = t.state; port = t.port.0; match = wanted_word t.wanted; next = t.next }

-- settings in code as those of the definitions
abbrev pub plain_settings : TableSettings → PlainSettings
plain_settings s = record {
  initial = s.initial;
  holds = map plain_hold s.holds.items;
  takes = map plain_take s.takes.items;
}

-- a state in code as one of the definitions
abbrev pub plain_state : Standing → PlainState
plain_state s = record { state = s.state; due = word_or_none s.due; last = word_of s.last }

-- a value that is wanted is the one that comes, or any
abbrev pub is_met : ℤ → ℤ → Bool
is_met wanted word = same_word wanted any_word || same_word wanted word

-- an entry of this state and port, whose value is the one that comes, or any
abbrev pub leads : ℕ → PortNo × Value → Take → Bool
leads state i t =
    (t.state == state) && (t.port.0 == i.0.0) && is_met (wanted_word t.wanted) (word_of i.1)
