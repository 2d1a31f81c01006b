-- The class table, whose states and moves its parameters name (TableSettings.antt), over the
-- settings [states, initial, a time, value and next of each state, then a state, port, match and
-- next of each take] and the state [state, due, last].
use Rattle.std.specs.Prelude.{ℕ, zero, suc, ◌+◌, ◌*◌, ◌==◌, Bool, false, not, ◌&&◌, ◌||◌, nat_lt}
use Rattle.std.specs.Prelude.{Option, Some, None, List, [], ◌∷◌, drop, slice_get}
use Rattle.std.specs.Prelude.{ℤ, pos, negsuc, ◌-ℤ◌, unsigned_abs, if◌then◌else◌, codes}
use Rattle.std.specs.List.{find, fold}
use Rattle.std.specs.Option.{unwrap_or}
use Rattle.quantity.specs.declared.value.Value.{Value}
use Rattle.quantity.specs.declared.value.Value.TheVariants.{Undefined}
use Rattle.atomic_face.specs.declared.class.PortNo.{PortNo}
use Rattle.atomic_face.specs.Words.{no_time, time_of_word, word_of, value_of_word, natural_in}
use Rattle.atomic_face.specs.Words.{is_none_word, is_due_if, is_value_word}
use Rattle.atomic_face.specs.Bags.{Bag, outputs, is_at}
use Rattle.atomic_face.specs.TableSettings.{any_word, table_ports, table_once_keys}
use Rattle.atomic_face.specs.TableSettings.{table_settings_of, table_lines_off}
use Rattle.atomic_face.specs.ClassRules.{ClassRules}

-- ---- settings and state

-- how long a state lasts or none, the value that it then gives, and the state that follows
pub record Hold : Type 0 where
  pub time : ℤ
  pub value : ℤ
  pub next : ℕ

-- in a state, at a port, a value that matches: the state that follows
pub record Take : Type 0 where
  pub state : ℕ
  pub port : ℕ
  pub match : ℤ
  pub next : ℕ

-- the first state, a hold for each state, and the takes in order
pub record TableSettings : Type 0 where
  pub initial : ℕ
  pub holds : List Hold
  pub takes : List Take

-- the holds of so many states
abbrev pub holds_in : ℕ → List ℤ → List Hold
holds_in zero ws = []
holds_in (suc n) (t ∷ v ∷ k ∷ ws) =
    record { time = t; value = v; next = natural_in k } ∷ holds_in n ws
holds_in (suc n) ws = []

-- the take that four numbers are
abbrev pub take_at : ℤ → ℤ → ℤ → ℤ → Take
take_at s p m k =
    record { state = natural_in s; port = natural_in p; match = m; next = natural_in k }

-- the takes, to the end of the numbers
abbrev pub takes_in : List ℤ → List Take
takes_in (s ∷ p ∷ m ∷ k ∷ ws) = take_at s p m k ∷ takes_in ws
takes_in ws = []

-- the settings that these numbers are
abbrev pub table_settings : List ℤ → TableSettings
table_settings (n ∷ i ∷ ws) =
    record {
      initial = natural_in i;
      holds = holds_in (natural_in n) ws;
      takes = takes_in (drop (3 * natural_in n) ws);
    }
table_settings ws = record { initial = 0; holds = []; takes = [] }

-- the state, when its hold ends or none, and the value that came last
pub record TableState : Type 0 where
  pub state : ℕ
  pub due : ℤ
  pub last : ℤ

-- the state that these numbers are
abbrev pub table_state : List ℤ → TableState
table_state (s ∷ d ∷ l ∷ ws) = record { state = natural_in s; due = d; last = l }
table_state ws = record { state = 0; due = no_time; last = word_of Undefined }

-- the numbers of a state
abbrev pub table_words : TableState → List ℤ
table_words s = pos s.state ∷ s.due ∷ s.last ∷ []

-- ---- which words are a state

-- the number at a place
abbrev pub word_at : List ℤ → ℕ → ℤ
word_at ws k = unwrap_or (slice_get ws k) no_time

-- whether a state ends by itself
abbrev pub has_hold : List ℤ → ℕ → Bool
has_hold settings state = not (is_none_word (word_at settings (2 + 3 * state)))

-- the number of one of the states
abbrev pub is_below : List ℤ → ℤ → Bool
is_below settings (pos n) = nat_lt n (natural_in (word_at settings 0))
is_below settings (negsuc n) = false

-- a state, a time where it has a hold, and the value that came last
abbrev pub is_table : List ℤ → List ℤ → Bool
is_table settings (state ∷ due ∷ last ∷ []) =
    is_below settings state && is_due_if (has_hold settings (natural_in state)) due
    && is_value_word last
is_table settings ws = false

-- ---- moves

-- a state that does not end by itself
abbrev pub no_hold : Hold
no_hold = record { time = no_time; value = pos 0; next = 0 }

-- the hold of a state
abbrev pub hold_of : TableSettings → ℕ → Hold
hold_of t state = unwrap_or (slice_get t.holds state) no_hold

-- this much later, or none
abbrev pub due_after : ℕ → Option ℕ → ℤ
due_after now None = no_time
due_after now (Some time) = pos (now + time)

-- a state that is entered is due after its hold
abbrev pub state_on_entry : TableSettings → ℕ → ℤ → ℕ → TableState
state_on_entry t now last state =
    record { state = state; due = due_after now (time_of_word (hold_of t state).time); last = last }

-- the same number
abbrev pub same_word : ℤ → ℤ → Bool
same_word a b = unsigned_abs (a -ℤ b) == 0

-- the take is of this state and port, and its value is this one or any
abbrev pub takes : TableState → ℕ → ℤ → Take → Bool
takes s port word k =
    (k.state == s.state) && (k.port == port)
    && (same_word k.match any_word || same_word k.match word)

-- a take leads on to its state; without one only the last value changes
abbrev pub state_after_take : TableSettings → ℕ → TableState → ℤ → Option Take → TableState
state_after_take t now s word None = record s { last = word }
state_after_take t now s word (Some k) = state_on_entry t now word k.next

-- the first entry of the state and port that matches leads on
abbrev pub table_input : TableSettings → ℕ → TableState → PortNo × Value → TableState
table_input t now s i =
    state_after_take t now s (word_of i.1) (find (takes s i.0.0 (word_of i.1)) t.takes)

-- where a hold ends now, the state that follows it is entered
abbrev pub table_internal : TableSettings → ℕ → TableState → TableState
table_internal t now s =
    if is_at now (time_of_word s.due) then state_on_entry t now s.last
    (hold_of t s.state).next else s

-- the end of a hold where it is now, and then the inputs
abbrev pub table_moved : TableSettings → ℕ → TableState → Bag → TableState
table_moved t now s bag = fold (table_input t now) (table_internal t now s) bag

-- the value of a hold, or the last value where it says so
abbrev pub held_value : TableState → Hold → Value
held_value s h = value_of_word (if same_word h.value any_word then s.last else h.value)

-- the value of the hold of a state
abbrev pub table_output : TableSettings → TableState → Bag
table_output t s = outputs (held_value s (hold_of t s.state) ∷ [])

-- the state after a move at a time
abbrev pub table_after : List ℤ → List ℤ → ℕ → Bag → List ℤ
table_after settings state now bag =
    table_words (table_moved (table_settings settings) now (table_state state) bag)

-- the first state, entered at 0
abbrev pub table_start : TableSettings → TableState
table_start t = state_on_entry t 0 (word_of Undefined) t.initial

-- a table
abbrev pub table_rules : ClassRules
table_rules = record {
  name = codes "table";
  inputs = table_ports;
  once_keys = table_once_keys;
  settings = table_settings_of;
  lines_off = table_lines_off;
  start = λ settings. table_words (table_start (table_settings settings));
  next = λ state. time_of_word (table_state state).due;
  output = λ settings state. table_output (table_settings settings) (table_state state);
  moved = λ settings state now bag. Some (table_after settings state now bag);
  is_state = is_table;
}
