-- The class queue, over the settings [preparation] and the state [phase, due, the waiting values].
use Rattle.std.specs.Prelude.{ℕ, zero, suc, ◌+◌, ◌==◌, ◌&&◌, Bool, true, false, nat_lt}
use Rattle.std.specs.Prelude.{Option, Some, None}
use Rattle.std.specs.Prelude.{List, [], ◌∷◌, ◌++◌, length, ℤ, pos, negsuc, if◌then◌else◌, codes}
use Rattle.quantity.specs.declared.value.Value.{Value}
use Rattle.quantity.specs.Bytes.{is_empty}
use Rattle.atomic_face.specs.declared.class.PortNo.{PortNo}
use Rattle.atomic_face.specs.Words.{no_time, time_of_word, word_of, value_of_word, natural_in}
use Rattle.atomic_face.specs.Words.{is_number, is_due_if, are_values}
use Rattle.atomic_face.specs.Bags.{Bag, outputs, is_at}
use Rattle.atomic_face.specs.Parameters.{Parameter, parameter, time_word, time_setting}
use Rattle.atomic_face.specs.Parameters.{keys_of, settings_by, lines_off_by}
use Rattle.atomic_face.specs.ClassRules.{ClassRules}

-- idle (0), preparing (1) or waiting to be done (2); when its preparation ends; the values that
-- wait, the first of them at the front
pub record QueueState : Type 0 where
  pub phase : ℕ
  pub due : ℤ
  pub waiting : List ℤ

-- the state that these numbers are
abbrev pub queue_state : List ℤ → QueueState
queue_state (p ∷ d ∷ ws) = record { phase = natural_in p; due = d; waiting = ws }
queue_state ws = record { phase = 0; due = no_time; waiting = [] }

-- the numbers of a state
abbrev pub queue_words : QueueState → List ℤ
queue_words q = pos q.phase ∷ q.due ∷ q.waiting

-- idle has no value, preparing at least one
abbrev pub is_waiting : ℤ → List ℤ → Bool
is_waiting (pos zero) ws = length ws == 0
is_waiting (pos (suc zero)) ws = nat_lt 0 (length ws)
is_waiting w ws = is_number 2 w

-- this number is 1
abbrev pub is_one : ℤ → Bool
is_one (pos n) = n == 1
is_one (negsuc n) = false

-- a phase, a time where it prepares, and the waiting values
abbrev pub is_queue : List ℤ → Bool
is_queue (phase ∷ due ∷ waiting) =
    is_due_if (is_one phase) due && is_waiting phase waiting && are_values waiting
is_queue ws = false

-- all but the first
abbrev pub all_but_first : List ℤ → List ℤ
all_but_first [] = []
all_but_first (w ∷ ws) = ws

-- the first value has left, and the queue waits to be done with it
abbrev pub queue_internal : QueueState → QueueState
queue_internal q = record { phase = 2; due = no_time; waiting = all_but_first q.waiting }

-- a value at in waits behind the others; done ends the wait, and nothing else
abbrev pub queue_input : QueueState → PortNo × Value → QueueState
queue_input q i =
    if i.0.0 == 0
    then record q { waiting = q.waiting ++ word_of i.1 ∷ [] }
    else record q { phase = if q.phase == 2 then 0 else q.phase }

-- all inputs, one after another
abbrev pub queue_inputs : QueueState → Bag → QueueState
queue_inputs q [] = q
queue_inputs q (i ∷ is) = queue_inputs (queue_input q i) is

-- an idle queue with a value that waits prepares from now on
abbrev pub queue_closing : ℕ → ℕ → QueueState → QueueState
queue_closing preparation now q =
    if q.phase == 0
    then (if is_empty q.waiting then q else record q { phase = 1; due = pos (now + preparation) })
    else q

-- the end of the preparation
abbrev pub queue_next : QueueState → Option ℕ
queue_next q = if q.phase == 1 then time_of_word q.due else None

-- the value at the front, where there is one
abbrev pub first_value : List ℤ → List Value
first_value [] = []
first_value (w ∷ ws) = value_of_word w ∷ []

-- the internal event where it is due, the inputs, and then the start of a preparation
abbrev pub queue_moved : ℕ → ℕ → QueueState → Bag → QueueState
queue_moved preparation now q bag =
    queue_closing preparation now
    (queue_inputs (if is_at now (queue_next q) then queue_internal q else q) bag)

-- the state after a move at a time
abbrev pub queue_after : List ℤ → List ℤ → ℕ → Bag → List ℤ
queue_after settings state now bag =
    queue_words (queue_moved (time_setting settings) now (queue_state state) bag)

-- how long it prepares
abbrev pub queue_parameters : List Parameter
queue_parameters = parameter (codes "preparation") time_word (pos 0) ∷ []

-- a queue starts idle, with no values
abbrev pub queue_rules : ClassRules
queue_rules = record {
  name = codes "queue";
  inputs = codes "in" ∷ codes "done" ∷ [];
  once_keys = keys_of queue_parameters;
  settings = settings_by queue_parameters;
  lines_off = lines_off_by queue_parameters;
  start = λ settings. pos 0 ∷ no_time ∷ [];
  next = λ state. queue_next (queue_state state);
  output = λ settings state. outputs (first_value (queue_state state).waiting);
  moved = λ settings state now bag. Some (queue_after settings state now bag);
  is_state = λ settings words. is_queue words;
}
