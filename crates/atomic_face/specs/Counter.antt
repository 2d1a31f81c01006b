-- The class counter, over the settings [delay, start, step] and the state [total, due].
use Rattle.std.specs.Prelude.{ℕ, ◌+◌, ◌==◌, Bool, false, ◌&&◌, ◌||◌, Option, Some}
use Rattle.std.specs.Prelude.{List, [], ◌∷◌, ℤ, pos, if◌then◌else◌, codes}
use Rattle.std.specs.Option.{option_map}
use Rattle.quantity.specs.declared.value.Value.{Value}
use Rattle.quantity.specs.Arithmetic.{sum_of}
pub use Rattle.quantity.specs.Written.{for_some}
use Rattle.atomic_face.specs.declared.class.PortNo.{PortNo}
use Rattle.atomic_face.specs.Words.{no_time, time_of_word, word_of, value_of_word, natural_in}
use Rattle.atomic_face.specs.Words.{is_time_word, is_none_word, is_value_word}
use Rattle.atomic_face.specs.Bags.{Bag, outputs, is_at}
use Rattle.atomic_face.specs.Parameters.{Parameter, parameter, time_word, value_word, setting}
use Rattle.atomic_face.specs.Parameters.{keys_of, settings_by, lines_off_by}
use Rattle.atomic_face.specs.ClassRules.{ClassRules}

-- the total, and the time at which it is given or none
pub record CounterState : Type 0 where
  pub total : ℤ
  pub due : ℤ

-- the state that these numbers are
abbrev pub counter_state : List ℤ → CounterState
counter_state (t ∷ d ∷ ws) = record { total = t; due = d }
counter_state ws = record { total = pos 0; due = no_time }

-- the numbers of a state
abbrev pub counter_words : CounterState → List ℤ
counter_words c = c.total ∷ c.due ∷ []

-- a total, and a time or none
abbrev pub is_counter : List ℤ → Bool
is_counter (total ∷ due ∷ []) = is_value_word total && (is_time_word due || is_none_word due)
is_counter ws = false

-- an input adds the step, and a reset sets the total to the start; none where the sum overflows
abbrev pub counter_input : List ℤ → CounterState → PortNo × Value → Option CounterState
counter_input settings c i =
    if i.0.0 == 0
    then
    option_map (λ v. record c { total = word_of v })
    (sum_of (value_of_word c.total) (value_of_word (setting settings 2)))
    else Some (record c { total = setting settings 1 })

-- all inputs, one after another
abbrev pub counter_inputs : List ℤ → CounterState → Bag → Option CounterState
counter_inputs settings c [] = Some c
counter_inputs settings c (i ∷ is) =
    for_some (counter_input settings c i) (λ d. counter_inputs settings d is)

-- any input makes the total due after the delay
abbrev pub counter_closing : ℕ → ℕ → Bag → CounterState → CounterState
counter_closing delay now [] c = c
counter_closing delay now (i ∷ is) c = record c { due = pos (now + delay) }

-- what was due now is due no more
abbrev pub counter_internal : ℕ → CounterState → CounterState
counter_internal now c = if is_at now (time_of_word c.due) then record c { due = no_time } else c

-- the internal event where it is due, the inputs, and then the time at which the total is given
abbrev pub counter_moved : List ℤ → ℕ → CounterState → Bag → Option CounterState
counter_moved settings now c bag =
    option_map (counter_closing (natural_in (setting settings 0)) now bag)
    (counter_inputs settings (counter_internal now c) bag)

-- how long a total waits, where it starts, and what an input adds
abbrev pub counter_parameters : List Parameter
counter_parameters =
    parameter (codes "delay") time_word (pos 0) ∷ parameter (codes "start") value_word (pos 0)
    ∷ parameter (codes "step") value_word (pos 100000) ∷ []

-- the state after a move at a time, or none where a sum overflows
abbrev pub counter_words_after : List ℤ → List ℤ → ℕ → Bag → Option (List ℤ)
counter_words_after settings state now bag =
    option_map counter_words (counter_moved settings now (counter_state state) bag)

-- a counter starts with its start, which it doesn't give
abbrev pub counter_rules : ClassRules
counter_rules = record {
  name = codes "counter";
  inputs = codes "in" ∷ codes "reset" ∷ [];
  once_keys = keys_of counter_parameters;
  settings = settings_by counter_parameters;
  lines_off = lines_off_by counter_parameters;
  start = λ settings. setting settings 1 ∷ no_time ∷ [];
  next = λ state. time_of_word (counter_state state).due;
  output = λ settings state. outputs (value_of_word (counter_state state).total ∷ []);
  moved = counter_words_after;
  is_state = λ settings words. is_counter words;
}
