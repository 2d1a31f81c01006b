-- The class generator, over the settings [start, period, value, step, count] and the state [next,
-- value, left].
use Rattle.std.specs.Prelude.{ℕ, zero, suc, ◌+◌, ◌-◌, Bool, true, false, not, ◌&&◌, Option, Some}
use Rattle.std.specs.Prelude.{List, [], ◌∷◌, ℤ, pos, negsuc, if◌then◌else◌, codes}
use Rattle.std.specs.Option.{option_map}
use Rattle.quantity.specs.declared.value.Value.{Value}
use Rattle.quantity.specs.Arithmetic.{sum_of}
use Rattle.atomic_face.specs.Words.{no_time, time_of_word, word_of, value_of_word, natural_in}
use Rattle.atomic_face.specs.Words.{is_number, is_none_word, is_zero_word, is_due_if, is_value_word}
use Rattle.atomic_face.specs.Bags.{outputs, is_at}
use Rattle.atomic_face.specs.Parameters.{Parameter, parameter, time_word, period_word}
use Rattle.atomic_face.specs.Parameters.{value_word, count_word}
use Rattle.atomic_face.specs.Parameters.{keys_of, settings_by, lines_off_by}
use Rattle.atomic_face.specs.ClassRules.{ClassRules}

-- the time of the next value or none, the value, and how many are left or -1 without a count
pub record GeneratorState : Type 0 where
  pub next : ℤ
  pub value : ℤ
  pub left : ℤ

-- the state that these numbers are
abbrev pub generator_state : List ℤ → GeneratorState
generator_state (n ∷ v ∷ l ∷ ws) = record { next = n; value = v; left = l }
generator_state ws = record { next = no_time; value = pos 0; left = pos 0 }

-- the numbers of a state
abbrev pub generator_words : GeneratorState → List ℤ
generator_words g = g.next ∷ g.value ∷ g.left ∷ []

-- the time of the first value, the time between two, the first value, what is added each time, and
-- how many there are or -1
pub record GeneratorSettings : Type 0 where
  pub start : ℤ
  pub period : ℤ
  pub value : ℤ
  pub step : ℤ
  pub count : ℤ

-- the settings that these numbers are
abbrev pub generator_settings : List ℤ → GeneratorSettings
generator_settings (a ∷ p ∷ v ∷ s ∷ c ∷ ws) =
    record { start = a; period = p; value = v; step = s; count = c }
generator_settings ws = record {
  start = pos 0;
  period = pos 1000;
  value = pos 100000;
  step = pos 0;
  count = negsuc 0;
}

-- without a count none is left to count
abbrev pub is_left : ℤ → ℤ → Bool
is_left (pos count) left = is_number count left
is_left (negsuc n) left = is_none_word left

-- a next time unless none is left to count, a value, and what is left to count
abbrev pub is_generator : List ℤ → List ℤ → Bool
is_generator settings (next ∷ value ∷ left ∷ []) =
    is_due_if (not (is_zero_word left)) next && is_value_word value
    && is_left (generator_settings settings).count left
is_generator settings ws = false

-- one less is left; -1 stays
abbrev pub one_less : ℤ → ℤ
one_less (pos n) = pos (n - 1)
one_less (negsuc n) = negsuc n

-- nothing is left
abbrev pub is_none_left : ℤ → Bool
is_none_left (pos zero) = true
is_none_left (pos (suc n)) = false
is_none_left (negsuc n) = false

-- the state with the next value, which is due after the period
abbrev pub generator_going_on : GeneratorSettings → ℕ → GeneratorState → Value → GeneratorState
generator_going_on s now g v =
    record { next = pos (now + natural_in s.period); value = word_of v; left = one_less g.left }

-- the last value ends it; else the next value is due, or there is none where the sum overflows
abbrev pub generator_internal : GeneratorSettings → ℕ → GeneratorState → Option GeneratorState
generator_internal s now g =
    if is_none_left (one_less g.left)
    then Some (record g { next = no_time; left = one_less g.left })
    else
    option_map (generator_going_on s now g)
    (sum_of (value_of_word g.value) (value_of_word s.step))

-- the state after a move at a time: the internal event where it is due, and else as it was
abbrev pub generator_moved : List ℤ → List ℤ → ℕ → Option (List ℤ)
generator_moved settings state now =
    if is_at now (time_of_word (generator_state state).next)
    then
    option_map generator_words
    (generator_internal (generator_settings settings) now (generator_state state))
    else Some state

-- when it begins, how it goes on, and how many values it gives
abbrev pub generator_parameters : List Parameter
generator_parameters =
    parameter (codes "start") time_word (pos 0) ∷ parameter (codes "period") period_word (pos 1000)
    ∷ parameter (codes "value") value_word (pos 100000)
    ∷ parameter (codes "step") value_word (pos 0)
    ∷ parameter (codes "count") count_word (negsuc 0) ∷ []

-- the state that settings start with: the first value at the start
abbrev pub generator_start : GeneratorSettings → List ℤ
generator_start s = s.start ∷ s.value ∷ s.count ∷ []

-- a generator has no inputs
abbrev pub generator_rules : ClassRules
generator_rules = record {
  name = codes "generator";
  inputs = [];
  once_keys = keys_of generator_parameters;
  settings = settings_by generator_parameters;
  lines_off = lines_off_by generator_parameters;
  start = λ settings. generator_start (generator_settings settings);
  next = λ state. time_of_word (generator_state state).next;
  output = λ settings state. outputs (value_of_word (generator_state state).value ∷ []);
  moved = λ settings state now bag. generator_moved settings state now;
  is_state = is_generator;
}
