-- The class cpu, over the settings [delay] and the state: pairs of a time and a value, one after
-- another.
use Rattle.std.specs.Prelude.{ℕ, ◌+◌, Bool, true, false, ◌&&◌, nat_le, int_le, Option, Some, None}
use Rattle.std.specs.Prelude.{List, [], ◌∷◌, map, ℤ, pos, if◌then◌else◌, codes}
use Rattle.std.specs.List.{filter}
use Rattle.std.specs.Bool.{beq}
use Rattle.quantity.specs.declared.value.Value.{Value}
use Rattle.atomic_face.specs.Words.{time_of_word, word_of, value_of_word, natural_in}
use Rattle.atomic_face.specs.Words.{is_time_word, is_value_word}
use Rattle.atomic_face.specs.Bags.{Bag, outputs, is_at, same_time}
use Rattle.atomic_face.specs.Parameters.{Parameter, parameter, time_word, time_setting}
use Rattle.atomic_face.specs.Parameters.{keys_of, settings_by, lines_off_by}
use Rattle.atomic_face.specs.ClassRules.{ClassRules}

-- the pairs that these numbers are
abbrev pub cpu_pairs : List ℤ → List (ℤ × ℤ)
cpu_pairs [] = []
cpu_pairs (t ∷ []) = []
cpu_pairs (t ∷ v ∷ ws) = (t, v) ∷ cpu_pairs ws

-- the numbers of the pairs
abbrev pub cpu_words : List (ℤ × ℤ) → List ℤ
cpu_words [] = []
cpu_words (p ∷ ps) = p.0 ∷ p.1 ∷ cpu_words ps

-- times, none earlier than the one before it, each with a value
abbrev pub are_pairs : ℤ → List ℤ → Bool
are_pairs before [] = true
are_pairs before (t ∷ []) = false
are_pairs before (t ∷ v ∷ ws) =
    is_time_word t && int_le before t && is_value_word v && are_pairs t ws

-- the time of the first pair
abbrev pub cpu_next : List (ℤ × ℤ) → Option ℕ
cpu_next [] = None
cpu_next (p ∷ ps) = time_of_word p.0

-- the pairs whose time is this one, and those whose time isn't
abbrev pub pairs_at : Bool → Option ℕ → List (ℤ × ℤ) → List (ℤ × ℤ)
pairs_at b t ps = filter (λ (p : ℤ × ℤ). beq b (same_time t (time_of_word p.0))) ps

-- the values of the pairs
abbrev pub values_in : List (ℤ × ℤ) → List Value
values_in ps = map (λ (p : ℤ × ℤ). value_of_word p.1) ps

-- behind all pairs whose time isn't later
abbrev pub cpu_put : ℕ → Value → List (ℤ × ℤ) → List (ℤ × ℤ)
cpu_put at v [] = (pos at, word_of v) ∷ []
cpu_put at v (p ∷ ps) =
    if nat_le (natural_in p.0) at then p ∷ cpu_put at v ps else (pos at, word_of v) ∷ p ∷ ps

-- all inputs at this time, one after another
abbrev pub cpu_inputs : ℕ → List (ℤ × ℤ) → Bag → List (ℤ × ℤ)
cpu_inputs at ps [] = ps
cpu_inputs at ps (i ∷ is) = cpu_inputs at (cpu_put at i.1 ps) is

-- the pairs of the first time leave where it is now, and then each input is put at its time
abbrev pub cpu_moved : ℕ → ℕ → List (ℤ × ℤ) → Bag → List (ℤ × ℤ)
cpu_moved delay now ps bag =
    cpu_inputs (now + delay)
    (if is_at now (cpu_next ps) then pairs_at false (cpu_next ps) ps else ps) bag

-- the state after a move at a time
abbrev pub cpu_after : List ℤ → List ℤ → ℕ → Bag → List ℤ
cpu_after settings state now bag =
    cpu_words (cpu_moved (time_setting settings) now (cpu_pairs state) bag)

-- how long each value stays
abbrev pub cpu_parameters : List Parameter
cpu_parameters = parameter (codes "delay") time_word (pos 0) ∷ []

-- the values that leave next: those of the first time
abbrev pub cpu_output : List (ℤ × ℤ) → Bag
cpu_output ps = outputs (values_in (pairs_at true (cpu_next ps) ps))

-- a cpu starts with no pairs
abbrev pub cpu_rules : ClassRules
cpu_rules = record {
  name = codes "cpu";
  inputs = codes "in" ∷ [];
  once_keys = keys_of cpu_parameters;
  settings = settings_by cpu_parameters;
  lines_off = lines_off_by cpu_parameters;
  start = λ settings. [];
  next = λ state. cpu_next (cpu_pairs state);
  output = λ settings state. cpu_output (cpu_pairs state);
  moved = λ settings state now bag. Some (cpu_after settings state now bag);
  is_state = λ settings words. are_pairs (pos 0) words;
}
