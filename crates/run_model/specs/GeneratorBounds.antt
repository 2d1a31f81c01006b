-- What the numbers of a generator are in a run.
use Rattle.std.specs.Prelude.{List, ℤ, IfSome}
use Rattle.quantity.specs.TimeBounds.{IsDelay, IsTime}
use Rattle.atomic_face.specs.Words.{time_of_word, natural_in}
use Rattle.atomic_face.specs.Generator.{generator_settings, generator_state, generator_rules}
use Rattle.run_model.specs.ClassBounds.{ClassBounds, IsNotBefore, IsValueWord}

-- its start, its period and its first value
abbrev pub AreGeneratorSettings : List ℤ → Type 0
AreGeneratorSettings settings =
    IfSome (time_of_word (generator_settings settings).start) IsTime
    × IsDelay (natural_in (generator_settings settings).period)
    × IsValueWord (generator_settings settings).value

-- the time of its next value, and the value
abbrev pub IsBoundedGenerator : List ℤ → Type 0
IsBoundedGenerator state =
    IfSome (time_of_word (generator_state state).next) IsTime
    × IsValueWord (generator_state state).value

-- a generator
abbrev pub generator_bounds : ClassBounds
generator_bounds = record {
  waits_from = λ low state. IsNotBefore low (generator_rules.next state);
  bounded_settings = AreGeneratorSettings;
  bounded_state = IsBoundedGenerator;
}
