-- What a generator means.
use Rattle.std.specs.Prelude.{◌≡◌, ℕ, Some, None, List, [], ◌∷◌, ℤ, pos}
use Rattle.std.specs.declared.result.Result.{Result}
use Rattle.std.specs.declared.result.Result.TheVariants.{Ok, Err}
use Rattle.quantity.specs.declared.value.Overflow.{Overflow}
use Rattle.atomic_face.specs.declared.class.Class.TheVariants.{Generator}
use Rattle.atomic_face.specs.Words.{word_of}
use Rattle.atomic_face.specs.DueWords.{word_or_none}
use Rattle.atomic_face.specs.Generator.{GeneratorState, generator_internal, generator_settings}
use Rattle.atomic_face.specs.Held.{Held}
use Rattle.atomic_kinds.specs.declared.generator.GeneratorModel.{GeneratorModel}

-- the words of a generator's settings
abbrev pub settings_in : GeneratorModel → List ℤ
settings_in g =
    pos g.start ∷ pos g.period ∷ word_of g.value ∷ word_of g.step ∷ word_or_none g.count ∷ []

-- a generator in code as a box of the definitions
abbrev pub held_generator : GeneratorModel → Held
held_generator g =
    record {
      kind = Generator;
      settings = settings_in g;
      state = word_or_none g.next ∷ word_of g.current ∷ word_or_none g.left ∷ [];
    }

-- a generator's state in code as one of the definitions
abbrev pub state_in : GeneratorModel → GeneratorState
state_in g =
    record { next = word_or_none g.next; value = word_of g.current; left = word_or_none g.left }

-- the internal part of a move, or its overflow with nothing changed
abbrev pub InternalGives : {A : Type 0} → ℕ → GeneratorModel → GeneratorModel → Result A Overflow
    → Type 0
InternalGives now old new (Ok x) =
    (generator_internal (generator_settings (settings_in old)) now (state_in old)
    ≡ Some (state_in new)) × (settings_in new ≡ settings_in old)
InternalGives now old new (Err e) =
    (generator_internal (generator_settings (settings_in old)) now (state_in old) ≡ None)
    × (held_generator new ≡ held_generator old)
