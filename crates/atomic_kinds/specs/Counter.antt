-- What a counter means.
use Rattle.std.specs.Prelude.{◌≡◌, ℕ, ◌+◌, if◌then◌else◌, Option, Some, None, List, [], ◌∷◌, ℤ, pos}
use Rattle.std.specs.declared.result.Result.{Result}
use Rattle.std.specs.declared.result.Result.TheVariants.{Ok, Err}
use Rattle.quantity.specs.declared.value.Value.{Value as AnyValue}
use Rattle.quantity.specs.declared.value.Overflow.{Overflow}
use Rattle.atomic_face.specs.declared.class.Class.TheVariants.{Counter}
use Rattle.atomic_face.specs.declared.class.PortNo.{PortNo}
use Rattle.atomic_face.specs.Words.{word_of}
use Rattle.atomic_face.specs.DueWords.{word_or_none}
use Rattle.atomic_face.specs.Counter.{CounterState, counter_input, counter_inputs}
use Rattle.atomic_face.specs.Classes.{Bag, is_at}
use Rattle.atomic_face.specs.Held.{Held}
use Rattle.atomic_kinds.specs.declared.counter.CounterModel.{CounterModel}

-- the words of a counter's settings
abbrev pub counter_settings : CounterModel → List ℤ
counter_settings c = pos c.delay ∷ word_of c.start ∷ word_of c.step ∷ []

-- a counter in code as a box of the definitions
abbrev pub held_counter : CounterModel → Held
held_counter c =
    record {
      kind = Counter;
      settings = counter_settings c;
      state = word_of c.total ∷ word_or_none c.due ∷ [];
    }

-- a counter with another total
abbrev pub with_total : ℤ → AnyValue → CounterState
with_total due total = record { total = word_of total; due = due }

-- what one input makes of a total, or its overflow, whenever the counter is due
abbrev pub Counts : CounterModel → AnyValue → PortNo × AnyValue → Result AnyValue Overflow → Type 0
Counts c total input (Ok after) =
    (due : ℤ) → counter_input (counter_settings c) (with_total due total) input
    ≡ Some (with_total due after)
Counts c total input (Err e) =
    (due : ℤ) → counter_input (counter_settings c) (with_total due total) input ≡ None

-- what the inputs make of the total, or their overflow, whenever the counter is due
abbrev pub CountsAll : CounterModel → Bag → Result AnyValue Overflow → Type 0
CountsAll c bag (Ok after) =
    (due : ℤ) → counter_inputs (counter_settings c) (with_total due c.total) bag
    ≡ Some (with_total due after)
CountsAll c bag (Err e) =
    (due : ℤ) → counter_inputs (counter_settings c) (with_total due c.total) bag ≡ None

-- when the counter is due after a move
abbrev pub due_after : ℕ → ℕ → Bag → Option ℕ → Option ℕ
due_after delay now [] due = if is_at now due then None else due
due_after delay now (i ∷ is) due = Some (now + delay)
