-- What a served run, and a cycle of it, starts with.
use Rattle.std.specs.Prelude.{◌≡◌, ℕ, ◌<◌, ◌==◌, Option, None, List, [], ◌∷◌, map}
use Rattle.std.specs.List.{All, filter, range_with_len}
use Rattle.std.specs.List.Sorted.{IsNonDecreasingBy}
use Rattle.quantity.specs.declared.value.Value.{Value}
use Rattle.atomic_face.specs.declared.class.PortNo.{PortNo}
use Rattle.atomic_face.specs.Classes.{Bag}
use Rattle.event_list.specs.Events.{Event}
use Rattle.quantity.specs.Times.{earlier}
use Rattle.run_model.specs.Cycle.{bag_of}
use Rattle.sparse_cycle.specs.Feed.{inputs_at}

-- the least of these times
abbrev pub least_among : List (Option ℕ) → Option ℕ
least_among [] = None
least_among (t ∷ ts) = earlier t (least_among ts)

-- ---- the events of an instant: an input and a value each

-- a value at an input, as in a bag
abbrev pub at_input : ℕ × Value → PortNo × Value
at_input v = (record { 0 = v.0 }, v.1)

-- the input of a value
abbrev pub input_of : ℕ × Value → ℕ
input_of v = v.0

-- the values of one input
abbrev pub of_input : ℕ → List (ℕ × Value) → List (ℕ × Value)
of_input k vs = filter (λ v. input_of v == k) vs

abbrev pub values_at_input : List (ℕ × Value) → ℕ → List Value
values_at_input vs k = map (λ (v : ℕ × Value). v.1) (of_input k vs)

-- the same values by rising inputs, those of one input as they stood
pub record SortsByInput (old new : List (ℕ × Value)) : Type 0 where
  pub rises : IsNonDecreasingBy input_of new
  pub same : (k : ℕ) → of_input k new ≡ of_input k old

-- the values of so many inputs as a bag
abbrev pub bag_of_inputs : List (ℕ × Value) → ℕ → Bag
bag_of_inputs vs count = bag_of (map (values_at_input vs) (range_with_len 0 count))

-- what the events of an instant put at the inputs, however many there are
abbrev pub AreInputsOf : ℕ → List Event → Bag → Type 0
AreInputsOf t events inputs =
    (count : ℕ) → All (λ (e : Event). e.port < count) events
    → inputs ≡ bag_of_inputs (inputs_at t events) count
