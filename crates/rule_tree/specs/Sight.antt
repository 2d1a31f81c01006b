-- What a cell sees, and answers over it.
use Rattle.std.specs.Prelude.{ℕ, ◌*◌, List, slice_get, map, pos}
use Rattle.std.specs.List.{count_by}
use Rattle.std.specs.Option.{unwrap_or}
use Rattle.quantity.specs.declared.place.Place.{Place}
use Rattle.quantity.specs.declared.truth.Tri.{Tri}
use Rattle.quantity.specs.declared.truth.Tri.TheVariants.{Undef}
use Rattle.quantity.specs.declared.value.Value.{Value}
use Rattle.quantity.specs.declared.value.Value.TheVariants.{Undefined, Num}
use Rattle.quantity.specs.Arithmetic.{same_value}
use Rattle.rule_tree.specs.declared.outcome.Answer.{Answer}
use Rattle.rule_tree.specs.declared.outcome.Answer.TheVariants.{Num as Number', Logic}

-- what a cell sees when it evaluates its rules: the time in milliseconds, its place in a space of
-- so many dimensions, what the neighbour by each offset gave at its ports, out first, the value at
-- the port that the rules are for, and its variables
pub record Sight : Type 0 where
  pub time : ℕ
  pub place : Place
  pub dims : ℕ
  pub neighbours : List (List Value)
  pub port : Value
  pub variables : List Value

-- the value that stands at this place, or ?
abbrev pub value_at : List Value → ℕ → Value
value_at vs k = unwrap_or (slice_get vs k) Undefined

-- what each neighbour gave at its port out
abbrev pub outs : Sight → List Value
outs s = map (λ vs. value_at vs 0) s.neighbours

-- a whole number as a value
abbrev pub whole : ℕ → Value
whole n = Num (pos (n * 100000))

-- how many of these values are this one, where ? is ?
abbrev pub how_many : Value → List Value → ℕ
how_many v vs = count_by (λ w. same_value v w) vs

-- the number that an answer is; a truth value counts as ?
abbrev pub number_answered : Answer → Value
number_answered (Number' v) = v
number_answered (Logic t) = Undefined

-- the truth value that an answer is; a number counts as ?
abbrev pub truth_in : Answer → Tri
truth_in (Number' v) = Undef
truth_in (Logic t) = t
