-- Private: what rules gave for an own value and counts, kept for the next time.
use Rattle.std.specs.Prelude.{◌≡◌, ℕ, ◌<◌, ◌≤◌, List, [], length, pos, slice_index_or, IfSome}
use Rattle.std.specs.List.{All}
use Rattle.std.specs.declared.result.Result.TheVariants.{Ok}
use Rattle.quantity.specs.declared.bounds.TheConstants.{MAX_DELAY}
use Rattle.quantity.specs.declared.place.Offset.{Offset}
use Rattle.quantity.specs.declared.value.Value.{Value}
use Rattle.rule_tree.specs.Expression.{Rule}
use Rattle.rule_tree.specs.Chosen.{outcome_of_rules}
use Rattle.rule_tree.specs.Meaning.{Sight, outs}
use Rattle.rule_forms.specs.declared.known.Constant.{Constant}
use Rattle.rule_forms.specs.ByPort.{Evaluates}
use Rattle.rule_eval.specs.declared.lent.Lent.{Lent}
use Rattle.rule_eval.specs.declared.lent.Lent.TheVariants as lent
use Rattle.rule_eval.specs.declared.tally.Tally.{Tally}
use Rattle.rule_eval.specs.Few.{GoByFew}
use Rattle.rule_eval.specs.Sums.{port_value_at}
use Rattle.rule_eval.specs.Tallies.{IsTally}
use Rattle.cell_engine.specs.declared.memo.Known.{Known}
use Rattle.cell_engine.specs.Layout.{Layout}

-- a sight, of a cell whose variables have these values
abbrev pub seen_at : Sight → List Value → Sight
seen_at s variables = record s { variables = variables }

-- this is lent from a rule's text, with this delay
abbrev pub IsConstant : Lent → ℕ → Constant → Type 0
IsConstant (lent.Known known) ms c = c ≡ record { given = known.now.given; delay = ms }
IsConstant (lent.Alone v) ms c = ⊥
IsConstant lent.Placed ms c = ⊥

-- the offset of a cell to itself
abbrev pub no_offset : Offset
no_offset = record { row = pos 0; column = pos 0; plane = pos 0 }

-- it is the offset of this number
pub record IsOwn (offsets : List Offset) (own : ℕ) : Type 0 where
  pub within : own < length offsets
  pub here : slice_index_or offsets own no_offset ≡ no_offset

-- a sight shows this own value and these counts, and there are no variables
pub record SeesFew (own : ℕ) (v : Value) (t : Tally) (s : Sight) : Type 0 where
  pub own_value : port_value_at s.neighbours own 0 ≡ v
  pub counts : IsTally t (outs s)
  pub variables : s.variables ≡ []

-- the rules give this over each such sight
pub record AlwaysGive (own : ℕ) (rules : List Rule) (v : Value) (t : Tally) (c : Constant)
    : Type 0 where
  pub bounded : c.delay ≤ MAX_DELAY
  pub given : (s : Sight) → SeesFew own v t s
      → Evaluates (outcome_of_rules rules s) (Ok (c.given, c.delay)) []

-- what is kept is what the rules give
abbrev pub IsAnswer : ℕ → List Rule → Known → Type 0
IsAnswer own rules k = IfSome k.made (AlwaysGive own rules k.own k.tally)

-- cells have no variables and one set of rules, which go by the own value, seen by this offset, and
-- by counts
pub record IsAlike (l : Layout) (own : ℕ) : Type 0 where
  pub variables : l.variables ≡ 0
  pub single : length l.rule_sets ≡ 1
  pub own_offset : IsOwn l.offsets own
  pub few : GoByFew own (slice_index_or l.rule_sets 0 [])

-- answers are kept of such a group alone
pub record IsMemo (l : Layout) (own : ℕ) (known : List Known) : Type 0 where
  pub alike : 0 < length known → IsAlike l own
  pub each : All (IsAnswer own (slice_index_or l.rule_sets 0 [])) known
