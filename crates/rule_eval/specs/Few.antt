-- Rules that go by a cell's own value and by counts alone.
use Rattle.std.specs.Prelude.{◌≡◌, ℕ, Bool, true, ◌&&◌, ◌==◌, List}
use Rattle.std.specs.declared.result.Result.{Result}
use Rattle.quantity.specs.declared.value.Value.{Value}
use Rattle.rule_tree.specs.declared.node.Count.{Count}
use Rattle.rule_tree.specs.declared.outcome.RuleStop.{RuleStop}
use Rattle.rule_tree.specs.Expression.{Expr, Rule}
use Rattle.rule_tree.specs.Meaning.{Sight, outs, neighbour_count, meaning}
use Rattle.rule_tree.specs.Chosen.{Chosen, rule_outcome, outcome_of_rules}
use Rattle.rule_forms.specs.declared.forms.PlainTest.{PlainTest}
use Rattle.rule_forms.specs.declared.forms.PlainTest.TheVariants.{Truth, NeighbourIs, CountIs, OutIs, CountEquals}
use Rattle.rule_forms.specs.declared.forms.Test.{Test}
use Rattle.rule_forms.specs.declared.forms.Test.TheVariants.{Plain, Not', Both', Either', PlainBoth', PlainEither'}
use Rattle.rule_forms.specs.declared.given.Given.{Given}
use Rattle.rule_forms.specs.ByPort.{Evaluates}
use Rattle.rule_eval.specs.Sums.{port_value_at}

-- two sights show the same own value, which is seen by this offset, the same counts and the same
-- variables
pub record Agree (own : ℕ) (s r : Sight) : Type 0 where
  pub own_value : port_value_at s.neighbours own 0 ≡ port_value_at r.neighbours own 0
  pub counts : (c : Count) → neighbour_count c (outs s) ≡ neighbour_count c (outs r)
  pub variables : s.variables ≡ r.variables

-- what evaluation answers for the one it answers for the other
abbrev pub AnswersAlike : Chosen → Chosen → Type 0
AnswersAlike a b =
    (result : Result (Given × ℕ) RuleStop) (variables : List Value) → Evaluates a result variables
    → Evaluates b result variables

-- rules are answered alike over each two such sights
abbrev pub GoByFew : ℕ → List Rule → Type 0
GoByFew own rules =
    (s r : Sight) → Agree own s r
    → AnswersAlike (outcome_of_rules rules s) (outcome_of_rules rules r)

-- ---- one rule

-- a condition means the same over each two such sights
abbrev pub IsByFew : ℕ → Expr → Type 0
IsByFew own e = (s r : Sight) → Agree own s r → meaning e s ≡ meaning e r

-- and what is given is answered alike
pub record GoesByFew (own : ℕ) (rule : Rule) : Type 0 where
  pub condition : IsByFew own rule.condition
  pub gives : (s r : Sight) → Agree own s r
      → AnswersAlike (rule_outcome rule s) (rule_outcome rule r)

-- ---- tests

-- whether a test that is made of no others reads the own value or a count, or nothing
abbrev pub plain_reads_few : ℕ → PlainTest → Bool
plain_reads_few own (Truth t) = true
plain_reads_few own (NeighbourIs how k p v) = (k == own) && (p == 0)
plain_reads_few own (CountIs how c v) = true
plain_reads_few own (OutIs k raw) = k == own
plain_reads_few own (CountEquals c n) = true

-- whether a test reads no more
abbrev pub reads_few : ℕ → Test → Bool
reads_few own (Plain t) = plain_reads_few own t
reads_few own (Not' p a) = reads_few own a
reads_few own (Both' p a q b) = reads_few own a && reads_few own b
reads_few own (Either' p a q b) = reads_few own a && reads_few own b
reads_few own (PlainBoth' a p b) = plain_reads_few own a && reads_few own b
reads_few own (PlainEither' a p b) = plain_reads_few own a && reads_few own b
