-- What evaluation answers, and where it leaves that.
use Rattle.std.specs.Prelude.{◌≡◌, ℕ, Option, Some, None, List, [], ◌∷◌}
use Rattle.std.specs.Borrow.{Bor}
use Rattle.std.specs.declared.result.Result.{Result}
use Rattle.std.specs.declared.result.Result.TheVariants.{Ok, Err}
use Rattle.quantity.specs.declared.value.Value.{Value}
use Rattle.rule_tree.specs.declared.outcome.RuleStop.{RuleStop}
use Rattle.rule_tree.specs.Ports.{by_port}
use Rattle.rule_forms.specs.declared.given.Given.{Given}
use Rattle.rule_forms.specs.declared.known.Constant.{Constant}
use Rattle.rule_eval.specs.declared.lent.Lent.{Lent}
use Rattle.rule_eval.specs.declared.lent.Lent.TheVariants.{Known, Alone, Placed}

-- these values are given, each at its port, or the same stop
abbrev pub GivesValues : Result (List (ℕ × Value)) RuleStop → Result Given RuleStop → Type 0
GivesValues (Ok values) (Ok given) = given.values ≡ by_port values
GivesValues (Ok values) (Err stop) = ⊥
GivesValues (Err why) (Ok given) = ⊥
GivesValues (Err why) (Err stop) = stop ≡ why

-- the variables have these values, or the same stop
abbrev pub SetsVariables : {U : Type 0} → Result (List Value) RuleStop → Result U RuleStop
    → List Value → Type 0
SetsVariables (Ok xs) (Ok u) variables = variables ≡ xs
SetsVariables (Ok xs) (Err stop) variables = ⊥
SetsVariables (Err why) (Ok u) variables = ⊥
SetsVariables (Err why) (Err stop) variables = stop ≡ why

-- ---- what is given is lent, or stands in a place of its own

-- what an answer means: what is given with its delay or the stop, and the variables after it
abbrev pub Meant : Type 1
Meant = Result (Given × ℕ) RuleStop → List Value → Type 0

-- it means what is lent, with the variables as they were seen; and else what stands in the place,
-- with the variables after the sets
abbrev pub IsLent : Meant → Option (Bor Constant) → ℕ → Given → List Value → List Value → Type 0
IsLent P None ms given after seen = P (Ok (given, ms)) after
IsLent P (Some known) ms given after seen = P (Ok (known.now.given, ms)) seen

-- the same of an answer that may be a stop
abbrev pub MayLend : Meant → Result (Option (Bor Constant) × ℕ) RuleStop → Given → List Value
    → List Value → Type 0
MayLend P (Ok r) given after seen = IsLent P r.0 r.1 given after seen
MayLend P (Err stop) given after seen = P (Err stop) after

-- this value alone is given, at the port out
abbrev pub only : Value → Given
only v = record { values = Some v ∷ None ∷ None ∷ None ∷ [] }

-- the same, of a value that is given alone too
abbrev pub IsFound : Meant → Lent → ℕ → Given → List Value → List Value → Type 0
IsFound P (Known known) ms given after seen = P (Ok (known.now.given, ms)) seen
IsFound P (Alone v) ms given after seen = P (Ok (only v, ms)) seen
IsFound P Placed ms given after seen = P (Ok (given, ms)) after

-- of an answer that may be a stop
abbrev pub Lends : Meant → Result (Lent × ℕ) RuleStop → Given → List Value → List Value → Type 0
Lends P (Ok r) given after seen = IsFound P r.0 r.1 given after seen
Lends P (Err stop) given after seen = P (Err stop) after

-- the delay, with what stands in the place
abbrev pub with_given : Given → Result ℕ RuleStop → Result (Given × ℕ) RuleStop
with_given given (Ok ms) = Ok (given, ms)
with_given given (Err stop) = Err stop

-- what stands in the place, where nothing stopped it
abbrev pub given_unless_stop : {U : Type 0} → Given → Result U RuleStop → Result Given RuleStop
given_unless_stop given (Ok u) = Ok given
given_unless_stop given (Err stop) = Err stop
