-- What is known of a rule before it is evaluated.
use Rattle.std.specs.Prelude.{◌≡◌, ◌≤◌, ℕ, Bool, true, false, ◌&&◌, ◌==◌, Option, Some, None, List, []}
use Rattle.std.specs.Prelude.{◌∷◌, IfSome, is_some}
use Rattle.std.specs.List.{list_all}
use Rattle.std.specs.Option.{option_and_then}
use Rattle.std.specs.declared.result.Result.TheVariants.{Ok}
use Rattle.quantity.specs.declared.bounds.TheConstants.{MAX_DELAY}
use Rattle.quantity.specs.declared.value.Value.{Value}
use Rattle.rule_tree.specs.Expression as E
use Rattle.rule_tree.specs.Expression.{Expr, Rule}
use Rattle.rule_tree.specs.Meaning.{Sight}
use Rattle.rule_tree.specs.Chosen.{delay_of, rule_outcome}
use Rattle.rule_forms.specs.declared.known.Constant.{Constant}
use Rattle.rule_forms.specs.Depth.{rule_depth}
use Rattle.rule_forms.specs.Stops.{delay_by}
use Rattle.rule_forms.specs.ByPort.{Evaluates}

-- the number that an expression is, where it is no more than that
abbrev pub number_alone : Expr → Option Value
number_alone (E.number v) = Some v
number_alone e = None

-- the delay that an expression is, where it is no more than a number
abbrev pub delay_alone : Expr → Option ℕ
delay_alone e = option_and_then delay_of (number_alone e)

-- whether expressions for ports or variables are numbers alone
abbrev pub are_numbers : List (ℕ × Expr) → Bool
are_numbers parts = list_all (λ p. is_some (number_alone p.1)) parts

-- whether nothing is set
abbrev pub sets_nothing : List (ℕ × Expr) → Bool
sets_nothing [] = true
sets_nothing (s ∷ ss) = false

-- whether all that a rule gives is known from its text: each value is a number, its delay is a
-- delay, and nothing is set
abbrev pub is_constant : Rule → Bool
is_constant r = are_numbers r.gives && is_some (delay_alone r.delay) && sets_nothing r.sets

-- an expression means this delay whatever a cell sees
pub record AlwaysWaits (e : Expr) (ms : ℕ) : Type 0 where
  pub delay : (s : Sight) → delay_by e s ≡ Ok ms
  pub bounded : ms ≤ MAX_DELAY

-- a rule gives this whatever a cell sees, and sets nothing
pub record AlwaysMakes (rule : Rule) (c : Constant) : Type 0 where
  pub made : (s : Sight) → Evaluates (rule_outcome rule s) (Ok (c.given, c.delay)) s.variables
  pub bounded : c.delay ≤ MAX_DELAY

-- whether one value is given alone, at the port out
abbrev pub is_out_alone : List (ℕ × Expr) → Bool
is_out_alone [] = false
is_out_alone (g ∷ []) = g.0 == 0
is_out_alone (g ∷ h ∷ gs) = false

-- whether one value is given alone, at the port out, and nothing is set
abbrev pub is_alone_in : List (ℕ × Expr) → List (ℕ × Expr) → Bool
is_alone_in gives sets = sets_nothing sets && is_out_alone gives

-- what this expression means is given and nothing else, at the port out, and nothing is set
pub record StandsAlone (e : Expr) (gives sets : List (ℕ × Expr)) : Type 0 where
  pub alone : gives ≡ (0, e) ∷ []
  pub nothing : sets ≡ []

-- what is kept beside the forms of a rule: its depth, its delay and all that it gives, where these
-- are known
pub record IsKnown (rule : Rule) (most : ℕ) (ms : Option ℕ) (c : Option Constant) : Type 0 where
  pub depth : most ≡ rule_depth rule
  pub delay : IfSome ms (AlwaysWaits rule.delay)
  pub each_delay : ms ≡ delay_alone rule.delay
  pub constant : IfSome c (AlwaysMakes rule)
  pub each_constant : is_some c ≡ is_constant rule
