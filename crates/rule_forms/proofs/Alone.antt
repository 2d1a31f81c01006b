-- When the expression of a form is a number alone.
use Rattle.std.proofs.Common.{◌≡◌, Option, Some, None, List, [], ◌∷◌, refl}
use Rattle.quantity.specs.declared.value.Value.{Value}
use Rattle.rule_tree.specs.Expression.{Expr, two, neighbour}
use Rattle.rule_tree.specs.declared.node.Binary.TheVariants.{Add}
use Rattle.rule_forms.specs.declared.forms.PortAt.{PortAt}
use Rattle.rule_forms.specs.declared.forms.PlainTest.{PlainTest}
use Rattle.rule_forms.specs.declared.forms.PlainTest.TheVariants.{Truth, NeighbourIs, CountIs, OutIs, CountEquals}
use Rattle.rule_forms.specs.declared.forms.Test.{Test}
use Rattle.rule_forms.specs.declared.forms.Test.TheVariants.{Plain, Not', Both', Either', PlainBoth', PlainEither'}
use Rattle.rule_forms.specs.declared.forms.Form.{Form}
use Rattle.rule_forms.specs.declared.forms.Form.TheVariants.{Number, Neighbour, Variable, Now, PortValue, Counted, Test as Tests, Sum, One', Two', Call'}
use Rattle.rule_forms.specs.Forms.{expr_of_form, expr_of_test, expr_of_plain, plus_all}
use Rattle.rule_forms.specs.Known.{number_alone}

-- a sum is no number alone
sum_is_none : (e : Expr) (ns : List PortAt) → number_alone e ≡ None → number_alone (plus_all e ns) ≡ None
sum_is_none e [] h = h
sum_is_none e (n ∷ ns) h = sum_is_none (two Add e (neighbour n.offset n.port)) ns refl

plain_is_none : (t : PlainTest) → number_alone (expr_of_plain t) ≡ None
plain_is_none (Truth t) = refl
plain_is_none (NeighbourIs how k p v) = refl
plain_is_none (CountIs how c v) = refl
plain_is_none (OutIs k raw) = refl
plain_is_none (CountEquals c n) = refl

test_is_none : (t : Test) → number_alone (expr_of_test t) ≡ None
test_is_none (Plain t) = plain_is_none t
test_is_none (Not' p a) = refl
test_is_none (Both' p a q b) = refl
test_is_none (Either' p a q b) = refl
test_is_none (PlainBoth' a p b) = refl
test_is_none (PlainEither' a p b) = refl

-- the number that a form is
abbrev pub number_of : Form → Option Value
number_of (Number v) = Some v
number_of form = None

-- the expression of a form is a number alone just where the form is one
pub alone : (form : Form) → number_alone (expr_of_form form) ≡ number_of form
alone (Number v) = refl
alone (Neighbour k p) = refl
alone (Variable k) = refl
alone Now = refl
alone PortValue = refl
alone (Counted c) = refl
alone (Tests t) = test_is_none t
alone (Sum k p ns) = sum_is_none (neighbour k p) ns.items refl
alone (One' u p a) = refl
alone (Two' b p a q c) = refl
alone (Call' f shape args) = refl
