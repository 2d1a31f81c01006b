-- The expressions that forms stand for.
use Rattle.std.specs.Prelude.{List, [], ◌∷◌, map}
use Rattle.quantity.specs.declared.value.Value.TheVariants.{Num}
use Rattle.quantity.specs.declared.value.Compare.TheVariants.{Equal}
use Rattle.rule_tree.specs.Meaning.{whole}
use Rattle.rule_tree.specs.declared.node.Unary.TheVariants.{Not}
use Rattle.rule_tree.specs.declared.node.Binary.TheVariants.{Or, And, Cmp, Add}
use Rattle.rule_tree.specs.Expression.{Expr, Exprs, number, truth, neighbour, variable, now}
use Rattle.rule_tree.specs.Expression.{port_value, counted, one, two, call, nil, cons}
use Rattle.rule_forms.specs.declared.forms.PortAt.{PortAt}
use Rattle.rule_forms.specs.declared.forms.PlainTest.{PlainTest}
use Rattle.rule_forms.specs.declared.forms.PlainTest.TheVariants.{Truth, NeighbourIs, CountIs, OutIs, CountEquals}
use Rattle.rule_forms.specs.declared.forms.Test.{Test}
use Rattle.rule_forms.specs.declared.forms.Test.TheVariants.{Plain, Not', Both', Either', PlainBoth', PlainEither'}
use Rattle.rule_forms.specs.declared.forms.Form.{Form, Row_of-Form, end_of-Form, more_of-Form}
use Rattle.rule_forms.specs.declared.forms.Form.TheVariants.{Number, Neighbour, Variable, Now}
use Rattle.rule_forms.specs.declared.forms.Form.TheVariants.{PortValue, Counted, Test as Tests, Sum}
use Rattle.rule_forms.specs.declared.forms.Form.TheVariants.{One', Two', Call'}

-- the expression that a test stands for which is made of no other tests
abbrev pub expr_of_plain : PlainTest → Expr
expr_of_plain (Truth t) = truth t
expr_of_plain (NeighbourIs how k p v) = two (Cmp how) (neighbour k p) (number v)
expr_of_plain (CountIs how c v) = two (Cmp how) (counted c) (number v)
expr_of_plain (OutIs k raw) = two (Cmp Equal) (neighbour k 0) (number (Num raw))
expr_of_plain (CountEquals c n) = two (Cmp Equal) (counted c) (number (whole n))

-- the expression that a test stands for
abbrev pub expr_of_test : Test → Expr
expr_of_test (Plain t) = expr_of_plain t
expr_of_test (Not' p a) = one Not (expr_of_test a)
expr_of_test (Both' p a q b) = two And (expr_of_test a) (expr_of_test b)
expr_of_test (Either' p a q b) = two Or (expr_of_test a) (expr_of_test b)
expr_of_test (PlainBoth' a p b) = two And (expr_of_plain a) (expr_of_test b)
expr_of_test (PlainEither' a p b) = two Or (expr_of_plain a) (expr_of_test b)

-- an expression, to which neighbours' values are added one after another
abbrev pub plus_all : Expr → List PortAt → Expr
plus_all e [] = e
plus_all e (n ∷ ns) = plus_all (two Add e (neighbour n.offset n.port)) ns

abbrev mutual
  pub expr_of_form : Form → Expr
  expr_of_form (Number v) = number v
  expr_of_form (Neighbour k p) = neighbour k p
  expr_of_form (Variable k) = variable k
  expr_of_form Now = now
  expr_of_form PortValue = port_value
  expr_of_form (Counted c) = counted c
  expr_of_form (Tests t) = expr_of_test t
  expr_of_form (Sum k p ns) = plus_all (neighbour k p) ns.items
  expr_of_form (One' u p a) = one u (expr_of_form a)
  expr_of_form (Two' b p a q c) = two b (expr_of_form a) (expr_of_form c)
  expr_of_form (Call' f shape args) = call f (exprs_of_row args)

  pub exprs_of_row : {k : _} → Row_of-Form k → Exprs
  exprs_of_row end_of-Form = nil
  exprs_of_row (more_of-Form a rest) = cons (expr_of_form a) (exprs_of_row rest)

-- expressions one after another
abbrev pub exprs_in : List Expr → Exprs
exprs_in [] = nil
exprs_in (e ∷ es) = cons e (exprs_in es)

-- the expressions of forms
abbrev pub exprs_of_forms : List Form → Exprs
exprs_of_forms forms = exprs_in (map expr_of_form forms)
