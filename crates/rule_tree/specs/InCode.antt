-- The expression and the rule that trees in code stand for.
use Rattle.std.specs.Prelude.{map}
use Rattle.rule_tree.specs.declared.node.Node.{Node, Row_of-Node, end_of-Node, more_of-Node}
use Rattle.rule_tree.specs.declared.node.Node.TheVariants.{Number, Truth, Neighbour, Variable, Now, PortValue, Counted, One', Two', Call'}
use Rattle.rule_tree.specs.declared.node.Give.{Give}
use Rattle.rule_tree.specs.declared.node.SetVariable.{SetVariable}
use Rattle.rule_tree.specs.declared.node.RuleTree.{RuleTree}
use Rattle.rule_tree.specs.Expression.{Expr, Exprs, Rule, call, cons, counted, neighbour, nil, now, number, one, port_value, truth, two, variable}

abbrev mutual
  pub expr_of : Node → Expr
  expr_of (Number v) = number v
  expr_of (Truth t) = truth t
  expr_of (Neighbour k p) = neighbour k p
  expr_of (Variable k) = variable k
  expr_of Now = now
  expr_of PortValue = port_value
  expr_of (Counted c) = counted c
  expr_of (One' u p n) = one u (expr_of n)
  expr_of (Two' b p n q m) = two b (expr_of n) (expr_of m)
  expr_of (Call' f shape args) = call f (exprs_of args)

  pub exprs_of : {k : _} → Row_of-Node k → Exprs
  exprs_of end_of-Node = nil
  exprs_of (more_of-Node n rest) = cons (expr_of n) (exprs_of rest)

-- a rule in code as a rule of the definitions
abbrev pub rule_of : RuleTree → Rule
rule_of r =
    record {
      gives = map (λ (g : Give). (g.port, expr_of g.value)) r.gives.items;
      delay = expr_of r.delay;
      condition = expr_of r.condition;
      sets = map (λ (x : SetVariable). (x.variable, expr_of x.value)) r.sets.items;
    }
