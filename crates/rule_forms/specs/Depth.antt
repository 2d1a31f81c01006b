-- How many arguments of functions stand on the stack.
use Rattle.std.specs.Prelude.{ℕ, ◌+◌, max, List, [], ◌∷◌}
use Rattle.rule_tree.specs.Expression as E
use Rattle.rule_tree.specs.Expression.{Expr, Exprs, Rule}

-- the most that stand at once while an expression is evaluated: the arguments of a function are put
-- there one after another, and taken off by it
abbrev mutual
  pub depth_of : Expr → ℕ
  depth_of (E.number v) = 0
  depth_of (E.truth t) = 0
  depth_of (E.neighbour k p) = 0
  depth_of (E.variable k) = 0
  depth_of E.now = 0
  depth_of E.port_value = 0
  depth_of (E.counted c) = 0
  depth_of (E.one u a) = depth_of a
  depth_of (E.two b a c) = max (depth_of a) (depth_of c)
  depth_of (E.call f args) = depth_of_all args

  pub depth_of_all : Exprs → ℕ
  depth_of_all E.nil = 0
  depth_of_all (E.cons a rest) = max (depth_of a) (1 + depth_of_all rest)

-- the most that any of these expressions needs
abbrev pub deepest : List (ℕ × Expr) → ℕ
deepest [] = 0
deepest (g ∷ gs) = max (depth_of g.1) (deepest gs)

-- the most that stand at once, whichever part of the rule is evaluated
abbrev pub rule_depth : Rule → ℕ
rule_depth r =
    max (depth_of r.condition) (max (deepest r.gives) (max (depth_of r.delay) (deepest r.sets)))

-- how many nodes an expression has
abbrev mutual
  pub nodes_of : Expr → ℕ
  nodes_of (E.number v) = 1
  nodes_of (E.truth t) = 1
  nodes_of (E.neighbour k p) = 1
  nodes_of (E.variable k) = 1
  nodes_of E.now = 1
  nodes_of E.port_value = 1
  nodes_of (E.counted c) = 1
  nodes_of (E.one u a) = nodes_of a + 1
  nodes_of (E.two b a c) = nodes_of a + nodes_of c + 1
  nodes_of (E.call f args) = nodes_of_all args + 1

  pub nodes_of_all : Exprs → ℕ
  nodes_of_all E.nil = 0
  nodes_of_all (E.cons a rest) = nodes_of a + nodes_of_all rest

-- how many nodes these expressions have
abbrev pub nodes_in : List (ℕ × Expr) → ℕ
nodes_in [] = 0
nodes_in (g ∷ gs) = nodes_of g.1 + nodes_in gs

-- how many nodes a rule's trees have
abbrev pub rule_nodes : Rule → ℕ
rule_nodes r = nodes_of r.condition + nodes_in r.gives + nodes_of r.delay + nodes_in r.sets
