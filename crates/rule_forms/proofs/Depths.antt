-- A rule is no deeper than its trees have nodes.
use Rattle.std.proofs.Common.{◌≡◌, ℕ, ◌≤◌, List, [], ◌∷◌, sym, subst, arith}
use Rattle.std.proofs.Math.Nat.{max-le}
use Rattle.rule_tree.specs.Expression as E
use Rattle.rule_tree.specs.Expression.{Expr, Exprs, Rule}
use Rattle.rule_forms.specs.Depth.{depth_of, depth_of_all, deepest, rule_depth, nodes_of, nodes_of_all, nodes_in, rule_nodes}

-- an expression has a node
some_node : (e : Expr) → 1 ≤ nodes_of e
some_node (E.number v) = omega arith
some_node (E.truth t) = omega arith
some_node (E.neighbour k p) = omega arith
some_node (E.variable k) = omega arith
some_node E.now = omega arith
some_node E.port_value = omega arith
some_node (E.counted c) = omega arith
some_node (E.one u a) = omega arith
some_node (E.two b a c) = omega arith
some_node (E.call f args) = omega arith

mutual
  no_deeper_than : (e : Expr) → depth_of e ≤ nodes_of e
  no_deeper_than (E.number v) = omega arith
  no_deeper_than (E.truth t) = omega arith
  no_deeper_than (E.neighbour k p) = omega arith
  no_deeper_than (E.variable k) = omega arith
  no_deeper_than E.now = omega arith
  no_deeper_than E.port_value = omega arith
  no_deeper_than (E.counted c) = omega arith
  no_deeper_than (E.one u a) = omega (arith, no_deeper_than a)
  no_deeper_than (E.two b a c) = max-le (omega (arith, no_deeper_than a)) (omega (arith, no_deeper_than c))
  no_deeper_than (E.call f args) = omega (arith, none_deeper_than args)

  none_deeper_than : (es : Exprs) → depth_of_all es ≤ nodes_of_all es
  none_deeper_than E.nil = omega arith
  none_deeper_than (E.cons a rest) =
      max-le (omega (arith, no_deeper_than a)) (omega (arith, some_node a, none_deeper_than rest))

none_deeper : (gs : List (ℕ × Expr)) → deepest gs ≤ nodes_in gs
none_deeper [] = omega arith
none_deeper (g ∷ gs) = max-le (omega (arith, no_deeper_than g.1)) (omega (arith, none_deeper gs))

-- so is a rule that stands for such trees
pub no_deeper : (r code : Rule) → code ≡ r → rule_depth code ≤ rule_nodes r
no_deeper r code is =
    let whole : rule_depth r ≤ rule_nodes r = max-le (omega (arith, no_deeper_than r.condition)) (max-le (omega (arith, none_deeper r.gives)) (max-le (omega (arith, no_deeper_than r.delay)) (omega (arith, none_deeper r.sets)))) in
    let P : Rule → Type 0 = λ d. rule_depth d ≤ rule_nodes r in subst P (sym is) whole
