-- Calls in expressions, over the lists of their arguments.
use Rattle.std.proofs.Common.{◌≡◌, List, [], ◌∷◌, Vec, Global, map, refl, ap, ◌∙◌}
use mathlib.Core.Former.{Count}
use Rattle.rule_tree.specs.declared.function.Function.{Function}
use Rattle.rule_tree.specs.declared.node.Node.{Node, Row_of-Node, end_of-Node, more_of-Node, items-the_row-Node, items_hidden-the_row-Node-0}
use Rattle.rule_tree.specs.declared.node.Node.TheVariants.{Call, Call'}
use Rattle.rule_tree.specs.Expression.{Expr, Exprs, nil, cons, call}
use Rattle.rule_tree.specs.InCode.{expr_of, exprs_of}

-- expressions one after another
abbrev pub exprs_in : List Expr → Exprs
exprs_in [] = nil
exprs_in (e ∷ es) = cons e (exprs_in es)

abbrev row_of : Node → (n : Count) × Row_of-Node n
row_of (Call' f shape row) = (_, row)
row_of n = (_, end_of-Node)

exprs_in_row : (n : _) (row : Row_of-Node n) → exprs_of row ≡ exprs_in (map expr_of (items-the_row-Node n row))
exprs_in_row n end_of-Node = refl
exprs_in_row n (more_of-Node a rest) = ap (cons (expr_of a)) (exprs_in_row _ rest)

pub node_call : (f : Function) (args : Vec Node Global) → expr_of (Call f args) ≡ call f (exprs_in (map expr_of args.items))
node_call f args =
    let row = row_of (Call f args) in
    let same = items_hidden-the_row-Node-0 args in ap (call f) (exprs_in_row row.0 row.1 ∙ ap (λ (ns : List Node). exprs_in (map expr_of ns)) same)
