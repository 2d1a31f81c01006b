-- Forms and the trees that they stand for, node by node.
use Rattle.std.proofs.Common.{◌≡◌, List, [], ◌∷◌, ◌++◌, Vec, Global, map, refl, ap, ◌∙◌}
use mathlib.Core.Former.{Count}
use Rattle.rule_tree.specs.declared.function.Function.{Function}
use Rattle.rule_tree.specs.declared.node.Node.{Node, Row_of-Node, end_of-Node, more_of-Node, items-the_row-Node, items_hidden-the_row-Node-0}
use Rattle.rule_tree.specs.declared.node.Node.TheVariants.{Call as NodeCall, Call' as NodeCall'}
use Rattle.rule_tree.specs.declared.node.Binary.TheVariants.{Add}
use Rattle.rule_tree.specs.Expression.{Expr, neighbour, two, call, cons}
use Rattle.rule_tree.specs.InCode.{expr_of, exprs_of}
use Rattle.rule_forms.specs.declared.forms.PortAt.{PortAt}
use Rattle.rule_forms.specs.declared.forms.Form.{Form, Row_of-Form, end_of-Form, more_of-Form, items-the_row-Form, items_hidden-the_row-Form-0}
use Rattle.rule_forms.specs.declared.forms.Form.TheVariants.{Call as FormCall, Call' as FormCall'}
use Rattle.rule_forms.specs.Forms.{plus_all, expr_of_form, exprs_of_row, exprs_in}

-- one more neighbour in a sum
pub one_more : (e : Expr) (ns : List PortAt) (n : PortAt) → plus_all e (ns ++ n ∷ []) ≡ two Add (plus_all e ns) (neighbour n.offset n.port)
one_more e [] n = refl
one_more e (m ∷ ns) n = one_more (two Add e (neighbour m.offset m.port)) ns n

-- ---- calls, over the lists of their arguments

abbrev node_row : Node → (n : Count) × Row_of-Node n
node_row (NodeCall' f shape row) = (_, row)
node_row n = (_, end_of-Node)

node_exprs : (n : _) (row : Row_of-Node n) → exprs_of row ≡ exprs_in (map expr_of (items-the_row-Node n row))
node_exprs n end_of-Node = refl
node_exprs n (more_of-Node a rest) = ap (cons (expr_of a)) (node_exprs _ rest)

pub node_call : (f : Function) (args : Vec Node Global) → expr_of (NodeCall f args) ≡ call f (exprs_in (map expr_of args.items))
node_call f args =
    let row = node_row (NodeCall f args) in
    let same = items_hidden-the_row-Node-0 args in ap (call f) (node_exprs row.0 row.1 ∙ ap (λ (ns : List Node). exprs_in (map expr_of ns)) same)

abbrev form_row : Form → (n : Count) × Row_of-Form n
form_row (FormCall' f shape row) = (_, row)
form_row n = (_, end_of-Form)

form_exprs : (n : _) (row : Row_of-Form n) → exprs_of_row row ≡ exprs_in (map expr_of_form (items-the_row-Form n row))
form_exprs n end_of-Form = refl
form_exprs n (more_of-Form a rest) = ap (cons (expr_of_form a)) (form_exprs _ rest)

pub form_call : (f : Function) (args : Vec Form Global) → expr_of_form (FormCall f args) ≡ call f (exprs_in (map expr_of_form args.items))
form_call f args =
    let row = form_row (FormCall f args) in
    let same = items_hidden-the_row-Form-0 args in ap (call f) (form_exprs row.0 row.1 ∙ ap (λ (fs : List Form). exprs_in (map expr_of_form fs)) same)
