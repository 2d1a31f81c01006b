-- The depth of gives, sets and arguments, one by one.
use Rattle.std.proofs.Common.{◌≡◌, ℕ, ◌+◌, ◌<◌, ◌++◌, List, [], ◌∷◌, length, map, take, drop, get_or, max, sym, ap, ◌∙◌}
use Rattle.std.proofs.lemmas.List.{map_more}
use Rattle.rule_tree.specs.declared.node.Node.{Node}
use Rattle.rule_tree.specs.declared.node.Give.{Give}
use Rattle.rule_tree.specs.declared.node.SetVariable.{SetVariable}
use Rattle.rule_tree.specs.Expression.{Expr}
use Rattle.rule_tree.specs.InCode.{expr_of}
use Rattle.rule_forms.specs.Forms.{exprs_in}
use Rattle.rule_forms.specs.Depth.{depth_of, depth_of_all, deepest}
use Rattle.rule_forms.proofs.Stacks.{drop_here}

abbrev pub give_pair : Give → ℕ × Expr
give_pair g = (g.port, expr_of g.value)

abbrev pub set_pair : SetVariable → ℕ × Expr
set_pair x = (x.variable, expr_of x.value)

pub give_here : (gives : List Give) (i : ℕ) (g : Give) → i < length gives → g ≡ get_or gives i g
    → deepest (map give_pair (drop i gives)) ≡ max (depth_of (expr_of g.value)) (deepest (map give_pair (drop (i + 1) gives)))
give_here gives i g h is = ap (λ (gs : List Give). deepest (map give_pair gs)) (drop_here gives i g h is)

pub set_here : (sets : List SetVariable) (i : ℕ) (x : SetVariable) → i < length sets → x ≡ get_or sets i x
    → deepest (map set_pair (drop i sets)) ≡ max (depth_of (expr_of x.value)) (deepest (map set_pair (drop (i + 1) sets)))
set_here sets i x h is = ap (λ (xs : List SetVariable). deepest (map set_pair xs)) (drop_here sets i x h is)

-- what arguments need from one of them on
abbrev pub rest_depth : List Node → ℕ
rest_depth nodes = depth_of_all (exprs_in (map expr_of nodes))

pub argument_here : (nodes : List Node) (i : ℕ) (n : Node) → i < length nodes → n ≡ get_or nodes i n
    → rest_depth (drop i nodes) ≡ max (depth_of (expr_of n)) (1 + rest_depth (drop (i + 1) nodes))
argument_here nodes i n h is = ap rest_depth (drop_here nodes i n h is)

-- one expression more, for a port or a variable
pub pair_more : {X : Type 0} (pair : X → ℕ × Expr) (xs : List X) (i : ℕ) (x : X) (old new : List (ℕ × Expr)) → i < length xs → x ≡ get_or xs i x
    → old ≡ map pair (take i xs) → new ≡ old ++ pair x ∷ [] → new ≡ map pair (take (i + 1) xs)
pair_more pair xs i x old new h is e f =
    let took : map pair (take (i + 1) xs) ≡ map pair (take i xs) ++ pair x ∷ [] = map_more pair xs i x h ∙ ap (λ y. map pair (take i xs) ++ pair y ∷ []) (sym is) in
    f ∙ ap (λ (ps : List (ℕ × Expr)). ps ++ pair x ∷ []) e ∙ sym took
