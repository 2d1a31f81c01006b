-- Room on the stack for the parts of an expression.
use Rattle.std.proofs.Common.{◌≡◌, ℕ, Vec, Global, vec_len, length, ◌+◌, ◌≤◌, max, [], ◌∷◌, ◌++◌, sym, subst, ap, ◌∙◌, arith, length-append}
use Rattle.std.proofs.Math.Nat.{le-max_left, le-max_right}
use Rattle.rule_tree.specs.declared.outcome.Answer.{Answer}
use Rattle.rule_tree.specs.declared.node.Unary.{Unary}
use Rattle.rule_tree.specs.declared.node.Binary.{Binary}
use Rattle.rule_tree.specs.declared.function.Function.{Function}
use Rattle.rule_tree.specs.Expression as E
use Rattle.rule_tree.specs.Expression.{Expr, Exprs}
use Rattle.rule_forms.specs.Depth.{depth_of, depth_of_all}

pub operand_room : (u : Unary) (e a : Expr) (h room : ℕ) → e ≡ E.one u a → h + depth_of e ≤ room → h + depth_of a ≤ room
operand_room u e a h room is fits = subst (λ (x : Expr). h + depth_of x ≤ room) is fits

pub left_room : (b : Binary) (e a c : Expr) (h room : ℕ) → e ≡ E.two b a c → h + depth_of e ≤ room → h + depth_of a ≤ room
left_room b e a c h room is fits =
    let whole : h + max (depth_of a) (depth_of c) ≤ room = subst (λ (x : Expr). h + depth_of x ≤ room) is fits in
    omega (arith, whole, le-max_left (depth_of a) (depth_of c))

pub right_room : (b : Binary) (e a c : Expr) (h room : ℕ) → e ≡ E.two b a c → h + depth_of e ≤ room → h + depth_of c ≤ room
right_room b e a c h room is fits =
    let whole : h + max (depth_of a) (depth_of c) ≤ room = subst (λ (x : Expr). h + depth_of x ≤ room) is fits in
    omega (arith, whole, le-max_right (depth_of a) (depth_of c))

pub arguments_room : (f : Function) (e : Expr) (args : Exprs) (h room : ℕ) → e ≡ E.call f args → h + depth_of e ≤ room → h + depth_of_all args ≤ room
arguments_room f e args h room is fits = subst (λ (x : Expr). h + depth_of x ≤ room) is fits

pub first_room : (all : Exprs) (a : Expr) (es : Exprs) (h room : ℕ) → all ≡ E.cons a es → h + depth_of_all all ≤ room → h + depth_of a ≤ room
first_room all a es h room is fits =
    let whole : h + max (depth_of a) (1 + depth_of_all es) ≤ room = subst (λ (xs : Exprs). h + depth_of_all xs ≤ room) is fits in
    omega (arith, whole, le-max_left (depth_of a) (1 + depth_of_all es))

pub rest_room : (all : Exprs) (a : Expr) (es : Exprs) (h room : ℕ) → all ≡ E.cons a es → h + depth_of_all all ≤ room → (h + 1) + depth_of_all es ≤ room
rest_room all a es h room is fits =
    let whole : h + max (depth_of a) (1 + depth_of_all es) ≤ room = subst (λ (xs : Exprs). h + depth_of_all xs ≤ room) is fits in
    omega (arith, whole, le-max_right (depth_of a) (1 + depth_of_all es))

pub above_room : (es : Exprs) (h room : ℕ) → h + depth_of_all es ≤ room → h ≤ room
above_room es h room fits = omega (arith, fits)

-- the same room, where a stack is as high as another
pub moved_room : (depth h k room more : ℕ) → k ≡ h → more ≡ room → h + depth ≤ room → k + depth ≤ more
moved_room depth h k room more up same fits = omega (arith, up, same, fits)

pub same_height : (v w : Vec Answer Global) → w.items ≡ v.items → vec_len w ≡ vec_len v
same_height v w e = w.ok.0 ∙ ap length e ∙ sym v.ok.0

pub one_higher : (v w : Vec Answer Global) (x : Answer) → w.items ≡ v.items ++ x ∷ [] → vec_len w ≡ vec_len v + 1
one_higher v w x e =
    let longer = ap length e in
    let more = length-append v.items (x ∷ []) in omega (arith, w.ok.0, v.ok.0, longer, more)
