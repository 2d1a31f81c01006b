-- Private: how the logic stores an expression, as a list of signs that gives it back. A type that
-- is seen as a rule needs this for its `coded`; nothing else speaks of signs.
use Rattle.std.specs.Prelude.{◌≡◌, ℕ, List, [], ◌∷◌}
use Rattle.std.proofs.Common.{refl, ap, ◌∙◌}
use Rattle.std.specs.Coded.{Coded, code_by, coded_list}
use Rattle.quantity.specs.declared.truth.Tri.{Tri}
use Rattle.quantity.specs.declared.value.Value.{Value}
use Rattle.rule_tree.specs.declared.node.Unary.{Unary}
use Rattle.rule_tree.specs.declared.node.Binary.{Binary}
use Rattle.rule_tree.specs.declared.node.Count.{Count}
use Rattle.rule_tree.specs.declared.function.Function.{Function}
use Rattle.rule_tree.specs.Expression as E
use Rattle.rule_tree.specs.Expression.{Expr, Exprs}

-- a node without its parts, which stand before it
pub data Sign : Type 0 where
  number : Value → Sign
  truth : Tri → Sign
  neighbour : (offset port : ℕ) → Sign
  variable : ℕ → Sign
  now : Sign
  port_value : Sign
  counted : Count → Sign
  one : Unary → Sign
  two : Binary → Sign
  call : Function → Sign
  nil : Sign
  cons : Sign

-- the signs of an expression, before others
abbrev mutual
  pub signs_of : Expr → List Sign → List Sign
  signs_of (E.number v) rest = number v ∷ rest
  signs_of (E.truth t) rest = truth t ∷ rest
  signs_of (E.neighbour k p) rest = neighbour k p ∷ rest
  signs_of (E.variable k) rest = variable k ∷ rest
  signs_of E.now rest = now ∷ rest
  signs_of E.port_value rest = port_value ∷ rest
  signs_of (E.counted c) rest = counted c ∷ rest
  signs_of (E.one u a) rest = signs_of a (one u ∷ rest)
  signs_of (E.two b a c) rest = signs_of a (signs_of c (two b ∷ rest))
  signs_of (E.call f args) rest = signs_of_all args (call f ∷ rest)

  pub signs_of_all : Exprs → List Sign → List Sign
  signs_of_all E.nil rest = nil ∷ rest
  signs_of_all (E.cons a more) rest = signs_of a (signs_of_all more (cons ∷ rest))

-- what was read: expressions, and lists of them, the latest first
abbrev pub read_on : Sign → List Expr → List Exprs → List Expr × List Exprs
read_on (number v) es ls = (E.number v ∷ es, ls)
read_on (truth t) es ls = (E.truth t ∷ es, ls)
read_on (neighbour k p) es ls = (E.neighbour k p ∷ es, ls)
read_on (variable k) es ls = (E.variable k ∷ es, ls)
read_on now es ls = (E.now ∷ es, ls)
read_on port_value es ls = (E.port_value ∷ es, ls)
read_on (counted c) es ls = (E.counted c ∷ es, ls)
read_on (one u) [] ls = ([], ls)
read_on (one u) (a ∷ es) ls = (E.one u a ∷ es, ls)
read_on (two b) [] ls = ([], ls)
read_on (two b) (c ∷ []) ls = ([], ls)
read_on (two b) (c ∷ a ∷ es) ls = (E.two b a c ∷ es, ls)
read_on (call f) es [] = (es, [])
read_on (call f) es (l ∷ ls) = (E.call f l ∷ es, ls)
read_on nil es ls = (es, E.nil ∷ ls)
read_on cons [] ls = ([], ls)
read_on cons (a ∷ es) [] = (a ∷ es, [])
read_on cons (a ∷ es) (l ∷ ls) = (es, E.cons a l ∷ ls)

abbrev pub read_all : List Sign → List Expr × List Exprs → List Expr × List Exprs
read_all [] r = r
read_all (x ∷ xs) r = read_all xs (read_on x r.0 r.1)

-- the expression that was read last
abbrev pub latest : List Expr → Expr
latest [] = E.now
latest (e ∷ es) = e

-- signs give their expression back
mutual
  pub back : (e : Expr) (rest : List Sign) (es : List Expr) (ls : List Exprs)
      → read_all (signs_of e rest) (es, ls) ≡ read_all rest (e ∷ es, ls)
  back (E.number v) rest es ls = refl
  back (E.truth t) rest es ls = refl
  back (E.neighbour k p) rest es ls = refl
  back (E.variable k) rest es ls = refl
  back E.now rest es ls = refl
  back E.port_value rest es ls = refl
  back (E.counted c) rest es ls = refl
  back (E.one u a) rest es ls = back a (one u ∷ rest) es ls
  back (E.two b a c) rest es ls =
      back a (signs_of c (two b ∷ rest)) es ls ∙ back c (two b ∷ rest) (a ∷ es) ls
  back (E.call f args) rest es ls = back_all args (call f ∷ rest) es ls

  pub back_all : (args : Exprs) (rest : List Sign) (es : List Expr) (ls : List Exprs)
      → read_all (signs_of_all args rest) (es, ls) ≡ read_all rest (es, args ∷ ls)
  back_all E.nil rest es ls = refl
  back_all (E.cons a more) rest es ls =
      back a (signs_of_all more (cons ∷ rest)) es ls ∙ back_all more (cons ∷ rest) (a ∷ es) ls

-- an expression is stored as its signs
abbrev pub expr_code : Coded Sign → Coded Expr
expr_code sign =
    code_by (List Sign) (coded_list sign) (λ e. signs_of e [])
    (λ xs. latest (read_all xs ([], [])).0)
    (λ e. ap (λ (r : List Expr × List Exprs). latest r.0) (back e [] [] []))
