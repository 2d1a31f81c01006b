-- Sums of neighbours' values, one after another.
use Rattle.std.proofs.Common.{◌≡◌, ℕ, ℤ, ◌+◌, ◌+ℤ◌, ◌<◌, Option, Some, None, List, [], ◌∷◌, length, drop, get_or, refl, sym, ap, ◌∙◌}
use Rattle.quantity.specs.declared.value.Value.{Value}
use Rattle.quantity.specs.declared.value.Value.TheVariants.{Undefined, Num as Number}
use Rattle.quantity.specs.Arithmetic.{value_in_bounds, sum_of}
use Rattle.quantity.specs.Written.{for_some}
use Rattle.rule_tree.specs.declared.outcome.Answer.{Answer}
use Rattle.rule_tree.specs.declared.outcome.Answer.TheVariants.{Num}
use Rattle.rule_tree.specs.declared.node.Binary.TheVariants.{Add}
use Rattle.rule_tree.specs.Expression.{Expr, neighbour, two}
use Rattle.rule_tree.specs.Meaning.{Sight, number, two_meaning, as_answer, meaning}
use Rattle.rule_forms.specs.declared.forms.PortAt.{PortAt}
use Rattle.rule_forms.specs.Forms.{plus_all}
use Rattle.rule_eval.specs.Sums.{port_value_at, sum_from}
use Rattle.rule_forms.proofs.Stacks.{drop_next}

-- the port at a place of a list
abbrev pub item_at : List PortAt → ℕ → PortAt
item_at ns i = get_or ns i (record { offset = 0; port = 0 })

-- one step of the loop
sum_here : (ns : List PortAt) (i : ℕ) (v : Value) (nbs : List (List Value)) → i < length ns
    → sum_from v (drop i ns) nbs
    ≡ for_some (sum_of v (port_value_at nbs (item_at ns i).offset (item_at ns i).port))
    (λ w. sum_from w (drop (i + 1) ns) nbs)
sum_here ns i v nbs h =
    ap (λ (ms : List PortAt). sum_from v ms nbs)
    (drop_next ns i (record { offset = 0; port = 0 }) h)

-- a sum that is ? stays so
pub undefined_stays : (ns : List PortAt) (nbs : List (List Value))
    → sum_from Undefined ns nbs ≡ Some Undefined
undefined_stays [] nbs = refl
undefined_stays (n ∷ ns) nbs = undefined_stays ns nbs

-- one step of the loop from a number on, where the neighbour gave ?
pub undefined_here : (ns : List PortAt) (i : ℕ) (x : ℤ) (nbs : List (List Value)) (w : Value)
    → i < length ns → w ≡ port_value_at nbs (item_at ns i).offset (item_at ns i).port
    → w ≡ Undefined → sum_from (Number x) (drop i ns) nbs ≡ Some Undefined
undefined_here ns i x nbs w h found undefined =
    let rest : Value → Option Value = λ v. sum_from v (drop (i + 1) ns) nbs in
    sum_here ns i (Number x) nbs h
    ∙ ap (λ (v : Value). for_some (sum_of (Number x) v) rest) (sym found ∙ undefined)
    ∙ undefined_stays (drop (i + 1) ns) nbs

-- the same where it gave a number
pub number_here : (ns : List PortAt) (i : ℕ) (x y : ℤ) (nbs : List (List Value)) (w : Value)
    (sum : Option Value)
    → i < length ns → w ≡ port_value_at nbs (item_at ns i).offset (item_at ns i).port
    → w ≡ Number y → value_in_bounds (x +ℤ y) ≡ sum
    → sum_from (Number x) (drop i ns) nbs
    ≡ for_some sum (λ v. sum_from v (drop (i + 1) ns) nbs)
number_here ns i x y nbs w sum h found number made =
    let rest : Value → Option Value = λ v. sum_from v (drop (i + 1) ns) nbs in
    sum_here ns i (Number x) nbs h
    ∙ ap (λ (v : Value). for_some (sum_of (Number x) v) rest) (sym found ∙ number)
    ∙ ap (λ (o : Option Value). for_some o rest) made

-- an expression, to which a neighbour's value is added
abbrev with_port : Expr → PortAt → Expr
with_port e n = two Add e (neighbour n.offset n.port)

-- what it means, by what the expression means
added_means : (e : Expr) (n : PortAt) (s : Sight) (o : Option Answer) → meaning e s ≡ o
    → meaning (with_port e n) s
    ≡ for_some o (λ x. for_some (number (port_value_at s.neighbours n.offset n.port))
    (two_meaning Add x))
added_means e n s o h =
    ap (λ (m : Option Answer). for_some m (λ x.
    for_some (number (port_value_at s.neighbours n.offset n.port)) (two_meaning Add x))) h

-- what a sum means, where its beginning is too large
none_stays : (ns : List PortAt) (e : Expr) (s : Sight) → meaning e s ≡ None
    → meaning (plus_all e ns) s ≡ None
none_stays [] e s h = h
none_stays (n ∷ ns) e s h = none_stays ns (with_port e n) s (added_means e n s None h)

-- what a sum means, from the value of its beginning on
pub sum_means : (ns : List PortAt) (e : Expr) (v : Value) (s : Sight)
    → meaning e s ≡ Some (Num v)
    → meaning (plus_all e ns) s ≡ as_answer (sum_from v ns s.neighbours)
sum_means [] e v s h = h
sum_means (n ∷ ns) e v s h =
    at (sum_of v (port_value_at s.neighbours n.offset n.port))
    (added_means e n s (Some (Num v)) h)
    (λ w is. sum_means ns (with_port e n) w s is)
  where
    at : (o : Option Value) → meaning (with_port e n) s ≡ as_answer o
        → ((w : Value) → meaning (with_port e n) s ≡ Some (Num w)
        → meaning (plus_all (with_port e n) ns) s ≡ as_answer (sum_from w ns s.neighbours))
        → meaning (plus_all (with_port e n) ns) s
        ≡ as_answer (for_some o (λ w. sum_from w ns s.neighbours))
    at None is rest = none_stays ns (with_port e n) s is
    at (Some w) is rest = rest w is
