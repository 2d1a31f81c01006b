-- Rules as they are written: cells by their coordinates, variables and ports by their words.
use Rattle.std.specs.Prelude.{ℕ, Option, List, ◌∷◌, map, length, ℤ, codes, []}
use Rattle.std.specs.List.{find}
use Rattle.std.specs.Option.{option_map}
use Rattle.std.specs.Str.{bytes_eq}
use Rattle.quantity.specs.declared.truth.Tri.{Tri}
use Rattle.quantity.specs.declared.value.Value.{Value}
use Rattle.quantity.specs.declared.value.Compare.TheVariants.{Equal, Unequal, Less, LessEqual, Greater, GreaterEqual}
use Rattle.rule_tree.specs.declared.node.Unary.{Unary}
use Rattle.rule_tree.specs.declared.node.Binary.{Binary}
use Rattle.rule_tree.specs.declared.node.Binary.TheVariants.{Imp, Eqv, Or, Xor, And, Cmp, Add, Sub, Mul, Div}
use Rattle.rule_tree.specs.declared.node.Count.{Count}
use Rattle.rule_tree.specs.declared.node.Count.TheVariants.{Ones, Zeros, Undefs}
use Rattle.rule_tree.specs.declared.function.Function.{Function}
use Rattle.rule_tree.specs.declared.function.TheConstants.Function.{ALL}
use Rattle.rule_tree.specs.Functions.{row}
use Rattle.rule_tree.specs.Sound.{function_signature}
use Rattle.quantity.specs.Bytes.{Bytes}

-- a neighbour by the coordinates of its offset, and which of its ports is read
pub record Cell : Type 0 where
  pub place : List ℤ
  pub port : Bytes

-- an expression as it is written: neighbours by their coordinates, variables and ports by their
-- words
mutual
  pub data Phrase : Type 0 where
    value : Value → Phrase
    truth : Tri → Phrase
    cell : Cell → Phrase
    variable : Bytes → Phrase
    now : Phrase
    port_value : Phrase
    counted : Count → Phrase
    one : Unary → Phrase → Phrase
    two : Binary → Phrase → Phrase → Phrase
    call : Function → Phrases → Phrase

  pub data Phrases : Type 0 where
    nil : Phrases
    cons : Phrase → Phrases → Phrases

-- phrases one after another
abbrev pub phrases : List Phrase → Phrases
phrases [] = nil
phrases (p ∷ ps) = cons p (phrases ps)

-- a phrase for a port or a variable
pub record Assigned : Type 0 where
  pub name : Bytes
  pub phrase : Phrase

-- a rule as it is written
pub record Written : Type 0 where
  pub gives : List Assigned
  pub delay : Phrase
  pub condition : Phrase
  pub sets : List Assigned

-- the port that each cell has
abbrev pub out : Bytes
out = codes "out"

-- ---- the levels of the grammar, the loosest first

-- how tightly operators bind, the loosest first
pub data Level : Type 0 where
  expr : Level
  disj : Level
  conj : Level
  neg : Level
  comp : Level
  sum : Level
  prod : Level
  signed : Level
  primary : Level

-- the next tighter level
abbrev pub tighter : Level → Level
tighter expr = disj
tighter disj = conj
tighter conj = neg
tighter neg = comp
tighter comp = sum
tighter sum = prod
tighter prod = signed
tighter signed = primary
tighter primary = primary

-- the level of a left operand: comparisons aren't joined to one another
abbrev pub left_of : Level → Level
left_of expr = expr
left_of disj = disj
left_of conj = conj
left_of neg = neg
left_of comp = sum
left_of sum = sum
left_of prod = prod
left_of signed = signed
left_of primary = primary

-- ---- words and marks of operators, counts and functions

-- the operators of a level that are words, and those that are marks
abbrev pub operator_words : Level → List (Bytes × Binary)
operator_words expr = (codes "imp", Imp) ∷ (codes "eqv", Eqv) ∷ []
operator_words disj = (codes "or", Or) ∷ (codes "xor", Xor) ∷ []
operator_words conj = (codes "and", And) ∷ []
operator_words neg = []
operator_words comp = []
operator_words sum = []
operator_words prod = []
operator_words signed = []
operator_words primary = []

-- the operators of a level
abbrev pub operator_marks : Level → List (Bytes × Binary)
operator_marks expr = []
operator_marks disj = []
operator_marks conj = []
operator_marks neg = []
operator_marks comp =
    (codes "=", Cmp Equal) ∷ (codes "!=", Cmp Unequal) ∷ (codes "<", Cmp Less)
    ∷ (codes "<=", Cmp LessEqual) ∷ (codes ">", Cmp Greater)
    ∷ (codes ">=", Cmp GreaterEqual) ∷ []
operator_marks sum = (codes "+", Add) ∷ (codes "-", Sub) ∷ []
operator_marks prod = (codes "*", Mul) ∷ (codes "/", Div) ∷ []
operator_marks signed = []
operator_marks primary = []

-- the words that count neighbours
abbrev pub counts : List (Bytes × Count)
counts = (codes "truecount", Ones) ∷ (codes "falsecount", Zeros) ∷ (codes "undefcount", Undefs) ∷ []

-- each function by its word
abbrev pub functions : List (Bytes × Function)
functions = map (λ (f : Function). ((row f).word, f)) ALL

-- what a table has for a text
abbrev pub looked_up : {A : Type 0} → List (Bytes × A) → Bytes → Option A
looked_up {A} table text =
    option_map (λ (p : Bytes × A). p.1) (find (λ (p : Bytes × A). bytes_eq p.0 text) table)

-- how many operands a function takes
abbrev pub argument_count : Function → ℕ
argument_count f = length (function_signature f).takes

-- the words of a table
abbrev pub first_texts : {A : Type 0} → List (Bytes × A) → List Bytes
first_texts {A} table = map (λ (p : Bytes × A). p.0) table
