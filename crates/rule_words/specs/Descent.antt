-- The phrase at the front of tokens, read from left to right: each reader gives what it read and
-- the tokens after it.
use Rattle.std.specs.Prelude.{ℕ, zero, suc, Option, Some, None, List, [], ◌∷◌, ◌++◌, length}
use Rattle.std.specs.Prelude.{if◌then◌else◌, codes}
use Rattle.std.specs.Option.{option_map, option_or}
use Rattle.std.specs.Bool.{then_some}
use Rattle.std.specs.Str.{bytes_eq}
use Rattle.quantity.specs.declared.value.Value.TheVariants.{Undefined, Num}
use Rattle.quantity.specs.Bytes.{Bytes, is_empty}
use Rattle.quantity.specs.Literals.{unsigned_literal}
use Rattle.rule_tree.specs.declared.node.Unary.{Unary}
use Rattle.rule_tree.specs.declared.node.Unary.TheVariants.{Plus, Minus, Not}
use Rattle.rule_tree.specs.declared.function.Function.{Function}
use Rattle.rule_words.specs.Tokens.{Token, word, number, mark, is_mark, is_word}
use Rattle.rule_tree.specs.Phrases as P
use Rattle.rule_tree.specs.Phrases.{Phrase, Level, expr, disj, conj, neg, comp, sum, prod, signed}
use Rattle.rule_tree.specs.Phrases.{primary, functions, looked_up}
use Rattle.rule_words.specs.Reading.{Prefix, operator_in, word_phrase, is_port_value}
use Rattle.rule_words.specs.Reading.{cell_phrase_before, call_phrase}

-- what reads a phrase at the head of tokens
abbrev pub Reader : Type 0
Reader = List Token → Prefix Phrase

-- goes on behind what was read
abbrev pub then_on : {A B : Type 0} → Prefix A → (A → List Token → Prefix B) → Prefix B
then_on None go = None
then_on (Some p) go = go p.0 p.1

-- what is read, changed
abbrev pub prefix_map : {A B : Type 0} → (A → B) → Prefix A → Prefix B
prefix_map f p = option_map (λ q. (f q.0, q.1)) p

-- ---- operators

-- what was read so far, joined with the operands behind the operators of a level, at most so many,
-- from the left
abbrev pub joined_operands : ℕ → Reader → Level → Phrase → List Token → Prefix Phrase
joined_operands k operand l x [] = Some (x, [])
joined_operands zero operand l x (t ∷ ts) = Some (x, t ∷ ts)
joined_operands (suc k) operand l x (t ∷ ts) =
    elim (operator_in l t) [
      | None ↦ Some (x, t ∷ ts)
      | Some b ↦ then_on (operand ts) (λ y rest. joined_operands k operand l (P.two b x y) rest)
    ]

-- operands with any number of operators between
abbrev pub operand_chain : Level → Reader → Reader
operand_chain l operand ts =
    then_on (operand ts) (λ x rest. joined_operands (length rest) operand l x rest)

-- the word not
abbrev pub not_in : Token → Option Unary
not_in t = then_some (is_word (codes "not") t) Not

-- a plus or a minus
abbrev pub sign_in : Token → Option Unary
sign_in t = if is_mark (codes "+") t then Some Plus else then_some (is_mark (codes "-") t) Minus

-- an operand behind any number of signs
abbrev pub signed_operand : (Token → Option Unary) → Reader → Reader
signed_operand sign operand [] = operand []
signed_operand sign operand (t ∷ ts) =
    elim
    (sign t) [
      | None ↦ operand (t ∷ ts)
      | Some u ↦ prefix_map (P.one u)
          (signed_operand sign operand ts)
    ]

-- ---- primaries

-- the value at the port that the rules are for
abbrev pub port_value_before : Reader
port_value_before (a ∷ b ∷ c ∷ d ∷ ts) =
    then_some (is_port_value (a ∷ b ∷ c ∷ d ∷ [])) (P.port_value, ts)
port_value_before ts = None

-- a phrase that begins with this word
abbrev pub word_before : Bytes → Reader
word_before w ts =
    option_or (option_map (λ x. (x, ts)) (word_phrase w)) (port_value_before (word w ∷ ts))

-- a variable
abbrev pub variable_before : Reader
variable_before (mark m ∷ word w ∷ ts) = then_some (bytes_eq m (codes "$")) (P.variable w, ts)
variable_before ts = None

-- a phrase that begins with this mark
abbrev pub mark_before : Bytes → Reader
mark_before m ts =
    if bytes_eq m (codes "?") then Some (P.value Undefined, ts)
    else option_or (variable_before (mark m ∷ ts)) (cell_phrase_before (mark m ∷ ts))

-- a primary without phrases in it
abbrev pub atom_before : Reader
atom_before [] = None
atom_before (number text ∷ ts) = option_map (λ n. (P.value (Num n), ts)) (unsigned_literal text)
atom_before (word w ∷ ts) = word_before w ts
atom_before (mark m ∷ ts) = mark_before m ts

-- an opening parenthesis, behind the name of a function or behind nothing
abbrev pub opening_before : List Token → Prefix (Option Function)
opening_before (mark m ∷ ts) = then_some (bytes_eq m (codes "(")) (None, ts)
opening_before (word w ∷ mark m ∷ ts) =
    if bytes_eq m (codes "(") then option_map (λ f. (Some f, ts)) (looked_up functions w) else None
opening_before ts = None

-- what was read, where a closing parenthesis follows
abbrev pub prefix_if_closed : {A : Type 0} → A → List Token → Prefix A
prefix_if_closed x [] = None
prefix_if_closed x (t ∷ ts) = then_some (is_mark (codes ")") t) (x, ts)

-- the phrases read so far, and those behind commas, at most so many
abbrev pub comma_list : ℕ → Reader → List Phrase → List Token → Prefix (List Phrase)
comma_list k read xs [] = Some (xs, [])
comma_list zero read xs (t ∷ ts) = Some (xs, t ∷ ts)
comma_list (suc k) read xs (t ∷ ts) =
    if is_mark (codes ",") t then then_on (read ts)
    (λ y rest. comma_list k read (xs ++ y ∷ []) rest)
    else Some (xs, t ∷ ts)

-- phrases between commas
abbrev pub list_before : Reader → List Token → Prefix (List Phrase)
list_before read ts = then_on (read ts) (λ x rest. comma_list (length rest) read (x ∷ []) rest)

-- what stands in parentheses
abbrev pub enclosed_before : Reader → Reader
enclosed_before read ts = then_on (read ts) prefix_if_closed

-- the arguments of a function
abbrev pub call_before : Function → Reader → Reader
call_before f read ts =
    then_on (then_on (list_before read ts) prefix_if_closed)
    (λ xs rest. option_map (λ x. (x, rest)) (call_phrase f (Some xs)))

-- what stands in parentheses: a phrase, or the operands of a function
abbrev pub reader_in_parentheses : Reader → Option Function → Reader
reader_in_parentheses read None = enclosed_before read
reader_in_parentheses read (Some f) = call_before f read

-- a phrase without operators outside parentheses
abbrev pub primary_before : Reader → Reader
primary_before read ts =
    option_or (atom_before ts) (then_on (opening_before ts) (reader_in_parentheses read))

-- ---- levels, where `read` reads what stands in parentheses

-- the same behind signs
abbrev pub signed_before : Reader → Reader
signed_before read = signed_operand sign_in (primary_before read)

-- products
abbrev pub prod_before : Reader → Reader
prod_before read = operand_chain prod (signed_before read)

-- sums
abbrev pub sum_before : Reader → Reader
sum_before read = operand_chain sum (prod_before read)

-- a comparison is joined to no other
abbrev pub comp_before : Reader → Reader
comp_before read ts = then_on (sum_before read ts) (joined_operands 1 (sum_before read) comp)

-- comparisons behind not
abbrev pub neg_before : Reader → Reader
neg_before read = signed_operand not_in (comp_before read)

-- conjunctions
abbrev pub conj_before : Reader → Reader
conj_before read = operand_chain conj (neg_before read)

-- disjunctions
abbrev pub disj_before : Reader → Reader
disj_before read = operand_chain disj (conj_before read)

-- whole phrases
abbrev pub expr_before : Reader → Reader
expr_before read = operand_chain expr (disj_before read)

-- phrases whose operators bind at least so tightly
abbrev pub at_level : Reader → Level → Reader
at_level read expr = expr_before read
at_level read disj = disj_before read
at_level read conj = conj_before read
at_level read neg = neg_before read
at_level read comp = comp_before read
at_level read sum = sum_before read
at_level read prod = prod_before read
at_level read signed = signed_before read
at_level read primary = primary_before read

-- an expression, with parentheses in parentheses at most so many deep
abbrev pub expression_reader : ℕ → Reader
expression_reader zero ts = None
expression_reader (suc n) ts = expr_before (expression_reader n) ts

-- what was read, where nothing follows
abbrev pub whole_prefix : {A : Type 0} → Prefix A → Option A
whole_prefix None = None
whole_prefix (Some p) = then_some (is_empty p.1) p.0
