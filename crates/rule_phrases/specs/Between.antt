-- What a descent reads between phrases: operators, signs and marks.
use Rattle.std.specs.Prelude.{ℕ, ⊤, ◌≡◌, Option, Some, None, List, [], ◌∷◌, length}
use Rattle.std.specs.Option.{option_map}
use Rattle.quantity.specs.Literals.{unsigned_literal}
use Rattle.quantity.specs.declared.value.Value.{Value}
use Rattle.quantity.specs.declared.value.Value.TheVariants.{Num}
use Rattle.rule_tree.specs.declared.node.Unary.{Unary}
use Rattle.rule_tree.specs.declared.node.Binary.{Binary}
use Rattle.rule_tree.specs.declared.function.Function.{Function}
use Rattle.rule_phrases.specs.declared.between.Arguments.{Arguments}
use Rattle.rule_words.specs.declared.level.Level as L
use Rattle.rule_words.specs.Tokens.{Token, number}
use Rattle.rule_tree.specs.Phrases as P
use Rattle.rule_tree.specs.Phrases.{Phrase, Level, neg, comp}
use Rattle.rule_tree.specs.Scope.{Names}
use Rattle.rule_words.specs.Reading.{Prefix, operator_in, call_phrase}
use Rattle.rule_words.specs.Descent.{Reader, then_on, joined_operands, prefix_if_closed, not_in, sign_in, at_level, expression_reader}
use Rattle.rule_words.specs.Shown.{level_of, tokens_of}
use Rattle.rule_phrases.specs.Terms.{AllStand}

-- a number without a sign, and the tokens behind it; only private clauses name this
abbrev pub unsigned_before : List Token → Prefix Value
unsigned_before (number text ∷ ts) = option_map (λ n. (Num n, ts)) (unsigned_literal text)
unsigned_before ts = None

-- an operator of a level, and the tokens behind it
abbrev pub operator_before : Level → List Token → Prefix Binary
operator_before l [] = None
operator_before l (t ∷ ts) = option_map (λ b. (b, ts)) (operator_in l t)

-- how many operators of a level join operands in so many tokens: a comparison is joined to no other
abbrev pub most_operators : Level → ℕ → ℕ
most_operators comp n = 1
most_operators l n = n

-- an operand whose operators bind at least so tightly, with parentheses at most so many deep
abbrev pub operand_reader : ℕ → L.Level → Reader
operand_reader n level = at_level (expression_reader n) (level_of level)

-- operands with operators of a level between
abbrev pub operands_before : Level → Reader → Reader
operands_before l operand ts =
    then_on (operand ts)
    (λ x rest. joined_operands (most_operators l (length rest)) operand l x rest)

-- the sign that a token is before an operand of a level
abbrev pub sign_at : Level → Token → Option Unary
sign_at neg t = not_in t
sign_at l t = sign_in t

-- the signs at the front, the outermost first, and the tokens behind them
abbrev pub signs_before : (Token → Option Unary) → List Token → List Unary
signs_before sign [] = []
signs_before sign (t ∷ ts) = elim (sign t) [ None ↦ [] | Some u ↦ u ∷ signs_before sign ts ]

-- what follows the signs
abbrev pub behind_signs : (Token → Option Unary) → List Token → List Token
behind_signs sign [] = []
behind_signs sign (t ∷ ts) = elim (sign t) [ None ↦ t ∷ ts | Some u ↦ behind_signs sign ts ]

-- a phrase with signs before it
abbrev pub with_signs : List Unary → Phrase → Phrase
with_signs [] x = x
with_signs (u ∷ us) x = P.one u (with_signs us x)

-- terms and the tokens behind them are what was read at the front of tokens
abbrev pub AreArguments : Names → Prefix (List Phrase) → Option Arguments → Type 0
AreArguments names None None = ⊤
AreArguments names None (Some a) = ⊥
AreArguments names (Some p) None = ⊥
AreArguments names (Some p) (Some a) =
    AllStand names a.terms.items p.0 × (tokens_of a.rest.now ≡ p.1)

-- a function of what was read, where a closing parenthesis follows
abbrev pub called_before : Function → Prefix (List Phrase) → Prefix Phrase
called_before f p =
    then_on (then_on p prefix_if_closed)
    (λ xs rest. option_map (λ x. (x, rest)) (call_phrase f (Some xs)))
