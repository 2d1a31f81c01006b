-- What the code's tokens, levels and names stand for.
use Rattle.std.specs.Prelude.{ℤ, Option, Some, None, List, [], ◌∷◌, map, codes}
use Rattle.quantity.specs.Bytes.{Bytes}
use Rattle.rule_words.specs.Tokens.{Token, word, number, mark}
use Rattle.rule_tree.specs.Phrases as P
use Rattle.rule_tree.specs.Phrases.{Cell, Level}
use Rattle.rule_tree.specs.Scope as S
use Rattle.rule_words.specs.declared.token.Token as T
use Rattle.rule_words.specs.declared.token.Token.TheVariants.{Word, Number, Mark as Mark'}
use Rattle.rule_words.specs.declared.token.Mark.{Mark}
use Rattle.rule_words.specs.declared.token.Mark.TheVariants.{Question, OpenParenthesis}
use Rattle.rule_words.specs.declared.token.Mark.TheVariants.{CloseParenthesis, OpenBrace}
use Rattle.rule_words.specs.declared.token.Mark.TheVariants.{CloseBrace, Comma, Plus, Minus, Times}
use Rattle.rule_words.specs.declared.token.Mark.TheVariants.{Over, Equal, Unequal, Less, LessEqual}
use Rattle.rule_words.specs.declared.token.Mark.TheVariants.{Greater, GreaterEqual, Dollar, Tilde}
use Rattle.rule_words.specs.declared.token.Mark.TheVariants.{Becomes, Semicolon}
use Rattle.rule_words.specs.declared.level.Level as L
use Rattle.rule_words.specs.declared.level.Level.TheVariants.{Expression, Disjunction, Conjunction}
use Rattle.rule_words.specs.declared.level.Level.TheVariants.{Negation, Comparison, Sum, Product}
use Rattle.rule_words.specs.declared.level.Level.TheVariants.{Signed, Primary}
use Rattle.rule_words.specs.declared.names.Names as N
use Rattle.rule_words.specs.declared.cell.WrittenCell.{WrittenCell}

-- the text of a mark
abbrev pub text_of : Mark → Bytes
text_of Question = codes "?"
text_of OpenParenthesis = codes "("
text_of CloseParenthesis = codes ")"
text_of OpenBrace = codes "{"
text_of CloseBrace = codes "}"
text_of Comma = codes ","
text_of Plus = codes "+"
text_of Minus = codes "-"
text_of Times = codes "*"
text_of Over = codes "/"
text_of Equal = codes "="
text_of Unequal = codes "!="
text_of Less = codes "<"
text_of LessEqual = codes "<="
text_of Greater = codes ">"
text_of GreaterEqual = codes ">="
text_of Dollar = codes "$"
text_of Tilde = codes "~"
text_of Becomes = codes ":="
text_of Semicolon = codes ";"

-- a token in code as a token of the definitions
abbrev pub token_of : T.Token → Token
token_of (Word w) = word w.now
token_of (Number n) = number n.now
token_of (Mark' m) = mark (text_of m)

-- tokens in code as those of the definitions
abbrev pub tokens_of : List T.Token → List Token
tokens_of ts = map token_of ts

-- a level in code as a level of the definitions
abbrev pub level_of : L.Level → Level
level_of Expression = P.expr
level_of Disjunction = P.disj
level_of Conjunction = P.conj
level_of Negation = P.neg
level_of Comparison = P.comp
level_of Sum = P.sum
level_of Product = P.prod
level_of Signed = P.signed
level_of Primary = P.primary

-- a coordinate that may be left out
abbrev pub plane_of : Option ℤ → List ℤ
plane_of None = []
plane_of (Some plane) = plane ∷ []

-- a neighbour in code as one of the definitions
abbrev pub cell_of : WrittenCell → Cell
cell_of c = record { place = c.row ∷ c.column ∷ plane_of c.plane; port = c.port.now }

-- names in code as those of the definitions
abbrev pub names_of : N.Names → S.Names
names_of n =
    record {
      offsets = n.offsets.items;
      dims = n.dims;
      variables = n.variables.items;
      ports = n.ports.items;
    }
