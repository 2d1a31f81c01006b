-- The tokens of a rule: numbers, words and marks.
use Rattle.std.specs.Prelude.{ℕ, ◌==◌, Bool, false, ◌&&◌, ◌||◌, max, nat_lt, Option, Some, None}
use Rattle.std.specs.Prelude.{List, [], ◌∷◌, ◌++◌, map, length, drop, if◌then◌else◌, codes}
use Rattle.std.specs.List.{list_any, flat_map, take_while}
use Rattle.std.specs.Option.{option_map}
use Rattle.std.specs.Str.{bytes_eq}
use Rattle.std.specs.Char.{is_ascii_alphabetic, is_ascii_alphanumeric}
use Rattle.quantity.specs.Bytes.{Bytes, is_byte, is_blank, is_among, open_after, all_there}
use Rattle.quantity.specs.Literals.{is_unsigned_literal}
use Rattle.rule_words.specs.declared.tokens.TheConstants.{MAX_TOKENS, MAX_OPEN_PARENTHESES}

-- a word, a number or a mark
pub data Token : Type 0 where
  word : Bytes → Token
  number : Bytes → Token
  mark : Bytes → Token

-- the token is this mark
abbrev pub is_mark : Bytes → Token → Bool
is_mark text (word w) = false
is_mark text (number n) = false
is_mark text (mark m) = bytes_eq m text

-- the token is this word
abbrev pub is_word : Bytes → Token → Bool
is_word text (word w) = bytes_eq w text
is_word text (number n) = false
is_word text (mark m) = false

-- ---- the text in pieces

-- a letter, a digit or an underscore
abbrev pub is_of_word : ℕ → Bool
is_of_word c = is_ascii_alphanumeric c || (c == 95)

-- the same or a point
abbrev pub is_of_run : ℕ → Bool
is_of_run c = is_of_word c || (c == 46)

-- a byte that holds together with the piece after it: runs of letters, digits, _ and ., and != <=
-- >= :=
abbrev pub holds : ℕ → Bytes → Bool
holds c [] = false
holds c (d ∷ ds) =
    (is_of_run c && is_of_run d) || (list_any (is_byte c) (codes "!<>:")
    && bytes_eq (d ∷ ds) (codes "="))

-- a byte before pieces, held by the first where both belong together
abbrev pub pieces_with_byte : ℕ → List Bytes → List Bytes
pieces_with_byte c [] = (c ∷ []) ∷ []
pieces_with_byte c (p ∷ ps) = if holds c p then (c ∷ p) ∷ ps else (c ∷ []) ∷ p ∷ ps

-- the pieces of a text
abbrev pub pieces : Bytes → List Bytes
pieces [] = []
pieces (c ∷ cs) = pieces_with_byte c (pieces cs)

-- ---- the tokens in a piece

-- the marks
abbrev pub marks : List Bytes
marks =
    codes "?" ∷ codes "(" ∷ codes ")" ∷ codes "{" ∷ codes "}" ∷ codes "," ∷ codes "+" ∷ codes "-"
    ∷ codes "*" ∷ codes "/" ∷ codes "=" ∷ codes "!=" ∷ codes "<" ∷ codes "<=" ∷ codes ">" ∷ codes ">=" ∷ codes "$" ∷ codes "~"
    ∷ codes ":=" ∷ codes ";" ∷ []

-- the token of a number
abbrev pub number_token : Bytes → Option (List Token)
number_token text = if is_unsigned_literal text then Some (number text ∷ []) else None

-- behind a word a run may go on with a number that begins with a point
abbrev pub rest_tokens : Bytes → Option (List Token)
rest_tokens [] = Some []
rest_tokens (c ∷ cs) = number_token (c ∷ cs)

-- the word at the head of a piece
abbrev pub word_in : Bytes → Bytes
word_in piece = take_while is_of_word piece

-- the tokens of a piece
abbrev pub tokens_in : Bytes → Option (List Token)
tokens_in [] = Some []
tokens_in (c ∷ cs) =
    if is_blank c then Some []
    else if is_ascii_alphabetic c then option_map (λ ts. word (word_in (c ∷ cs)) ∷ ts)
    (rest_tokens (drop (length (word_in (c ∷ cs))) (c ∷ cs)))
    else if is_of_run c then number_token (c ∷ cs)
    else if is_among marks (c ∷ cs) then Some (mark (c ∷ cs) ∷ [])
    else None

-- the tokens of a text, or none where a piece is no token
unfoldable pub tokens : Bytes → Option (List Token)
tokens text =
    option_map (λ parts. flat_map (λ p. p) parts) (all_there (map tokens_in (pieces text)))

-- ---- what is said of tokens

-- the words that don't stand behind $ or ~
abbrev pub words_after : Bool → List Token → List Bytes
words_after named [] = []
words_after named (word w ∷ ts) = (if named then [] else w ∷ []) ++ words_after false ts
words_after named (number n ∷ ts) = words_after false ts
words_after named (mark m ∷ ts) = words_after (is_among (codes "$" ∷ codes "~" ∷ []) m) ts

-- the words among tokens, without those that name something
abbrev pub words_in : List Token → List Bytes
words_in ts = words_after false ts

-- how many parentheses are open behind a token
abbrev pub parentheses_after : ℕ → Token → ℕ
parentheses_after n t = open_after (is_mark (codes "(")) (is_mark (codes ")")) n t

-- the most parentheses that are open at once, where so many are open before
abbrev pub deepest : ℕ → List Token → ℕ
deepest n [] = n
deepest n (t ∷ ts) = max n (deepest (parentheses_after n t) ts)

-- more tokens or deeper parentheses than a rule may have
abbrev pub is_large : List Token → Bool
is_large ts = nat_lt MAX_TOKENS (length ts) || nat_lt MAX_OPEN_PARENTHESES (deepest 0 ts)
