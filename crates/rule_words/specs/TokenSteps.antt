-- Private: what one token changes for those behind it, and the first piece of a text.
use Rattle.std.specs.Prelude.{ℕ, ◌==◌, ◌&&◌, Bool, false, max, if◌then◌else◌, Option, length, drop}
use Rattle.std.specs.Prelude.{List, [], ◌∷◌, codes}
use Rattle.std.specs.List.{list_any, prefix_len}
use Rattle.std.specs.Option.{option_map}
use Rattle.quantity.specs.Bytes.{Bytes, is_among, is_byte}
use Rattle.rule_words.specs.Tokens.{Token, word, number, mark, is_of_run, rest_tokens, word_in}

-- whether the word behind a token names something
abbrev pub names_next : Token → Bool
names_next (word w) = false
names_next (number n) = false
names_next (mark m) = is_among (codes "$" ∷ codes "~" ∷ []) m

-- the words of the language that are no functions
abbrev pub plain_words : List Bytes
plain_words =
    codes "imp" ∷ codes "eqv" ∷ codes "or" ∷ codes "xor" ∷ codes "and" ∷ codes "not" ∷ codes "t"
    ∷ codes "f" ∷ codes "time" ∷ codes "portvalue" ∷ codes "thisport" ∷ codes "truecount" ∷ codes "falsecount"
    ∷ codes "undefcount" ∷ []

-- a mark of two bytes stands at the front
abbrev pub is_pair : Bytes → Bool
is_pair [] = false
is_pair (c ∷ []) = false
is_pair (c ∷ d ∷ ds) = list_any (is_byte c) (codes "!<>:") && (d == 61)

-- how long the first piece of a text is
abbrev pub piece_length : Bytes → ℕ
piece_length text = if is_pair text then 2 else max 1 (prefix_len is_of_run text)

-- the tokens of a run that begins with a letter
abbrev pub run_tokens : Bytes → Option (List Token)
run_tokens run =
    option_map (λ ts. word (word_in run) ∷ ts) (rest_tokens (drop (length (word_in run)) run))
