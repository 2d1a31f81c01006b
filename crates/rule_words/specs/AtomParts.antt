-- Primaries without phrases in them, read in steps.
use Rattle.std.specs.Prelude.{Option, None, List, [], ◌∷◌, codes}
use Rattle.std.specs.Option.{option_or}
use Rattle.std.specs.Bool.{then_some}
use Rattle.quantity.specs.Bytes.{Bytes}
use Rattle.quantity.specs.Written.{for_some}
use Rattle.rule_words.specs.Tokens.{Token, is_mark, is_word}
use Rattle.rule_tree.specs.Phrases.{Phrase}
use Rattle.rule_words.specs.Reading.{Prefix, question_before, cell_phrase_before}
use Rattle.rule_words.specs.Descent.{variable_before}

-- the tokens behind a mark
abbrev pub after_mark : Bytes → List Token → Option (List Token)
after_mark text [] = None
after_mark text (t ∷ ts) = then_some (is_mark text t) ts

-- what follows this word
abbrev pub after_word : Bytes → List Token → Option (List Token)
after_word text [] = None
after_word text (t ∷ ts) = then_some (is_word text t) ts

-- the tokens behind (thisport)
abbrev pub behind_this_port : List Token → Option (List Token)
behind_this_port ts =
    for_some (after_mark (codes "(") ts)
    (λ inner. for_some (after_word (codes "thisport") inner) (after_mark (codes ")")))

-- a phrase that begins with a mark
abbrev pub marked_before : List Token → Prefix Phrase
marked_before ts =
    option_or (question_before ts) (option_or (variable_before ts) (cell_phrase_before ts))
