-- The reading from left to right finds the phrase that all tokens are.
use Rattle.std.proofs.Common.{◌≡◌, ◌≤◌, ℕ, suc, Option, Some, None, List, [], ◌∷◌, refl, sym, ap, subst, ◌∙◌, append-nil, length}
use Rattle.rule_words.specs.Tokens.{Token}
use Rattle.rule_tree.specs.Phrases.{Phrase, expr}
use Rattle.rule_words.specs.Grammar.{IsPhrase}
use Rattle.rule_words.specs.Reading.{Prefix, phrase_of}
use Rattle.rule_words.specs.Descent.{expression_reader, whole_prefix}
use Rattle.rule_words.proofs.Sound.{none_some, phrases_are_found}
use Rattle.rule_phrases.proofs.Found.{phrase_found}
use Rattle.rule_phrases.proofs.AtomsSound.{Split}
use Rattle.rule_phrases.proofs.DescentSound.{found}
use Rattle.rule_phrases.proofs.DescentComplete.{complete}

-- what is read to the end of the tokens is the phrase that they are
read_whole : (ts : List Token) (x : Phrase) → Split expr ts x [] → phrase_of ts ≡ Some x
read_whole ts x s = phrase_found ts x (subst (λ us. IsPhrase expr us x) (sym (s.whole ∙ append-nil s.us)) s.phrase)

-- where the tokens are no phrase, nothing is read or something follows
read_none : (n : ℕ) (ts : List Token) → phrase_of ts ≡ None → whole_prefix (expression_reader (suc n) ts) ≡ None
read_none n ts e = go (expression_reader (suc n) ts) refl
  where
    go : (o : Prefix Phrase) → expression_reader (suc n) ts ≡ o → whole_prefix o ≡ None
    go None m = refl
    go (Some p) m = by_rest p.1 (found (suc n) ts p.1 p.0 m)
      where
        by_rest : (rest : List Token) → Split expr ts p.0 rest → whole_prefix (Some (p.0, rest)) ≡ None
        by_rest [] s = absurd (none_some (sym e ∙ read_whole ts p.0 s))
        by_rest (t ∷ rest) s = refl

-- what is read, where nothing follows, is the phrase that all tokens are
pub reading_is_phrase : (n : ℕ) (ts : List Token) → length ts ≤ n → whole_prefix (expression_reader (suc n) ts) ≡ phrase_of ts
reading_is_phrase n ts h = go (phrase_of ts) refl
  where
    go : (o : Option Phrase) → phrase_of ts ≡ o → whole_prefix (expression_reader (suc n) ts) ≡ o
    go None e = read_none n ts e
    go (Some x) e = ap whole_prefix (complete n ts x (phrases_are_found ts x e) h)
