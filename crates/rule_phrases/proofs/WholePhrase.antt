-- The phrase that all tokens are, from what is read at their front.
use Rattle.std.proofs.Common.{◌≡◌, Bool, true, false, Option, Some, None, List, [], ◌∷◌, length, sym, ap, subst, ◌∙◌, arith}
use Rattle.std.specs.Prelude.{◌==◌}
use Rattle.std.specs.Bool.{then_some}
use Rattle.std.proofs.Math.Dec.{eqb-suc-zero}
use Rattle.quantity.specs.Bytes.{is_empty}
use Rattle.rule_phrases.specs.declared.front.Front.{Front}
use Rattle.rule_phrases.specs.declared.term.Term.{Term}
use Rattle.rule_words.specs.declared.token.Token as T
use Rattle.rule_tree.specs.Phrases.{Phrase, expr}
use Rattle.rule_tree.specs.Scope.{Names}
use Rattle.rule_words.specs.Reading.{Prefix, phrase_of}
use Rattle.rule_words.specs.Descent.{at_level, expression_reader, whole_prefix}
use Rattle.rule_words.specs.Shown.{tokens_of}
use Rattle.rule_phrases.specs.Terms.{IsFront, IsTerm}
use Rattle.rule_phrases.proofs.Primaries.{tokens_length}
use Rattle.rule_phrases.proofs.Descended.{reading_is_phrase}

-- what was read, as the grammar finds it
found : (names : Names) (ts : List T.Token) (o : Option Term) → IsTerm names (whole_prefix (at_level (expression_reader (length ts)) expr (tokens_of ts))) o → IsTerm names (phrase_of (tokens_of ts)) o
found names ts o h =
    let Q : Option Phrase → Type 0 = λ x. IsTerm names x o in
    subst Q (reading_is_phrase (length ts) (tokens_of ts) (omega (arith, tokens_length ts))) h

pub no_phrase : (names : Names) (ts : List T.Token) (o : Option Front) → IsFront names (at_level (expression_reader (length ts)) expr (tokens_of ts)) o → o ≡ None → IsTerm names (phrase_of (tokens_of ts)) None
no_phrase names ts o h e = found names ts None (go (at_level (expression_reader (length ts)) expr (tokens_of ts)) o h e)
  where
    go : (p : Prefix Phrase) (o : Option Front) → IsFront names p o → o ≡ None → IsTerm names (whole_prefix p) None
    go None o h e = tt
    go (Some p) None h e = absurd h
    go (Some p) (Some f) h e = absurd (cc)

empty_tokens : (us : List T.Token) (b : Bool) → b ≡ (length us == 0) → is_empty (tokens_of us) ≡ b
empty_tokens [] b e = sym e
empty_tokens (u ∷ us) b e = sym (e ∙ eqb-suc-zero (length us))

at_front : (names : Names) (p : Prefix Phrase) (o : Option Front) (f : Front) → IsFront names p o → o ≡ Some f → IsFront names p (Some f)
at_front names p o f h e = let Q : Option Front → Type 0 = λ o. IsFront names p o in subst Q e h

pub whole_phrase : (names : Names) (ts : List T.Token) (o : Option Front) (f : Front) → IsFront names (at_level (expression_reader (length ts)) expr (tokens_of ts)) o → o ≡ Some f → true ≡ (length f.rest.now == 0) → IsTerm names (phrase_of (tokens_of ts)) (Some f.term)
whole_phrase names ts o f h e n =
    let p = at_level (expression_reader (length ts)) expr (tokens_of ts) in
    found names ts (Some f.term) (go p (at_front names p o f h e))
  where
    go : (p : Prefix Phrase) → IsFront names p (Some f) → IsTerm names (whole_prefix p) (Some f.term)
    go None i = absurd i
    go (Some p) i =
        let Q : Bool → Type 0 = λ b. IsTerm names (then_some b p.0) (Some f.term) in
        subst Q (sym (ap is_empty (sym i.1) ∙ empty_tokens f.rest.now true n)) i.0

pub phrase_and_more : (names : Names) (ts : List T.Token) (o : Option Front) (f : Front) → IsFront names (at_level (expression_reader (length ts)) expr (tokens_of ts)) o → o ≡ Some f → false ≡ (length f.rest.now == 0) → IsTerm names (phrase_of (tokens_of ts)) None
phrase_and_more names ts o f h e n =
    let p = at_level (expression_reader (length ts)) expr (tokens_of ts) in
    found names ts None (go p (at_front names p o f h e))
  where
    go : (p : Prefix Phrase) → IsFront names p (Some f) → IsTerm names (whole_prefix p) None
    go None i = absurd i
    go (Some p) i =
        let Q : Bool → Type 0 = λ b. IsTerm names (then_some b p.0) None in
        subst Q (sym (ap is_empty (sym i.1) ∙ empty_tokens f.rest.now false n)) tt
