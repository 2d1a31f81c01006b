-- Terms at the front of tokens, read by one of several readers.
use Rattle.std.proofs.Common.{◌≡◌, Bor, true, Option, Some, None, List, [], ◌∷◌, sym, ap, subst, ◌∙◌}
use Rattle.std.specs.Prelude.{ℤ}
use Rattle.std.specs.Prelude.{codes}
use Rattle.std.specs.Option.{option_map, option_or}
use Rattle.quantity.specs.Bytes.{Bytes}
use Rattle.quantity.specs.Literals.{unsigned_literal}
use Rattle.quantity.specs.declared.value.Value.{Value}
use Rattle.quantity.specs.declared.value.Value.TheVariants.{Undefined, Num}
use Rattle.quantity.specs.Written.{for_some}
use Rattle.rule_tree.specs.declared.node.Count.{Count}
use Rattle.rule_phrases.specs.declared.front.Front.{Front}
use Rattle.rule_phrases.specs.declared.term.Term.{Term}
use Rattle.rule_tree.specs.Scope.{Names}
use Rattle.rule_words.specs.Tokens.{Token, word, number, mark, is_word}
use Rattle.rule_words.specs.declared.token.Token as T
use Rattle.rule_words.specs.declared.token.Token.TheVariants.{Word, Number}
use Rattle.rule_tree.specs.Phrases as P
use Rattle.rule_tree.specs.Phrases.{Phrase, counts, looked_up}
use Rattle.rule_words.specs.Reading.{Prefix, question_before}
use Rattle.rule_words.specs.Descent.{atom_before, port_value_before, word_before}
use Rattle.rule_words.specs.AtomParts.{after_mark, after_word, behind_this_port}
use Rattle.rule_words.specs.Shown.{tokens_of}
use Rattle.rule_phrases.specs.Terms.{IsTerm, IsFront, StandsForPhrase}
use Rattle.rule_words.proofs.Sound.{none_some, some_same, same_bytes, then_is}
use Rattle.rule_words.proofs.CellPieces.{on_is, after_is}

pub front_is : (names : Names) (p : Prefix Phrase) (x : Phrase) (ts : List Token) (f : Front) → p ≡ Some (x, ts) → StandsForPhrase names f.term x → tokens_of f.rest.now ≡ ts → IsFront names p (Some f)
front_is names p x ts f e h k = subst (λ q. IsFront names q (Some f)) (sym e) (h, k)

pub term_is : (names : Names) (o : Option Phrase) (x : Phrase) (t : Term) → o ≡ Some x → StandsForPhrase names t x → IsTerm names o (Some t)
term_is names o x t e h = subst (λ q. IsTerm names q (Some t)) (sym e) h

pub term_at : (names : Names) (ts : List Token) (o : Option Phrase) (f : Front) → IsTerm names o (Some f.term) → tokens_of f.rest.now ≡ ts → IsFront names (option_map (λ x. (x, ts)) o) (Some f)
term_at names ts None f h k = absurd h
term_at names ts (Some x) f h k = (h, k)

pub no_term_at : (names : Names) (ts : List Token) (o : Option Phrase) → IsTerm names o None → IsFront names (option_map (λ x. (x, ts)) o) None
no_term_at names ts None h = tt
no_term_at names ts (Some x) h = absurd h

-- a number that is read is the number of its text
pub number_at : (names : Names) (text : Bytes) (ts : List Token) (v : Value) (f : Front) → Some v ≡ option_map Num (unsigned_literal text) → StandsForPhrase names f.term (P.value v) → tokens_of f.rest.now ≡ ts → IsFront names (option_map (λ n. (P.value (Num n), ts)) (unsigned_literal text)) (Some f)
number_at names text ts v f e h k = go (unsigned_literal text) e
  where
    go : (o : Option ℤ) → Some v ≡ option_map Num o → IsFront names (option_map (λ n. (P.value (Num n), ts)) o) (Some f)
    go None q = absurd (none_some (sym q))
    go (Some n) q = (subst (λ u. StandsForPhrase names f.term (P.value u)) (some_same q) h, k)

pub count_at : (names : Names) (w : Bytes) (c : Count) (t : Term) → Some c ≡ looked_up counts w → StandsForPhrase names t (P.counted c) → IsTerm names (option_map P.counted (looked_up counts w)) (Some t)
count_at names w c t e h = term_is names (option_map P.counted (looked_up counts w)) (P.counted c) t (ap (option_map P.counted) (sym e)) h

pub no_count_at : (names : Names) (w : Bytes) → None ≡ looked_up counts w → IsTerm names (option_map P.counted (looked_up counts w)) None
no_count_at names w e = subst (λ o. IsTerm names (option_map P.counted o) None) e tt

pub front_first : (names : Names) (p q : Prefix Phrase) (f : Front) → IsFront names p (Some f) → IsFront names (option_or p q) (Some f)
front_first names None q f h = absurd h
front_first names (Some x) q f h = h

pub front_second : (names : Names) (p q : Prefix Phrase) (o : Option Front) → IsFront names p None → IsFront names q o → IsFront names (option_or p q) o
front_second names None q o h k = k
front_second names (Some x) q o h k = absurd h

pub term_first : (names : Names) (p q : Option Phrase) (t : Term) → IsTerm names p (Some t) → IsTerm names (option_or p q) (Some t)
term_first names None q t h = absurd h
term_first names (Some x) q t h = h

pub term_second : (names : Names) (p q : Option Phrase) (o : Option Term) → IsTerm names p None → IsTerm names q o → IsTerm names (option_or p q) o
term_second names None q o h k = k
term_second names (Some x) q o h k = absurd h

-- ---- ?

pub question_is : (ts rest : List Token) → Some rest ≡ after_mark (codes "?") ts → question_before ts ≡ Some (P.value Undefined, rest)
question_is ts rest e = ap question_before (after_is (codes "?") ts rest (sym e))

-- ---- portvalue(thisport)

abbrev with_port_value : Option (List Token) → Prefix Phrase
with_port_value o = option_map (λ rest. (P.port_value, rest)) o

after_word_is : (w : Bytes) (ts us : List Token) → after_word w ts ≡ Some us → ts ≡ word w ∷ us
after_word_is w [] us e = absurd (none_some e)
after_word_is w (t ∷ ts) us e =
    let p = then_is (is_word w t) ts us e in
    ap (λ v. v ∷ ts) (word_is w t p.0) ∙ ap (λ vs. word w ∷ vs) p.1
  where
    word_is : (text : Bytes) (t : Token) → is_word text t ≡ true → t ≡ word text
    word_is text (word w) e = ap word (same_bytes w text e)
    word_is text (number n) e = cc
    word_is text (mark m) e = cc

argument_is : (ts rest : List Token) → Some rest ≡ behind_this_port ts → ts ≡ mark (codes "(") ∷ word (codes "thisport") ∷ mark (codes ")") ∷ rest
argument_is ts rest e =
    let inner = on_is (after_mark (codes "(") ts) (λ us. for_some (after_word (codes "thisport") us) (after_mark (codes ")"))) rest (sym e) in
    let behind = on_is (after_word (codes "thisport") inner.0) (after_mark (codes ")")) rest inner.2 in
    after_is (codes "(") ts inner.0 inner.1
    ∙ ap (λ us. mark (codes "(") ∷ us) (after_word_is (codes "thisport") inner.0 behind.0 behind.1)
    ∙ ap (λ us. mark (codes "(") ∷ word (codes "thisport") ∷ us) (after_is (codes ")") behind.0 rest behind.2)

pub port_value_is : (w : Bytes) (ts rest : List Token) → w ≡ codes "portvalue" → Some rest ≡ behind_this_port ts → port_value_before (word w ∷ ts) ≡ Some (P.port_value, rest)
port_value_is w ts rest h e = ap (λ v. port_value_before (word v ∷ ts)) h ∙ ap (λ us. port_value_before (word (codes "portvalue") ∷ us)) (argument_is ts rest e)

-- ---- by the first token

pub at_number : (names : Names) (ts rest : List T.Token) (t : T.Token) (text : Bor Bytes) (o : Option Front) → ts ≡ t ∷ rest → t ≡ Number text → IsFront names (option_map (λ n. (P.value (Num n), tokens_of rest)) (unsigned_literal text.now)) o → IsFront names (atom_before (tokens_of ts)) o
at_number names ts rest t text o e h k = subst (λ us. IsFront names (atom_before (tokens_of us)) o) (sym (e ∙ ap (λ u. u ∷ rest) h)) k

pub at_word : (names : Names) (ts rest : List T.Token) (t : T.Token) (w : Bor Bytes) (o : Option Front) → ts ≡ t ∷ rest → t ≡ Word w → IsFront names (word_before w.now (tokens_of rest)) o → IsFront names (atom_before (tokens_of ts)) o
at_word names ts rest t w o e h k = subst (λ us. IsFront names (atom_before (tokens_of us)) o) (sym (e ∙ ap (λ u. u ∷ rest) h)) k
