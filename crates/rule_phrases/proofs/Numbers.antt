-- A number and the tokens behind it, by what stands before it: a sign or nothing.
use Rattle.std.proofs.Common.{◌≡◌, Bool, true, false, Option, Some, None, List, [], ◌∷◌, refl, sym, ap, ◌∙◌, ℤ}
use Rattle.std.specs.Prelude.{codes}
use Rattle.std.specs.Bool.{then_some}
use Rattle.std.specs.Borrow.{Bor}
use Rattle.std.specs.Option.{option_map}
use Rattle.std.specs.Str.{bytes_eq}
use Rattle.quantity.specs.Arithmetic.{negative_of}
use Rattle.quantity.specs.Bytes.{Bytes}
use Rattle.quantity.specs.Literals.{unsigned_literal}
use Rattle.quantity.specs.declared.value.Value.{Value}
use Rattle.quantity.specs.declared.value.Value.TheVariants.{Num}
use Rattle.rule_tree.specs.Phrases as P
use Rattle.rule_tree.specs.Phrases.{Phrase}
use Rattle.rule_words.specs.AtomParts.{after_mark}
use Rattle.rule_words.specs.Reading.{Prefix, is_sign, number_before}
use Rattle.rule_words.specs.Shown.{tokens_of}
use Rattle.rule_words.specs.Tokens.{Token, word, number, mark}
use Rattle.rule_words.specs.declared.token.Token as T
use Rattle.rule_words.proofs.Sound.{same_bytes}
use Rattle.rule_phrases.specs.Between.{unsigned_before}

-- what stands behind a mark that is there
behind_it : (b : Bool) (ts us : List Token) → Some us ≡ then_some b ts → (b ≡ true) × (ts ≡ us)
behind_it true ts us e = (refl, cc)
behind_it false ts us e = cc

not_there : (b : Bool) (ts : List Token) → None ≡ then_some b ts → b ≡ false
not_there true ts e = cc
not_there false ts e = refl

-- a mark at the front, and the tokens behind it
pub begins_with : (text : Bytes) (ts us : List Token) → Some us ≡ after_mark text ts → ts ≡ mark text ∷ us
begins_with text [] us e = cc
begins_with text (word w ∷ ts) us e = cc
begins_with text (number n ∷ ts) us e = cc
begins_with text (mark m ∷ ts) us e =
    let h = behind_it (bytes_eq m text) ts us e in
    ap (λ n. mark n ∷ ts) (same_bytes m text h.0) ∙ ap (λ vs. mark text ∷ vs) h.1

-- a number as a phrase, and below zero
abbrev pub as_read : Value × List Token → Phrase × List Token
as_read p = (P.value p.0, p.1)

abbrev pub as_negated : Value × List Token → Phrase × List Token
as_negated p = (P.value (negative_of p.0), p.1)

negated : (us : List Token) → option_map as_negated (unsigned_before us) ≡ number_before (mark (codes "-") ∷ us)
negated [] = refl
negated (word w ∷ us) = refl
negated (mark m ∷ us) = refl
negated (number n ∷ us) = go (unsigned_literal n)
  where
    go : (o : Option ℤ) → option_map as_negated (option_map (λ (x : ℤ). (Num x, us)) o) ≡ option_map (λ (x : ℤ). (P.value (negative_of (Num x)), us)) o
    go None = refl
    go (Some x) = refl

kept : (us : List Token) → option_map as_read (unsigned_before us) ≡ number_before (mark (codes "+") ∷ us)
kept [] = refl
kept (word w ∷ us) = refl
kept (mark m ∷ us) = refl
kept (number n ∷ us) = go (unsigned_literal n)
  where
    go : (o : Option ℤ) → option_map as_read (option_map (λ (x : ℤ). (Num x, us)) o) ≡ option_map (λ (x : ℤ). (P.value (Num x), us)) o
    go None = refl
    go (Some x) = refl

no_sign : (m : Bytes) (us : List Token) → is_sign m ≡ false → None ≡ number_before (mark m ∷ us)
no_sign m [] e = refl
no_sign m (word w ∷ us) e = refl
no_sign m (mark k ∷ us) e = refl
no_sign m (number n ∷ us) e = rw e refl

bare : (ts : List Token) → None ≡ after_mark (codes "-") ts → None ≡ after_mark (codes "+") ts → option_map as_read (unsigned_before ts) ≡ number_before ts
bare [] e f = refl
bare (word w ∷ us) e f = refl
bare (number n ∷ us) e f = go (unsigned_literal n)
  where
    go : (o : Option ℤ) → option_map as_read (option_map (λ (x : ℤ). (Num x, us)) o) ≡ option_map (λ (x : ℤ). (P.value (Num x), us)) o
    go None = refl
    go (Some x) = refl
bare (mark m ∷ us) e f = no_sign m us (rw (not_there (bytes_eq m (codes "+")) us f, not_there (bytes_eq m (codes "-")) us e) refl)

-- ---- what the code gives

abbrev pub Read : Type 0
Read = Option (Value × Bor (List T.Token))

abbrev pub shown : Read → Prefix Value
shown = option_map (λ (cut : Value × Bor (List T.Token)). (cut.0, tokens_of cut.1.now))

abbrev pub phrased : Read → Prefix Phrase
phrased = option_map (λ (cut : Value × Bor (List T.Token)). (P.value cut.0, tokens_of cut.1.now))

as_phrase : (r : Read) → phrased r ≡ option_map as_read (shown r)
as_phrase None = refl
as_phrase (Some cut) = refl

pub behind_minus : (ts us : List Token) (o : Prefix Value) → Some us ≡ after_mark (codes "-") ts → o ≡ unsigned_before us → option_map as_negated o ≡ number_before ts
behind_minus ts us o e h = ap (option_map as_negated) h ∙ negated us ∙ ap number_before (sym (begins_with (codes "-") ts us e))

pub behind_plus : (ts us : List Token) (r : Read) → Some us ≡ after_mark (codes "+") ts → shown r ≡ unsigned_before us → phrased r ≡ number_before ts
behind_plus ts us r e h = as_phrase r ∙ ap (option_map as_read) h ∙ kept us ∙ ap number_before (sym (begins_with (codes "+") ts us e))

pub behind_nothing : (ts : List Token) (r : Read) → None ≡ after_mark (codes "-") ts → None ≡ after_mark (codes "+") ts → shown r ≡ unsigned_before ts → phrased r ≡ number_before ts
behind_nothing ts r e f h = as_phrase r ∙ ap (option_map as_read) h ∙ bare ts e f
