-- A whole number and the tokens behind it, by what stands before it: a sign or nothing.
use Rattle.std.proofs.Common.{◌≡◌, ℕ, Bool, true, false, Option, Some, None, List, [], ◌∷◌, refl, sym, ap, ◌∙◌, ℤ, pos, neg_ℤ}
use Rattle.std.specs.Prelude.{codes}
use Rattle.std.specs.Bool.{then_some}
use Rattle.std.specs.Option.{option_map}
use Rattle.std.specs.Str.{bytes_eq}
use Rattle.quantity.specs.Bytes.{Bytes}
use Rattle.quantity.specs.Digits.{whole_number}
use Rattle.rule_words.specs.AtomParts.{after_mark}
use Rattle.rule_words.specs.CellParts.{digits_before, int_before}
use Rattle.rule_words.specs.Reading.{Prefix, is_sign}
use Rattle.rule_words.specs.Tokens.{Token, word, number, mark}
use Rattle.rule_words.proofs.Sound.{same_bytes}

-- what stands behind a mark that is there
behind_it : (b : Bool) (ts us : List Token) → Some us ≡ then_some b ts → (b ≡ true) × (ts ≡ us)
behind_it true ts us e = (refl, cc)
behind_it false ts us e = cc

not_there : (b : Bool) (ts : List Token) → None ≡ then_some b ts → b ≡ false
not_there true ts e = cc
not_there false ts e = refl

-- a mark at the front, and the tokens behind it
pub begins_with : (text : Bytes) (ts us : List Token) → Some us ≡ after_mark text ts → ts ≡ mark text ∷ us
begins_with text [] us e = cc
begins_with text (word w ∷ ts) us e = cc
begins_with text (number n ∷ ts) us e = cc
begins_with text (mark m ∷ ts) us e =
    let h = behind_it (bytes_eq m text) ts us e in
    ap (λ n. mark n ∷ ts) (same_bytes m text h.0) ∙ ap (λ vs. mark text ∷ vs) h.1

-- a number below zero
abbrev pub negated : ℤ × List Token → ℤ × List Token
negated p = (neg_ℤ p.0, p.1)

behind_sign_minus : (us : List Token) → option_map negated (digits_before us) ≡ int_before (mark (codes "-") ∷ us)
behind_sign_minus [] = refl
behind_sign_minus (word w ∷ us) = refl
behind_sign_minus (mark m ∷ us) = refl
behind_sign_minus (number n ∷ us) = go (whole_number 10 n)
  where
    go : (o : Option ℕ) → option_map negated (option_map (λ (x : ℕ). (pos x, us)) o) ≡ option_map (λ (x : ℕ). (neg_ℤ (pos x), us)) o
    go None = refl
    go (Some x) = refl

behind_sign_plus : (us : List Token) → digits_before us ≡ int_before (mark (codes "+") ∷ us)
behind_sign_plus [] = refl
behind_sign_plus (word w ∷ us) = refl
behind_sign_plus (mark m ∷ us) = refl
behind_sign_plus (number n ∷ us) = refl

no_sign : (m : Bytes) (us : List Token) → is_sign m ≡ false → None ≡ int_before (mark m ∷ us)
no_sign m [] e = refl
no_sign m (word w ∷ us) e = refl
no_sign m (mark k ∷ us) e = refl
no_sign m (number n ∷ us) e = rw e refl

pub behind_minus : (ts us : List Token) (o : Prefix ℤ) → Some us ≡ after_mark (codes "-") ts → o ≡ digits_before us → option_map negated o ≡ int_before ts
behind_minus ts us o e h = ap (option_map negated) h ∙ behind_sign_minus us ∙ ap int_before (sym (begins_with (codes "-") ts us e))

pub behind_plus : (ts us : List Token) (o : Prefix ℤ) → Some us ≡ after_mark (codes "+") ts → o ≡ digits_before us → o ≡ int_before ts
behind_plus ts us o e h = h ∙ behind_sign_plus us ∙ ap int_before (sym (begins_with (codes "+") ts us e))

pub behind_nothing : (ts : List Token) (o : Prefix ℤ) → None ≡ after_mark (codes "-") ts → None ≡ after_mark (codes "+") ts → o ≡ digits_before ts → o ≡ int_before ts
behind_nothing [] o e f h = h
behind_nothing (word w ∷ us) o e f h = h
behind_nothing (number n ∷ us) o e f h = h
behind_nothing (mark m ∷ us) o e f h = h ∙ no_sign m us (rw (not_there (bytes_eq m (codes "+")) us f, not_there (bytes_eq m (codes "-")) us e) refl)
