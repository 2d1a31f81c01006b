-- A primary that is read at the front of tokens, without phrases in it, is one of the grammar.
use Rattle.std.proofs.Common.{◌≡◌, ◌⊎◌, Bool, true, false, cond, Option, Some, None, List, [], ◌∷◌, ◌++◌, refl, sym, ap, subst, inl, inr}
use Rattle.std.proofs.lemmas.Bool.{and_parts}
use Rattle.std.specs.Prelude.{◌&&◌, codes}
use Rattle.std.specs.Option.{option_map, option_or}
use Rattle.std.specs.Str.{bytes_eq}
use Rattle.quantity.specs.declared.value.Value.TheVariants.{Undefined, Num}
use Rattle.quantity.specs.Bytes.{Bytes}
use Rattle.quantity.specs.Literals.{unsigned_literal}
use Rattle.rule_tree.specs.declared.function.Function.{Function}
use Rattle.rule_words.specs.Tokens.{Token, word, number, mark, is_mark}
use Rattle.rule_tree.specs.Phrases as P
use Rattle.rule_tree.specs.Phrases.{Phrase, Level, primary, looked_up, counts, functions}
use Rattle.rule_words.specs.Grammar.{IsPhrase}
use Rattle.rule_words.specs.Grammar as G
use Rattle.rule_words.specs.Reading.{constants, word_phrase, is_port_value, cell_before, cell_phrase_before}
use Rattle.rule_words.specs.Descent.{port_value_before, word_before, variable_before, mark_before, atom_before, opening_before}
use Rattle.rule_phrases.proofs.Nesting.{lookup_all}
use Rattle.rule_words.proofs.Sound.{false_true, none_some, some_same, same_bytes, mark_is, then_is, mapped, cell_is}

-- a phrase of a level at the front of tokens, and the tokens after it
pub record Split (l : Level) (ts : List Token) (x : Phrase) (rest : List Token) : Type 0 where
  pub us : List Token
  pub whole : ts ≡ us ++ rest
  pub phrase : IsPhrase l us x

-- what was read is a phrase, and the tokens after it are left
abbrev pub Splits : Level → List Token → Phrase × List Token → Type 0
Splits l ts p = Split l ts p.0 p.1

either_is : {A : Type 0} (o q : Option A) (x : A) → option_or o q ≡ Some x → (o ≡ Some x) ⊎ (q ≡ Some x)
either_is None q x e = inr e
either_is (Some y) q x e = inl e

-- ---- words

constant_is : (w : Bytes) (x : Phrase) → looked_up constants w ≡ Some x → IsPhrase primary (word w ∷ []) x
constant_is w x e = lookup_all (λ v. looked_up constants v ≡ Some x → IsPhrase primary (word v ∷ []) x) constants w x (is (codes "t") G.true, (is (codes "f") G.false, (is (codes "time") G.time, tt))) e e
  where
    is : (v : Bytes) {y : Phrase} → IsPhrase primary (word v ∷ []) y → Some y ≡ Some x → IsPhrase primary (word v ∷ []) x
    is v h same = subst (λ z. IsPhrase primary (word v ∷ []) z) (some_same same) h

word_phrase_is : (w : Bytes) (x : Phrase) → word_phrase w ≡ Some x → IsPhrase primary (word w ∷ []) x
word_phrase_is w x e =
    elim (either_is (looked_up constants w) (option_map P.counted (looked_up counts w)) x e) [
      | inl h ↦ constant_is w x h
      | inr h ↦ let m = mapped P.counted (looked_up counts w) x h in subst (λ y. IsPhrase primary (word w ∷ []) y) m.2 (G.counted m.1)
    ]

port_value_is : (a b c d : Token) → is_port_value (a ∷ b ∷ c ∷ d ∷ []) ≡ true → a ∷ b ∷ c ∷ d ∷ [] ≡ word (codes "portvalue") ∷ mark (codes "(") ∷ word (codes "thisport") ∷ mark (codes ")") ∷ []
port_value_is (word w) b (word v) d e =
    let p = and_parts (bytes_eq w (codes "portvalue") && is_mark (codes "(") b && bytes_eq v (codes "thisport")) (is_mark (codes ")") d) e in
    let q = and_parts (bytes_eq w (codes "portvalue") && is_mark (codes "(") b) (bytes_eq v (codes "thisport")) p.0 in
    let r = and_parts (bytes_eq w (codes "portvalue")) (is_mark (codes "(") b) q.0 in
    rw (same_bytes w (codes "portvalue") r.0, mark_is (codes "(") b r.1, same_bytes v (codes "thisport") q.1, mark_is (codes ")") d p.1) refl
port_value_is a b c d e = absurd (false_true e)

port_value_sound : (ts : List Token) (p : Phrase × List Token) → port_value_before ts ≡ Some p → Splits primary ts p
port_value_sound (a ∷ b ∷ c ∷ d ∷ ts) p e =
    let t = then_is (is_port_value (a ∷ b ∷ c ∷ d ∷ [])) (P.port_value, ts) p e in
    subst (λ q. Splits primary (a ∷ b ∷ c ∷ d ∷ ts) q) t.1
    (record { us = a ∷ b ∷ c ∷ d ∷ []; whole = refl; phrase = subst (λ us. IsPhrase primary us P.port_value) (sym (port_value_is a b c d t.0)) G.port_value })
port_value_sound ts p e = absurd (none_some e)

word_sound : (w : Bytes) (ts : List Token) (p : Phrase × List Token) → word_before w ts ≡ Some p → Splits primary (word w ∷ ts) p
word_sound w ts p e =
    elim (either_is (option_map (λ x. (x, ts)) (word_phrase w)) (port_value_before (word w ∷ ts)) p e) [
      | inl h ↦ from_word h
      | inr h ↦ port_value_sound (word w ∷ ts) p h
    ]
  where
    from_word : option_map (λ x. (x, ts)) (word_phrase w) ≡ Some p → Splits primary (word w ∷ ts) p
    from_word h =
        let m = mapped (λ x. (x, ts)) (word_phrase w) p h in
        subst (λ q. Splits primary (word w ∷ ts) q) m.2 (record { us = word w ∷ []; whole = refl; phrase = word_phrase_is w m.0 m.1 })

-- ---- marks

variable_sound : (ts : List Token) (p : Phrase × List Token) → variable_before ts ≡ Some p → Splits primary ts p
variable_sound (mark m ∷ word w ∷ ts) p e =
    let t = then_is (bytes_eq m (codes "$")) (P.variable w, ts) p e in
    subst (λ q. Splits primary (mark m ∷ word w ∷ ts) q) t.1
    (record { us = mark m ∷ word w ∷ []; whole = refl; phrase = subst (λ k. IsPhrase primary (mark k ∷ word w ∷ []) (P.variable w)) (sym (same_bytes m (codes "$") t.0)) G.variable })
variable_sound ts p e = absurd (none_some e)

cell_sound : (ts : List Token) (p : Phrase × List Token) → cell_phrase_before ts ≡ Some p → Splits primary ts p
cell_sound ts p e =
    let m = mapped (λ c. (P.cell c.0, c.1)) (cell_before ts) p e in
    let c = cell_is ts m.0 m.1 in
    subst (λ q. Splits primary ts q) m.2 (record { us = c.0; whole = c.2; phrase = G.cell c.1 })

mark_sound : (m : Bytes) (ts : List Token) (p : Phrase × List Token) → mark_before m ts ≡ Some p → Splits primary (mark m ∷ ts) p
mark_sound m ts p e = go (bytes_eq m (codes "?")) refl e
  where
    go : (b : Bool) → bytes_eq m (codes "?") ≡ b → cond b (Some (P.value Undefined, ts)) (option_or (variable_before (mark m ∷ ts)) (cell_phrase_before (mark m ∷ ts))) ≡ Some p → Splits primary (mark m ∷ ts) p
    go true k h =
        subst (λ q. Splits primary (mark m ∷ ts) q) (some_same h)
        (record { us = mark m ∷ []; whole = refl; phrase = subst (λ n. IsPhrase primary (mark n ∷ []) (P.value Undefined)) (sym (same_bytes m (codes "?") k)) G.unknown })
    go false k h =
        elim (either_is (variable_before (mark m ∷ ts)) (cell_phrase_before (mark m ∷ ts)) p h) [
          | inl v ↦ variable_sound (mark m ∷ ts) p v
          | inr c ↦ cell_sound (mark m ∷ ts) p c
        ]

pub atom_sound : (ts : List Token) (p : Phrase × List Token) → atom_before ts ≡ Some p → Splits primary ts p
atom_sound [] p e = absurd (none_some e)
atom_sound (number text ∷ ts) p e =
    let m = mapped (λ n. (P.value (Num n), ts)) (unsigned_literal text) p e in
    subst (λ q. Splits primary (number text ∷ ts) q) m.2 (record { us = number text ∷ []; whole = refl; phrase = G.numeral m.1 })
atom_sound (word w ∷ ts) p e = word_sound w ts p e
atom_sound (mark m ∷ ts) p e = mark_sound m ts p e

-- ---- openings

-- tokens that begin with an opening parenthesis, behind the name of a function or behind nothing
abbrev pub IsOpened : Option Function → List Token → List Token → Type 0
IsOpened None ts rest = ts ≡ mark (codes "(") ∷ rest
IsOpened (Some f) ts rest = (w : Bytes) × (looked_up functions w ≡ Some f) × (ts ≡ word w ∷ mark (codes "(") ∷ rest)

pub opening_is : (ts : List Token) (q : Option Function × List Token) → opening_before ts ≡ Some q → IsOpened q.0 ts q.1
opening_is (mark m ∷ ts) q e =
    let t = then_is (bytes_eq m (codes "(")) (None, ts) q e in
    subst (λ (r : Option Function × List Token). IsOpened r.0 (mark m ∷ ts) r.1) t.1 (ap (λ k. mark k ∷ ts) (same_bytes m (codes "(") t.0))
opening_is (word w ∷ mark m ∷ ts) q e = go (bytes_eq m (codes "(")) refl e
  where
    go : (b : Bool) → bytes_eq m (codes "(") ≡ b → cond b (option_map (λ f. (Some f, ts)) (looked_up functions w)) None ≡ Some q → IsOpened q.0 (word w ∷ mark m ∷ ts) q.1
    go true k h =
        let f = mapped (λ f. (Some f, ts)) (looked_up functions w) q h in
        subst (λ (r : Option Function × List Token). IsOpened r.0 (word w ∷ mark m ∷ ts) r.1) f.2 (w, f.1, ap (λ n. word w ∷ mark n ∷ ts) (same_bytes m (codes "(") k))
    go false k h = absurd (none_some h)
opening_is ts q e = absurd (none_some e)
