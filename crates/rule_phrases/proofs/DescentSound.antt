-- A phrase that is read at the front of tokens is one of the grammar, and the tokens after it are left.
use Rattle.std.proofs.Common.{◌≡◌, ℕ, zero, suc, Bool, true, false, cond, Option, Some, None, List, [], ◌∷◌, ◌++◌, refl, sym, ap, subst, ◌∙◌, append_assoc, length, arith}
use Rattle.std.proofs.lemmas.Bool.Decides.{nat_tests}
use Rattle.std.specs.Prelude.{◌==◌, codes}
use Rattle.std.specs.Option.{option_map, option_or}
use Rattle.std.specs.Bool.{then_some}
use Rattle.quantity.specs.Bytes.{Bytes}
use Rattle.rule_tree.specs.declared.node.Unary.{Unary}
use Rattle.rule_tree.specs.declared.node.Unary.TheVariants.{Plus, Minus, Not}
use Rattle.rule_tree.specs.declared.node.Binary.{Binary}
use Rattle.rule_tree.specs.declared.function.Function.{Function}
use Rattle.rule_words.specs.Tokens.{Token, word, number, mark, is_mark, is_word}
use Rattle.rule_tree.specs.Phrases as P
use Rattle.rule_tree.specs.Phrases.{Phrase, phrases, Level, expr, disj, conj, neg, comp, sum, prod, signed, primary, tighter, left_of, functions, looked_up, argument_count}
use Rattle.rule_words.specs.Grammar.{Joins, IsPhrase, IsList, tight, negated}
use Rattle.rule_words.specs.Grammar as G
use Rattle.rule_words.specs.Reading.{Prefix, operator_in, call_phrase}
use Rattle.rule_words.specs.Descent.{Reader, then_on, joined_operands, operand_chain, not_in, sign_in, signed_operand, atom_before, opening_before, prefix_if_closed, comma_list, list_before, enclosed_before, call_before, reader_in_parentheses, primary_before, signed_before, prod_before, sum_before, comp_before, neg_before, conj_before, disj_before, expr_before, expression_reader}
use Rattle.rule_words.proofs.Sound.{none_some, some_same, same_bytes, mark_is, then_is, mapped}
use Rattle.rule_phrases.proofs.AtomsSound.{Split, Splits, atom_sound, IsOpened, opening_is}

-- a reader that finds only phrases of a level
abbrev pub Sound : Level → Reader → Type 0
Sound l read = (ts : List Token) (p : Phrase × List Token) → read ts ≡ Some p → Splits l ts p

then_on_is : {A B : Type 0} (p : Prefix A) (go : A → List Token → Prefix B) (r : B × List Token) → then_on p go ≡ Some r → (q : A × List Token) × (p ≡ Some q) × (go q.0 q.1 ≡ Some r)
then_on_is None go r e = absurd (none_some e)
then_on_is (Some q) go r e = (q, refl, e)

loosened : (l : Level) (ts : List Token) (p : Phrase × List Token) → Splits (tighter l) ts p → Splits l ts p
loosened l ts p s = record { us = s.us; whole = s.whole; phrase = tight s.phrase }

-- ---- operators

joins_of : (l : Level) (t : Token) (b : Binary) → operator_in l t ≡ Some b → Joins l t b
joins_of l (word w) b e = e
joins_of l (number n) b e = none_some e
joins_of l (mark m) b e = e

-- parts that follow one another
after_both : (all us ts vs rest : List Token) (t : Token) → all ≡ us ++ t ∷ ts → ts ≡ vs ++ rest → all ≡ (us ++ t ∷ vs) ++ rest
after_both all us ts vs rest t e f = e ∙ ap (λ ws. us ++ t ∷ ws) f ∙ sym (append_assoc us (t ∷ vs) rest)

-- one operator behind what was read so far, and an operand behind it
join : (l : Level) (all : List Token) (x : Phrase) (t : Token) (ts : List Token) (b : Binary) (q : Phrase × List Token) → Split (left_of l) all x (t ∷ ts) → operator_in l t ≡ Some b → Splits (tighter l) ts q → Split l all (P.two b x q.0) q.1
join l all x t ts b q s e r =
    record {
      us = s.us ++ t ∷ r.us;
      whole = after_both all s.us ts r.us q.1 t s.whole r.whole;
      phrase = G.joined t s.phrase (joins_of l t b e) r.phrase;
    }

-- levels whose phrases are joined from the left
abbrev IsChained : Level → Type 0
IsChained l = (ts : List Token) (x : Phrase) → IsPhrase l ts x → IsPhrase (left_of l) ts x

on_left : (l : Level) → IsChained l → (all : List Token) (x : Phrase) (rest : List Token) → Split l all x rest → Split (left_of l) all x rest
on_left l c all x rest s = record { us = s.us; whole = s.whole; phrase = c s.us x s.phrase }

joined_sound : (k : ℕ) (operand : Reader) (l : Level) → IsChained l → Sound (tighter l) operand → (all : List Token) (x : Phrase) (ts : List Token) → Split l all x ts → (p : Phrase × List Token) → joined_operands k operand l x ts ≡ Some p → Splits l all p
joined_sound k operand l c f all x [] s p e = subst (λ q. Splits l all q) (some_same e) s
joined_sound zero operand l c f all x (t ∷ ts) s p e = subst (λ q. Splits l all q) (some_same e) s
joined_sound (suc k) operand l c f all x (t ∷ ts) s p e =
    go (operator_in l t) refl (λ y rest r h. joined_sound k operand l c f all y rest r p h) e
  where
    go : (o : Option Binary) → operator_in l t ≡ o → ((y : Phrase) (rest : List Token) → Split l all y rest → joined_operands k operand l y rest ≡ Some p → Splits l all p) → elim o [ None ↦ Some (x, t ∷ ts) | Some b ↦ then_on (operand ts) (λ y rest. joined_operands k operand l (P.two b x y) rest) ] ≡ Some p → Splits l all p
    go None m rec h = subst (λ q. Splits l all q) (some_same h) s
    go (Some b) m rec h =
        let q = then_on_is (operand ts) (λ y rest. joined_operands k operand l (P.two b x y) rest) p h in
        rec (P.two b x q.0.0) q.0.1 (join l all x t ts b q.0 (on_left l c all x (t ∷ ts) s) m (f ts q.0 q.1)) q.2

chained_sound : (l : Level) (operand : Reader) → IsChained l → Sound (tighter l) operand → Sound l (operand_chain l operand)
chained_sound l operand c f ts p e =
    let q = then_on_is (operand ts) (λ x rest. joined_operands (length rest) operand l x rest) p e in
    joined_sound (length q.0.1) operand l c f ts q.0.0 q.0.1 (loosened l ts q.0 (f ts q.0 q.1)) p q.2

-- ---- comparisons, joined once at most

joined_none : (operand : Reader) (l : Level) (x : Phrase) (ts : List Token) → joined_operands 0 operand l x ts ≡ Some (x, ts)
joined_none operand l x [] = refl
joined_none operand l x (t ∷ ts) = refl

compared_sound : (operand : Reader) → Sound sum operand → (all : List Token) (x : Phrase) (ts : List Token) → Split sum all x ts → (p : Phrase × List Token) → joined_operands 1 operand comp x ts ≡ Some p → Splits comp all p
compared_sound operand f all x [] s p e = subst (λ q. Splits comp all q) (some_same e) (loosened comp all (x, []) s)
compared_sound operand f all x (t ∷ ts) s p e = go (operator_in comp t) refl e
  where
    go : (o : Option Binary) → operator_in comp t ≡ o → elim o [ None ↦ Some (x, t ∷ ts) | Some b ↦ then_on (operand ts) (λ y rest. joined_operands 0 operand comp (P.two b x y) rest) ] ≡ Some p → Splits comp all p
    go None m h = subst (λ q. Splits comp all q) (some_same h) (loosened comp all (x, t ∷ ts) s)
    go (Some b) m h =
        let q = then_on_is (operand ts) (λ y rest. joined_operands 0 operand comp (P.two b x y) rest) p h in
        subst (λ r. Splits comp all r) (some_same (sym (joined_none operand comp (P.two b x q.0.0) q.0.1) ∙ q.2)) (join comp all x t ts b q.0 s m (f ts q.0 q.1))

-- ---- signs

-- a sign before a phrase of a level is one too
abbrev Prefixes : Level → (Token → Option Unary) → Type 0
Prefixes l sign = (t : Token) (u : Unary) → sign t ≡ Some u → (ts : List Token) (x : Phrase) → IsPhrase l ts x → IsPhrase l (t ∷ ts) (P.one u x)

prefixed_sound : (l : Level) (sign : Token → Option Unary) (operand : Reader) → Prefixes l sign → Sound (tighter l) operand → Sound l (signed_operand sign operand)
prefixed_sound l sign operand c f [] p e = loosened l [] p (f [] p e)
prefixed_sound l sign operand c f (t ∷ ts) p e = go (sign t) refl (prefixed_sound l sign operand c f ts) e
  where
    go : (o : Option Unary) → sign t ≡ o → ((q : Phrase × List Token) → signed_operand sign operand ts ≡ Some q → Splits l ts q) → elim o [ None ↦ operand (t ∷ ts) | Some u ↦ option_map (λ q. (P.one u q.0, q.1)) (signed_operand sign operand ts) ] ≡ Some p → Splits l (t ∷ ts) p
    go None m rec h = loosened l (t ∷ ts) p (f (t ∷ ts) p h)
    go (Some u) m rec h =
        let q = mapped (λ (q : Phrase × List Token). (P.one u q.0, q.1)) (signed_operand sign operand ts) p h in
        let s = rec q.0 q.1 in
        subst (λ r. Splits l (t ∷ ts) r) q.2 (record { us = t ∷ s.us; whole = ap (λ us. t ∷ us) s.whole; phrase = c t u m s.us q.0.0 s.phrase })

word_is : (text : Bytes) (t : Token) → is_word text t ≡ true → t ≡ word text
word_is text (word w) e = ap word (same_bytes w text e)
word_is text (number n) e = cc
word_is text (mark m) e = cc

not_prefixes : Prefixes neg not_in
not_prefixes t u e ts x h =
    let s = then_is (is_word (codes "not") t) Not u e in
    subst (λ v. IsPhrase neg (t ∷ ts) (P.one v x)) s.1 (subst (λ v. IsPhrase neg (v ∷ ts) (P.one Not x)) (sym (word_is (codes "not") t s.0)) (negated h))

sign_prefixes : Prefixes signed sign_in
sign_prefixes t u e ts x h = go (is_mark (codes "+") t) refl e
  where
    go : (b : Bool) → is_mark (codes "+") t ≡ b → cond b (Some Plus) (then_some (is_mark (codes "-") t) Minus) ≡ Some u → IsPhrase signed (t ∷ ts) (P.one u x)
    go true m k = subst (λ v. IsPhrase signed (t ∷ ts) (P.one v x)) (some_same k) (subst (λ v. IsPhrase signed (v ∷ ts) (P.one Plus x)) (sym (mark_is (codes "+") t m)) (G.IsPhrase.plus h))
    go false m k =
        let s = then_is (is_mark (codes "-") t) Minus u k in
        subst (λ v. IsPhrase signed (t ∷ ts) (P.one v x)) s.1 (subst (λ v. IsPhrase signed (v ∷ ts) (P.one Minus x)) (sym (mark_is (codes "-") t s.0)) (G.IsPhrase.minus h))

-- ---- parentheses

-- phrases with commas between at the front of tokens, and the tokens after them
record ListSplit (ts : List Token) (xs : List Phrase) (rest : List Token) : Type 0 where
  us : List Token
  whole : ts ≡ us ++ rest
  list : IsList us xs

one_more : (us vs : List Token) (xs : List Phrase) (y : Phrase) → IsList us xs → IsPhrase expr vs y → IsList (us ++ mark (codes ",") ∷ vs) (xs ++ y ∷ [])
one_more _ vs _ y (IsList.last p) h = G.more p (G.last h)
one_more _ vs _ y (IsList.more {ts} {us} {x} {xs} p q) h =
    subst (λ ws. IsList ws (x ∷ xs ++ y ∷ [])) (sym (append_assoc ts (mark (codes ",") ∷ us) (mark (codes ",") ∷ vs))) (G.more p (one_more us vs xs y q h))

listed_sound : (k : ℕ) (read : Reader) → Sound expr read → (all : List Token) (xs : List Phrase) (ts : List Token) → ListSplit all xs ts → (p : List Phrase × List Token) → comma_list k read xs ts ≡ Some p → ListSplit all p.0 p.1
listed_sound k read f all xs [] s p e = subst (λ (q : List Phrase × List Token). ListSplit all q.0 q.1) (some_same e) s
listed_sound zero read f all xs (t ∷ ts) s p e = subst (λ (q : List Phrase × List Token). ListSplit all q.0 q.1) (some_same e) s
listed_sound (suc k) read f all xs (t ∷ ts) s p e =
    go (is_mark (codes ",") t) refl (λ ys rest r h. listed_sound k read f all ys rest r p h) e
  where
    go : (b : Bool) → is_mark (codes ",") t ≡ b → ((ys : List Phrase) (rest : List Token) → ListSplit all ys rest → comma_list k read ys rest ≡ Some p → ListSplit all p.0 p.1) → cond b (then_on (read ts) (λ y rest. comma_list k read (xs ++ y ∷ []) rest)) (Some (xs, t ∷ ts)) ≡ Some p → ListSplit all p.0 p.1
    go false m rec h = subst (λ (q : List Phrase × List Token). ListSplit all q.0 q.1) (some_same h) s
    go true m rec h =
        let q = then_on_is (read ts) (λ y rest. comma_list k read (xs ++ y ∷ []) rest) p h in
        let r = f ts q.0 q.1 in
        rec (xs ++ q.0.0 ∷ []) q.0.1
        (record {
          us = s.us ++ mark (codes ",") ∷ r.us;
          whole = after_both all s.us ts r.us q.0.1 (mark (codes ",")) (s.whole ∙ ap (λ v. s.us ++ v ∷ ts) (mark_is (codes ",") t m)) r.whole;
          list = one_more s.us r.us xs q.0.0 s.list r.phrase;
        })
        q.2

list_sound : (read : Reader) → Sound expr read → (ts : List Token) (p : List Phrase × List Token) → list_before read ts ≡ Some p → ListSplit ts p.0 p.1
list_sound read f ts p e =
    let q = then_on_is (read ts) (λ x rest. comma_list (length rest) read (x ∷ []) rest) p e in
    let s = f ts q.0 q.1 in
    listed_sound (length q.0.1) read f ts (q.0.0 ∷ []) q.0.1 (record { us = s.us; whole = s.whole; list = G.last s.phrase }) p q.2

closed_is : {A : Type 0} (x : A) (ts : List Token) (p : A × List Token) → prefix_if_closed x ts ≡ Some p → (ts ≡ mark (codes ")") ∷ p.1) × (x ≡ p.0)
closed_is x [] p e = absurd (none_some e)
closed_is {A} x (t ∷ ts) p e =
    let s = then_is (is_mark (codes ")") t) (x, ts) p e in
    (ap (λ u. u ∷ ts) (mark_is (codes ")") t s.0) ∙ ap (λ (q : A × List Token). mark (codes ")") ∷ q.1) s.1, ap (λ (q : A × List Token). q.0) s.1)

-- tokens up to a closing parenthesis
up_to_close : (ts us vs rest : List Token) → ts ≡ us ++ vs → vs ≡ mark (codes ")") ∷ rest → ts ≡ (us ++ mark (codes ")") ∷ []) ++ rest
up_to_close ts us vs rest e f = e ∙ ap (λ ws. us ++ ws) f ∙ sym (append_assoc us (mark (codes ")") ∷ []) rest)

enclosed_sound : (read : Reader) → Sound expr read → (all ts : List Token) (p : Phrase × List Token) → IsOpened None all ts → enclosed_before read ts ≡ Some p → Splits primary all p
enclosed_sound read f all ts p o e =
    let q = then_on_is (read ts) prefix_if_closed p e in
    let s = f ts q.0 q.1 in
    let c = closed_is q.0.0 q.0.1 p q.2 in
    record {
      us = mark (codes "(") ∷ s.us ++ mark (codes ")") ∷ [];
      whole = o ∙ ap (λ ws. mark (codes "(") ∷ ws) (up_to_close ts s.us q.0.1 p.1 s.whole c.0);
      phrase = G.enclosed (subst (λ x. IsPhrase expr s.us x) c.1 s.phrase);
    }

same_number : (m n : ℕ) → (m == n) ≡ true → m ≡ n
same_number m n e = grind (arith, nat_tests)

call_sound : (f : Function) (read : Reader) → Sound expr read → (all ts : List Token) (p : Phrase × List Token) → IsOpened (Some f) all ts → call_before f read ts ≡ Some p → Splits primary all p
call_sound f read g all ts p o e =
    let q = then_on_is (then_on (list_before read ts) prefix_if_closed) (λ xs rest. option_map (λ x. (x, rest)) (call_phrase f (Some xs))) p e in
    let r = then_on_is (list_before read ts) prefix_if_closed q.0 q.1 in
    let s = list_sound read g ts r.0 r.1 in
    let c = closed_is r.0.0 r.0.1 q.0 r.2 in
    let m = mapped (λ x. (x, q.0.1)) (call_phrase f (Some q.0.0)) p q.2 in
    let n = then_is (length q.0.0 == argument_count f) (P.call f (phrases q.0.0)) m.0 m.1 in
    subst (λ (v : Phrase × List Token). Splits primary all v) m.2
    (record {
      us = word o.0 ∷ mark (codes "(") ∷ s.us ++ mark (codes ")") ∷ [];
      whole = o.2 ∙ ap (λ ws. word o.0 ∷ mark (codes "(") ∷ ws) (up_to_close ts s.us r.0.1 q.0.1 s.whole c.0);
      phrase = subst (λ x. IsPhrase primary (word o.0 ∷ mark (codes "(") ∷ s.us ++ mark (codes ")") ∷ []) x) n.1
          (G.call o.1 (subst (λ xs. IsList s.us xs) c.1 s.list) (same_number (length q.0.0) (argument_count f) n.0));
    })

opened_sound : (read : Reader) → Sound expr read → (o : Option Function) (all ts : List Token) (p : Phrase × List Token) → IsOpened o all ts → reader_in_parentheses read o ts ≡ Some p → Splits primary all p
opened_sound read f None all ts p o e = enclosed_sound read f all ts p o e
opened_sound read f (Some g) all ts p o e = call_sound g read f all ts p o e

primary_sound : (read : Reader) → Sound expr read → Sound primary (primary_before read)
primary_sound read f ts p e = go (atom_before ts) refl e
  where
    go : (o : Prefix Phrase) → atom_before ts ≡ o → option_or o (then_on (opening_before ts) (reader_in_parentheses read)) ≡ Some p → Splits primary ts p
    go (Some q) m h = atom_sound ts p (m ∙ h)
    go None m h =
        let q = then_on_is (opening_before ts) (reader_in_parentheses read) p h in
        opened_sound read f q.0.0 ts q.0.1 p (opening_is ts q.0 q.1) q.2

-- ---- levels

signed_sound : (read : Reader) → Sound expr read → Sound signed (signed_before read)
signed_sound read f = prefixed_sound signed sign_in (primary_before read) sign_prefixes (primary_sound read f)

prod_sound : (read : Reader) → Sound expr read → Sound prod (prod_before read)
prod_sound read f = chained_sound prod (signed_before read) (λ ts x h. h) (signed_sound read f)

sum_sound : (read : Reader) → Sound expr read → Sound sum (sum_before read)
sum_sound read f = chained_sound sum (prod_before read) (λ ts x h. h) (prod_sound read f)

comp_sound : (read : Reader) → Sound expr read → Sound comp (comp_before read)
comp_sound read f ts p e =
    let q = then_on_is (sum_before read ts) (joined_operands 1 (sum_before read) comp) p e in
    compared_sound (sum_before read) (sum_sound read f) ts q.0.0 q.0.1 (sum_sound read f ts q.0 q.1) p q.2

neg_sound : (read : Reader) → Sound expr read → Sound neg (neg_before read)
neg_sound read f = prefixed_sound neg not_in (comp_before read) not_prefixes (comp_sound read f)

conj_sound : (read : Reader) → Sound expr read → Sound conj (conj_before read)
conj_sound read f = chained_sound conj (neg_before read) (λ ts x h. h) (neg_sound read f)

disj_sound : (read : Reader) → Sound expr read → Sound disj (disj_before read)
disj_sound read f = chained_sound disj (conj_before read) (λ ts x h. h) (conj_sound read f)

expr_sound : (read : Reader) → Sound expr read → Sound expr (expr_before read)
expr_sound read f = chained_sound expr (disj_before read) (λ ts x h. h) (disj_sound read f)

reading_sound : (n : ℕ) → Sound expr (expression_reader n)
reading_sound zero ts p e = absurd (none_some e)
reading_sound (suc n) ts p e = expr_sound (expression_reader n) (reading_sound n) ts p e

pub found : (n : ℕ) (ts rest : List Token) (x : Phrase) → expression_reader n ts ≡ Some (x, rest) → Split expr ts x rest
found n ts rest x e = reading_sound n ts (x, rest) e
