-- What is found is a phrase of the grammar.
use Rattle.std.proofs.Common.{◌≡◌, ℕ, zero, suc, Bool, true, false, cond, Option, Some, None, List, [], ◌∷◌, ◌++◌, map, refl, sym, ap, subst, ◌∙◌}
use Rattle.std.proofs.Common.{rules}
use Rattle.std.proofs.lemmas.Slice.Eq.{bytes_eq-Decides}
use Rattle.std.specs.Bool.{then_some}
use Rattle.std.specs.List.{filter, find, last_or, onto_first, AllByRecursion, before_first, after_first, position_or_len, slice_split}
use Rattle.std.proofs.Common.{arith, length}
use Rattle.std.proofs.lemmas.Bool.{and_parts}
use Rattle.std.proofs.lemmas.Bool.Decides.{nat_tests}
use Rattle.std.proofs.Common.{◌⊎◌, inl, inr, append_assoc, append-nil, ◌*◌}
use Rattle.std.specs.Prelude.{nat_le, ◌&&◌, ◌||◌, ◌==◌, ◌+◌, not, take, drop, ℤ, pos}
use Rattle.rule_tree.specs.declared.function.Function.{Function}
use Rattle.std.specs.Option.{option_map, option_or, option_and_then, unwrap_or}
use Rattle.std.specs.Str.{bytes_eq}
use Rattle.quantity.specs.declared.value.Value.TheVariants.{Undefined, Num}
use Rattle.rule_tree.specs.declared.node.Unary.{Unary}
use Rattle.rule_tree.specs.declared.node.Unary.TheVariants.{Plus, Minus, Not}
use Rattle.rule_tree.specs.declared.node.Binary.{Binary}
use Rattle.std.specs.Prelude.{codes}
use Rattle.quantity.specs.Digits.{whole_number, with_sign_of, has_length}
use Rattle.quantity.specs.Literals.{unsigned_literal}
use Rattle.quantity.specs.Bytes.{Bytes, parts_outside, all_there, in_front, is_empty}
use Rattle.rule_words.specs.Tokens.{Token, word, number, mark, is_mark, is_word, parentheses_after}
use Rattle.rule_tree.specs.Phrases as P
use Rattle.rule_tree.specs.Phrases.{Phrase, Level, expr, disj, conj, neg, comp, sum, prod, signed, primary, tighter, left_of, looked_up, counts, functions, phrases, argument_count}
use Rattle.rule_words.specs.Grammar.{IsPhrase, IsList, IsInt, IsPort, IsNeighbour, tight, joined, negated, Joins}
use Rattle.rule_words.specs.Grammar as G
use Rattle.rule_words.specs.Reading.{Cut, cuts, cut_later, joins_at, last_join, operator_in, both, after_not, after_sign, constants, word_phrase, without_last, closes, without_last_close, Enclosed, enclosed_tokens, call_phrase, arguments, has, block, int_in, is_sign, signed_int, port_in, places_in, cell_before, whole_cell, is_port_value, atom, phrase_of, phrase_within}

pub false_true : false ≡ true → ⊥
false_true e = cc

pub none_some : {A : Type 0} {x : A} → None ≡ Some x → ⊥
none_some e = cc

pub some_same : {A : Type 0} {x y : A} → Some x ≡ Some y → x ≡ y
some_same {A} {x} e = ap (λ o. unwrap_or o x) e

-- ---- cuts

IsCut : List Token → Cut → Type 0
IsCut ts c = ts ≡ c.before ++ c.at ∷ c.after

abbrev AreAll : (Cut → Type 0) → List Cut → Type 0
AreAll Q cs = AllByRecursion Q cs

later_all : (t : Token) (ts : List Token) (cs : List Cut) → AreAll (λ c. ts ≡ c.before ++ c.at ∷ c.after) cs → AreAll (λ c. t ∷ ts ≡ c.before ++ c.at ∷ c.after) (map (cut_later t) cs)
later_all t ts [] h = tt
later_all t ts (c ∷ cs) h = (ap (λ us. t ∷ us) h.0, later_all t ts cs h.1)

cuts_are : (ts : List Token) → AreAll (λ c. ts ≡ c.before ++ c.at ∷ c.after) (cuts ts)
cuts_are [] = tt
cuts_are (t ∷ ts) = (refl, later_all t ts (cuts ts) (cuts_are ts))

last_is : (Q : Cut → Type 0) (p : Cut → Bool) (cs : List Cut) (o : Option Cut) (c : Cut) → AreAll Q cs → ((d : Cut) → o ≡ Some d → Q d) → last_or o (filter p cs) ≡ Some c → Q c
last_is Q p [] o c all given e = given c e
last_is Q p (d ∷ cs) o c all given e =
    go (p d) (λ h. last_is Q p cs (Some d) c all.1 (λ x same. subst Q (some_same same) all.0) h) (λ h. last_is Q p cs o c all.1 given h) e
  where
    go : (b : Bool) → (last_or (Some d) (filter p cs) ≡ Some c → Q c) → (last_or o (filter p cs) ≡ Some c → Q c) → last_or o (cond b (d ∷ filter p cs) (filter p cs)) ≡ Some c → Q c
    go true f g h = f h
    go false f g h = g h

join_is_cut : (l : Level) (ts : List Token) (c : Cut) → last_join l ts ≡ Some c → ts ≡ c.before ++ c.at ∷ c.after
join_is_cut l ts c e = last_is (λ d. ts ≡ d.before ++ d.at ∷ d.after) (joins_at l) (cuts ts) None c (cuts_are ts) (λ d h. absurd (none_some h)) e

joins_of : (l : Level) (t : Token) (b : Binary) → operator_in l t ≡ Some b → Joins l t b
joins_of l (word w) b e = e
joins_of l (number n) b e = none_some e
joins_of l (mark m) b e = e

-- ---- levels with operators

abbrev Sound : ℕ → Type 0
Sound n = (l : Level) (ts : List Token) (x : Phrase) → phrase_within n l ts ≡ Some x → IsPhrase l ts x

both_is : (b : Option Binary) (p q : Option Phrase) (x : Phrase) → both b p q ≡ Some x → (o : Binary) × (y : Phrase) × (z : Phrase) × (b ≡ Some o) × (p ≡ Some y) × (q ≡ Some z) × (P.two o y z ≡ x)
both_is None p q x e = absurd (none_some e)
both_is (Some b) None q x e = absurd (none_some e)
both_is (Some b) (Some y) None x e = absurd (none_some e)
both_is (Some b) (Some y) (Some z) x e = (b, y, z, refl, refl, refl, some_same e)

at_join : (n : ℕ) (l : Level) (ts : List Token) (x : Phrase) → Sound n → (o : Option Cut) → last_join l ts ≡ o → elim o [ None ↦ phrase_within n (tighter l) ts | Some c ↦ both (operator_in l c.at) (phrase_within n (left_of l) c.before) (phrase_within n (tighter l) c.after) ] ≡ Some x → IsPhrase l ts x
at_join n l ts x ih None e h = tight (ih (tighter l) ts x h)
at_join n l ts x ih (Some c) e h =
    let parts = both_is (operator_in l c.at) (phrase_within n (left_of l) c.before) (phrase_within n (tighter l) c.after) x h in
    let found : IsPhrase l (c.before ++ c.at ∷ c.after) (P.two parts.0 parts.1 parts.2) = joined c.at (ih (left_of l) c.before parts.1 parts.4) (joins_of l c.at parts.0 parts.3) (ih (tighter l) c.after parts.2 parts.5) in
    subst (λ y. IsPhrase l ts y) parts.6 (subst (λ us. IsPhrase l us (P.two parts.0 parts.1 parts.2)) (sym (join_is_cut l ts c e)) found)

-- ---- words and signs before a phrase

true_is : (b : Bool) → b ≡ true → true ≡ b
true_is b e = sym e

pub same_bytes : (xs ys : Bytes) → bytes_eq xs ys ≡ true → xs ≡ ys
same_bytes xs ys e = search (rules, bytes_eq-Decides)

word_is : (text : Bytes) (t : Token) → is_word text t ≡ true → t ≡ word text
word_is text (word w) e = ap word (same_bytes w text e)
word_is text (number n) e = cc
word_is text (mark m) e = cc

pub mark_is : (text : Bytes) (t : Token) → is_mark text t ≡ true → t ≡ mark text
mark_is text (word w) e = cc
mark_is text (number n) e = cc
mark_is text (mark m) e = ap mark (same_bytes m text e)

pub then_is : {A : Type 0} (b : Bool) (x y : A) → then_some b x ≡ Some y → (b ≡ true) × (x ≡ y)
then_is true x y e = (refl, some_same e)
then_is false x y e = absurd (none_some e)

pub mapped : {A B : Type 0} (f : A → B) (o : Option A) (y : B) → option_map f o ≡ Some y → (x : A) × (o ≡ Some x) × (f x ≡ y)
mapped f None y e = absurd (none_some e)
mapped f (Some x) y e = (x, refl, some_same e)

not_is : (ts us : List Token) → after_not ts ≡ Some us → ts ≡ word (codes "not") ∷ us
not_is [] us e = absurd (none_some e)
not_is (t ∷ ts) us e =
    let parts = then_is (is_word (codes "not") t) ts us e in
    ap (λ v. v ∷ ts) (word_is (codes "not") t parts.0) ∙ ap (λ vs. word (codes "not") ∷ vs) parts.1

at_not : (n : ℕ) (ts : List Token) (x : Phrase) → Sound n → (o : Option (List Token)) → after_not ts ≡ o → elim o [ None ↦ phrase_within n comp ts | Some us ↦ option_map (P.one Not) (phrase_within n neg us) ] ≡ Some x → IsPhrase neg ts x
at_not n ts x ih None e h = tight (ih comp ts x h)
at_not n ts x ih (Some us) e h =
    let m = mapped (P.one Not) (phrase_within n neg us) x h in
    subst (λ y. IsPhrase neg ts y) m.2 (subst (λ vs. IsPhrase neg vs (P.one Not m.0)) (sym (not_is ts us e)) (negated (ih neg us m.0 m.1)))

-- a sign before a phrase
signed_is : (ts : List Token) (s : Unary × List Token) (x : Phrase) → after_sign ts ≡ Some s → IsPhrase signed s.1 x → IsPhrase signed ts (P.one s.0 x)
signed_is [] s x e d = absurd (none_some e)
signed_is (t ∷ ts) s x e d = go (is_mark (codes "+") t) refl e
  where
    with_minus : (b : Bool) → is_mark (codes "-") t ≡ b → then_some b (Minus, ts) ≡ Some s → IsPhrase signed (t ∷ ts) (P.one s.0 x)
    with_minus true m h =
        let same : (Minus, ts) ≡ s = some_same h in
        subst (λ u. IsPhrase signed (u ∷ ts) (P.one s.0 x)) (sym (mark_is (codes "-") t m)) (subst (λ r. IsPhrase signed r.1 x → IsPhrase signed (mark (codes "-") ∷ ts) (P.one r.0 x)) same (λ k. G.minus k) d)
    with_minus false m h = absurd (none_some h)

    go : (b : Bool) → is_mark (codes "+") t ≡ b → cond b (Some (Plus, ts)) (then_some (is_mark (codes "-") t) (Minus, ts)) ≡ Some s → IsPhrase signed (t ∷ ts) (P.one s.0 x)
    go true m h =
        let same : (Plus, ts) ≡ s = some_same h in
        subst (λ u. IsPhrase signed (u ∷ ts) (P.one s.0 x)) (sym (mark_is (codes "+") t m)) (subst (λ r. IsPhrase signed r.1 x → IsPhrase signed (mark (codes "+") ∷ ts) (P.one r.0 x)) same (λ k. G.plus k) d)
    go false m h = with_minus (is_mark (codes "-") t) refl h

at_sign : (n : ℕ) (ts : List Token) (x : Phrase) → Sound n → (o : Option (Unary × List Token)) → after_sign ts ≡ o → elim o [ None ↦ phrase_within n primary ts | Some s ↦ option_map (P.one s.0) (phrase_within n signed s.1) ] ≡ Some x → IsPhrase signed ts x
at_sign n ts x ih None e h = tight (ih primary ts x h)
at_sign n ts x ih (Some s) e h =
    let m = mapped (P.one s.0) (phrase_within n signed s.1) x h in
    subst (λ y. IsPhrase signed ts y) m.2 (signed_is ts s m.0 e (ih signed s.1 m.0 m.1))

-- ---- primaries

-- what a table has for a text
looked_up_is : {A : Type 0} (R : Bytes → A → Type 0) (table : List (Bytes × A)) (w : Bytes) (x : A) → AllByRecursion (λ p. R p.0 p.1) table → looked_up table w ≡ Some x → R w x
looked_up_is R [] w x all e = absurd (none_some e)
looked_up_is {A} R (p ∷ table) w x all e = go (bytes_eq p.0 w) refl (looked_up_is R table w x all.1) e
  where
    go : (b : Bool) → bytes_eq p.0 w ≡ b → (option_map (λ (q : Bytes × A). q.1) (find (λ (q : Bytes × A). bytes_eq q.0 w) table) ≡ Some x → R w x) → option_map (λ (q : Bytes × A). q.1) (cond b (Some p) (find (λ (q : Bytes × A). bytes_eq q.0 w) table)) ≡ Some x → R w x
    go true m rec h = subst (λ v. R v x) (same_bytes p.0 w m) (subst (λ y. R p.0 y) (some_same h) all.0)
    go false m rec h = rec h

constant_is : (w : Bytes) (x : Phrase) → looked_up constants w ≡ Some x → IsPhrase primary (word w ∷ []) x
constant_is w x e = looked_up_is (λ v y. IsPhrase primary (word v ∷ []) y) constants w x (G.true, (G.false, (G.time, tt))) e

word_phrase_is : (w : Bytes) (x : Phrase) → word_phrase w ≡ Some x → IsPhrase primary (word w ∷ []) x
word_phrase_is w x e = go (looked_up constants w) refl e
  where
    go : (o : Option Phrase) → looked_up constants w ≡ o → option_or o (option_map P.counted (looked_up counts w)) ≡ Some x → IsPhrase primary (word w ∷ []) x
    go (Some y) k h = constant_is w x (k ∙ h)
    go None k h =
        let m = mapped P.counted (looked_up counts w) x h in
        subst (λ y. IsPhrase primary (word w ∷ []) y) m.2 (G.counted m.1)

last_is_at_end : (t : Token) (ts : List Token) (u : Token) → last_or None (t ∷ ts) ≡ Some u → t ∷ ts ≡ without_last (t ∷ ts) ++ u ∷ []
last_is_at_end t [] u e = ap (λ v. v ∷ []) (some_same e)
last_is_at_end t (s ∷ ss) u e = ap (λ vs. t ∷ vs) (last_is_at_end s ss u e)

closed_is : (ts us : List Token) → without_last_close ts ≡ Some us → ts ≡ us ++ mark (codes ")") ∷ []
closed_is [] us e = absurd (none_some e)
closed_is (t ∷ ts) us e = go (last_or None (t ∷ ts)) refl e
  where
    go : (o : Option Token) → last_or None (t ∷ ts) ≡ o → then_some (closes o) (without_last (t ∷ ts)) ≡ Some us → t ∷ ts ≡ us ++ mark (codes ")") ∷ []
    go None k h = absurd (none_some h)
    go (Some u) k h =
        let parts = then_is (is_mark (codes ")") u) (without_last (t ∷ ts)) us h in
        last_is_at_end t ts u k ∙ ap (λ vs. vs ++ u ∷ []) parts.1 ∙ ap (λ v. us ++ v ∷ []) (mark_is (codes ")") u parts.0)

-- ---- parts between commas

comma : Token
comma = mark (codes ",")

abbrev rejoined : List (List Token) → List Token
rejoined [] = []
rejoined (p ∷ []) = p
rejoined (p ∷ q ∷ ps) = p ++ mark (codes ",") ∷ rejoined (q ∷ ps)

abbrev HasParts : List (List Token) → Type 0
HasParts [] = ⊥
HasParts (p ∷ ps) = Unit {0}

onto_has : (t : Token) (ps : List (List Token)) → HasParts (onto_first t ps)
onto_has t [] = tt
onto_has t (p ∷ ps) = tt

either_has : (b : Bool) (t : Token) (ps : List (List Token)) → HasParts (cond b ([] ∷ ps) (onto_first t ps))
either_has true t ps = tt
either_has false t ps = onto_has t ps

onto_rejoined : (t : Token) (ps : List (List Token)) → rejoined (onto_first t ps) ≡ t ∷ rejoined ps
onto_rejoined t [] = refl
onto_rejoined t (p ∷ []) = refl
onto_rejoined t (p ∷ q ∷ ps) = refl

cut_rejoined : (ps : List (List Token)) → HasParts ps → rejoined ([] ∷ ps) ≡ mark (codes ",") ∷ rejoined ps
cut_rejoined [] h = absurd h
cut_rejoined (p ∷ ps) h = refl

either_rejoined : (b : Bool) (t : Token) (ps : List (List Token)) → HasParts ps → (b ≡ true → t ≡ mark (codes ",")) → rejoined (cond b ([] ∷ ps) (onto_first t ps)) ≡ t ∷ rejoined ps
either_rejoined true t ps h is = cut_rejoined ps h ∙ ap (λ u. u ∷ rejoined ps) (sym (is refl))
either_rejoined false t ps h is = onto_rejoined t ps

abbrev outside : ℕ → List Token → List (List Token)
outside n ts = parts_outside (is_mark (codes ",")) (is_mark (codes "(")) (is_mark (codes ")")) n ts

outside_has : (n : ℕ) (ts : List Token) → HasParts (outside n ts)
outside_has n [] = tt
outside_has n (t ∷ ts) = either_has (is_mark (codes ",") t && (n == 0)) t (outside (parentheses_after n t) ts)

outside_rejoined : (n : ℕ) (ts : List Token) → rejoined (outside n ts) ≡ ts
outside_rejoined n [] = refl
outside_rejoined n (t ∷ ts) =
    either_rejoined (is_mark (codes ",") t && (n == 0)) t (outside (parentheses_after n t) ts) (outside_has (parentheses_after n t) ts)
    (λ e. mark_is (codes ",") t ((and_parts (is_mark (codes ",") t) (n == 0) e).0))
    ∙ ap (λ us. t ∷ us) (outside_rejoined (parentheses_after n t) ts)

pub in_front_is : {A : Type 0} (o : Option A) (r : Option (List A)) (xs : List A) → in_front o r ≡ Some xs → (y : A) × (ys : List A) × (o ≡ Some y) × (r ≡ Some ys) × (y ∷ ys ≡ xs)
in_front_is None r xs e = absurd (none_some e)
in_front_is (Some y) None xs e = absurd (none_some e)
in_front_is (Some y) (Some ys) xs e = (y, ys, refl, refl, some_same e)

list_is : (n : ℕ) → Sound n → (ps : List (List Token)) (xs : List Phrase) → HasParts ps → all_there (map (phrase_within n expr) ps) ≡ Some xs → IsList (rejoined ps) xs
list_is n ih [] xs h e = absurd h
list_is n ih (p ∷ []) xs h e =
    let f = in_front_is (phrase_within n expr p) (Some []) xs e in
    subst (λ ys. IsList p ys) (ap (λ ys. f.0 ∷ ys) (some_same f.3) ∙ f.4) (G.last (ih expr p f.0 f.2))
list_is n ih (p ∷ q ∷ ps) xs h e =
    let f = in_front_is (phrase_within n expr p) (all_there (map (phrase_within n expr) (q ∷ ps))) xs e in
    subst (λ ys. IsList (rejoined (p ∷ q ∷ ps)) ys) f.4 (G.more (ih expr p f.0 f.2) (list_is n ih (q ∷ ps) f.1 tt f.3))

-- ---- parentheses

abbrev IsEnclosedBy : Option Function → List Token → List Token → Type 0
IsEnclosedBy None ts us = ts ≡ mark (codes "(") ∷ us ++ mark (codes ")") ∷ []
IsEnclosedBy (Some f) ts us = (w : Bytes) × (looked_up functions w ≡ Some f) × (ts ≡ word w ∷ mark (codes "(") ∷ us ++ mark (codes ")") ∷ [])

pub chained : {A B : Type 0} (f : A → Option B) (o : Option A) (y : B) → option_and_then f o ≡ Some y → (x : A) × (o ≡ Some x) × (f x ≡ Some y)
chained f None y e = absurd (none_some e)
chained f (Some x) y e = (x, refl, e)

enclosed_is : (ts : List Token) (e : Enclosed) → enclosed_tokens ts ≡ Some e → IsEnclosedBy e.function ts e.inner
enclosed_is (mark m ∷ ts) e h =
    let c = chained (λ us. then_some (bytes_eq m (codes "(")) (record { function = None; inner = us })) (without_last_close ts) e h in
    let t = then_is (bytes_eq m (codes "(")) (record { function = None; inner = c.0 }) e c.2 in
    subst (λ (d : Enclosed). IsEnclosedBy d.function (mark m ∷ ts) d.inner) t.1
    (ap (λ k. mark k ∷ ts) (same_bytes m (codes "(") t.0) ∙ ap (λ us. mark (codes "(") ∷ us) (closed_is ts c.0 c.1))
enclosed_is (word w ∷ mark m ∷ ts) e h =
    let g = chained (λ f. option_and_then (λ us. then_some (bytes_eq m (codes "(")) (record { function = Some f; inner = us })) (without_last_close ts)) (looked_up functions w) e h in
    let c = chained (λ us. then_some (bytes_eq m (codes "(")) (record { function = Some g.0; inner = us })) (without_last_close ts) e g.2 in
    let t = then_is (bytes_eq m (codes "(")) (record { function = Some g.0; inner = c.0 }) e c.2 in
    subst (λ (d : Enclosed). IsEnclosedBy d.function (word w ∷ mark m ∷ ts) d.inner) t.1
    (w, g.1, ap (λ k. word w ∷ mark k ∷ ts) (same_bytes m (codes "(") t.0) ∙ ap (λ us. word w ∷ mark (codes "(") ∷ us) (closed_is ts c.0 c.1))
enclosed_is ts e h = absurd (none_some h)

same_number : (m n : ℕ) → (m == n) ≡ true → m ≡ n
same_number m n e = grind (arith, nat_tests)

called_is : (f : Function) (o : Option (List Phrase)) (x : Phrase) → call_phrase f o ≡ Some x → (xs : List Phrase) × (o ≡ Some xs) × (length xs ≡ argument_count f) × (P.call f (phrases xs) ≡ x)
called_is f None x e = absurd (none_some e)
called_is f (Some xs) x e =
    let t = then_is (length xs == argument_count f) (P.call f (phrases xs)) x e in
    (xs, refl, same_number (length xs) (argument_count f) t.0, t.1)

abbrev in_parentheses : ℕ → Option Function → List Token → Option Phrase
in_parentheses n f us = elim f [ None ↦ phrase_within n expr us | Some g ↦ call_phrase g (all_there (map (phrase_within n expr) (arguments us))) ]

in_parentheses_is : (n : ℕ) → Sound n → (f : Option Function) (ts us : List Token) (x : Phrase) → IsEnclosedBy f ts us → in_parentheses n f us ≡ Some x → IsPhrase primary ts x
in_parentheses_is n ih None ts us x h e = subst (λ vs. IsPhrase primary vs x) (sym h) (G.enclosed (ih expr us x e))
in_parentheses_is n ih (Some g) ts us x h e =
    let c = called_is g (all_there (map (phrase_within n expr) (arguments us))) x e in
    let args : IsList us c.0 = subst (λ vs. IsList vs c.0) (outside_rejoined 0 us) (list_is n ih (outside 0 us) c.0 (outside_has 0 us) c.1) in
    subst (λ vs. IsPhrase primary vs x) (sym h.2) (subst (λ y. IsPhrase primary (word h.0 ∷ mark (codes "(") ∷ us ++ mark (codes ")") ∷ []) y) c.3 (G.call h.1 args c.2))

at_enclosed : (n : ℕ) (ts : List Token) (x : Phrase) → Sound n → (o : Option Enclosed) → enclosed_tokens ts ≡ o → elim o [ None ↦ None | Some e ↦ in_parentheses n e.function e.inner ] ≡ Some x → IsPhrase primary ts x
at_enclosed n ts x ih None k e = absurd (none_some e)
at_enclosed n ts x ih (Some d) k e = in_parentheses_is n ih d.function ts d.inner x (enclosed_is ts d k) e

-- ---- cells

one_more : (k : ℕ) → 1 + k ≡ suc k
one_more k = omega arith

two_more : (k : ℕ) → 1 + k + 1 ≡ suc (k + 1)
two_more k = omega arith

pub take_more : (k : ℕ) (u : Token) (us : List Token) → take (1 + k) (u ∷ us) ≡ u ∷ take k us
take_more k u us = rw (one_more k) refl

pub drop_more : (k : ℕ) (u : Token) (us : List Token) → drop (1 + k + 1) (u ∷ us) ≡ drop (k + 1) us
drop_more k u us = rw (two_more k) refl

-- a block ends at its first closing mark
first_mark : (text : Bytes) (ts : List Token) → has text ts ≡ true → ts ≡ before_first (is_mark text) ts ++ mark text ∷ after_first (is_mark text) ts
first_mark text [] e = cc
first_mark text (t ∷ ts) e = go (is_mark text t) refl e (first_mark text ts)
  where
    go : (b : Bool) → is_mark text t ≡ b → (b || has text ts) ≡ true → (has text ts ≡ true → ts ≡ before_first (is_mark text) ts ++ mark text ∷ after_first (is_mark text) ts) → t ∷ ts ≡ take (cond (not b) (1 + position_or_len (is_mark text) ts) 0) (t ∷ ts) ++ mark text ∷ drop (cond (not b) (1 + position_or_len (is_mark text) ts) 0 + 1) (t ∷ ts)
    go true m h rec = ap (λ u. u ∷ ts) (mark_is text t m)
    go false m h rec = rw (take_more (position_or_len (is_mark text) ts) t ts, drop_more (position_or_len (is_mark text) ts) t ts) (ap (λ us. t ∷ us) (rec h))

pub block_is : (a b : Bytes) (ts : List Token) (d : List Token × List Token) → block a b ts ≡ Some d → ts ≡ mark a ∷ d.0 ++ mark b ∷ d.1
block_is a b [] d e = absurd (none_some e)
block_is a b (t ∷ ts) d e =
    let p = then_is (is_mark a t && has b ts) (before_first (is_mark b) ts, after_first (is_mark b) ts) d e in
    let q = and_parts (is_mark a t) (has b ts) p.0 in
    ap (λ u. u ∷ ts) (mark_is a t q.0) ∙ ap (λ us. mark a ∷ us) (first_mark b ts q.1) ∙ ap (λ (x : List Token × List Token). mark a ∷ x.0 ++ mark b ∷ x.1) p.1

split_has : (ts : List Token) → HasParts (slice_split (is_mark (codes ",")) ts)
split_has [] = tt
split_has (t ∷ ts) = either_has (is_mark (codes ",") t) t (slice_split (is_mark (codes ",")) ts)

split_rejoined : (ts : List Token) → rejoined (slice_split (is_mark (codes ",")) ts) ≡ ts
split_rejoined [] = refl
split_rejoined (t ∷ ts) =
    either_rejoined (is_mark (codes ",") t) t (slice_split (is_mark (codes ",")) ts) (split_has ts) (mark_is (codes ",") t)
    ∙ ap (λ us. t ∷ us) (split_rejoined ts)

pub sign_cases : (s : Bytes) → is_sign s ≡ true → (s ≡ codes "+") ⊎ (s ≡ codes "-")
sign_cases s e = go (bytes_eq s (codes "+")) refl e
  where
    go : (b : Bool) → bytes_eq s (codes "+") ≡ b → (b || bytes_eq s (codes "-")) ≡ true → (s ≡ codes "+") ⊎ (s ≡ codes "-")
    go true m h = inl (same_bytes s (codes "+") m)
    go false m h = inr (same_bytes s (codes "-") h)

guarded : {A : Type 0} (b : Bool) (o : Option A) (x : A) → cond b o None ≡ Some x → (b ≡ true) × (o ≡ Some x)
guarded true o x e = (refl, e)
guarded false o x e = absurd (none_some e)

signed_int_is : (s text : Bytes) (i : ℤ) → is_sign s ≡ true → option_map (λ n. with_sign_of s (pos n)) (whole_number 10 text) ≡ Some i → IsInt (mark s ∷ number text ∷ []) i
signed_int_is s text i g e =
    elim (sign_cases s g) [
      | inl h ↦ subst (λ m. option_map (λ n. with_sign_of m (pos n)) (whole_number 10 text) ≡ Some i → IsInt (mark m ∷ number text ∷ []) i) (sym h) with_plus e
      | inr h ↦ subst (λ m. option_map (λ n. with_sign_of m (pos n)) (whole_number 10 text) ≡ Some i → IsInt (mark m ∷ number text ∷ []) i) (sym h) with_minus e
    ]
  where
    with_plus : option_map (λ n. with_sign_of (codes "+") (pos n)) (whole_number 10 text) ≡ Some i → IsInt (mark (codes "+") ∷ number text ∷ []) i
    with_plus h = let m = mapped (λ n. with_sign_of (codes "+") (pos n)) (whole_number 10 text) i h in subst (λ j. IsInt (mark (codes "+") ∷ number text ∷ []) j) m.2 (G.IsInt.plus m.1)

    with_minus : option_map (λ n. with_sign_of (codes "-") (pos n)) (whole_number 10 text) ≡ Some i → IsInt (mark (codes "-") ∷ number text ∷ []) i
    with_minus h = let m = mapped (λ n. with_sign_of (codes "-") (pos n)) (whole_number 10 text) i h in subst (λ j. IsInt (mark (codes "-") ∷ number text ∷ []) j) m.2 (G.IsInt.minus m.1)

int_is : (ts : List Token) (i : ℤ) → int_in ts ≡ Some i → IsInt ts i
int_is (number text ∷ []) i e =
    let m = mapped (λ n. with_sign_of [] (pos n)) (whole_number 10 text) i e in
    subst (λ j. IsInt (number text ∷ []) j) m.2 (G.IsInt.bare m.1)
int_is (mark s ∷ number text ∷ []) i e =
    let g = guarded (is_sign s) (signed_int s (Some text)) i e in
    signed_int_is s text i g.0 g.1
int_is ts i e = absurd (none_some e)

port_is : (ts : List Token) (p : Bytes × List Token) → port_in ts ≡ Some p → (us : List Token) × IsPort us p.0 × (ts ≡ us ++ p.1)
port_is (mark m ∷ word w ∷ ts) p e = go (bytes_eq m (codes "~")) refl (some_same e)
  where
    go : (b : Bool) → bytes_eq m (codes "~") ≡ b → cond b (w, ts) (P.out, mark m ∷ word w ∷ ts) ≡ p → (us : List Token) × IsPort us p.0 × (mark m ∷ word w ∷ ts ≡ us ++ p.1)
    go true k h = (
      mark (codes "~") ∷ word w ∷ [],
      subst (λ (q : Bytes × List Token). IsPort (mark (codes "~") ∷ word w ∷ []) q.0) h G.named,
      ap (λ x. mark x ∷ word w ∷ ts) (same_bytes m (codes "~") k) ∙ ap (λ (q : Bytes × List Token). mark (codes "~") ∷ word w ∷ q.1) h,
    )
    go false k h = ([], subst (λ (q : Bytes × List Token). IsPort [] q.0) h G.plain, ap (λ (q : Bytes × List Token). q.1) h)
port_is ts p e = ([], subst (λ (q : Bytes × List Token). IsPort [] q.0) (some_same e) G.plain, ap (λ (q : Bytes × List Token). q.1) (some_same e))

not_one : (i : ℤ) → has_length 2 3 (i ∷ []) ≡ true → ⊥
not_one i e = cc

not_many : (i j k l : ℤ) (is : List ℤ) → has_length 2 3 (i ∷ j ∷ k ∷ l ∷ is) ≡ true → ⊥
not_many i j k l is e =
    let p = and_parts (nat_le 2 (length (i ∷ j ∷ k ∷ l ∷ is))) (nat_le (length (i ∷ j ∷ k ∷ l ∷ is)) 3) e in
    grind (arith, nat_tests, p.1)

cell_of : (ps : List (List Token)) (is : List ℤ) (us : List Token) (w : Bytes) → HasParts ps → IsPort us w → all_there (map int_in ps) ≡ Some is → has_length 2 3 is ≡ true → IsNeighbour (mark (codes "(") ∷ rejoined ps ++ mark (codes ")") ∷ us) (record { place = is; port = w })
cell_of [] is us w h d e n = absurd h
cell_of (a ∷ []) is us w h d e n =
    let f = in_front_is (int_in a) (Some []) is e in
    absurd (not_one f.0 (subst (λ js. has_length 2 3 js ≡ true) (sym (ap (λ ys. f.0 ∷ ys) (some_same f.3) ∙ f.4)) n))
cell_of (a ∷ b ∷ []) is us w h d e n =
    let f = in_front_is (int_in a) (all_there (map int_in (b ∷ []))) is e in
    let g = in_front_is (int_in b) (Some []) f.1 f.3 in
    let same : f.0 ∷ g.0 ∷ [] ≡ is = ap (λ ys. f.0 ∷ ys) (ap (λ ys. g.0 ∷ ys) (some_same g.3) ∙ g.4) ∙ f.4 in
    subst (λ js. IsNeighbour (mark (codes "(") ∷ a ++ mark (codes ",") ∷ b ++ mark (codes ")") ∷ us) (record { place = js; port = w })) same (G.flat (int_is a f.0 f.2) (int_is b g.0 g.2) d)
cell_of (a ∷ b ∷ c ∷ []) is us w h d e n =
    let f = in_front_is (int_in a) (all_there (map int_in (b ∷ c ∷ []))) is e in
    let g = in_front_is (int_in b) (all_there (map int_in (c ∷ []))) f.1 f.3 in
    let k = in_front_is (int_in c) (Some []) g.1 g.3 in
    let same : f.0 ∷ g.0 ∷ k.0 ∷ [] ≡ is = ap (λ ys. f.0 ∷ ys) (ap (λ ys. g.0 ∷ ys) (ap (λ ys. k.0 ∷ ys) (some_same k.3) ∙ k.4) ∙ g.4) ∙ f.4 in
    subst (λ js. IsNeighbour (mark (codes "(") ∷ rejoined (a ∷ b ∷ c ∷ []) ++ mark (codes ")") ∷ us) (record { place = js; port = w })) same
    (subst (λ vs. IsNeighbour (mark (codes "(") ∷ vs ++ mark (codes ")") ∷ us) (record { place = f.0 ∷ g.0 ∷ k.0 ∷ []; port = w })) (append_assoc a (mark (codes ",") ∷ b) (mark (codes ",") ∷ c))
    (G.deep (int_is a f.0 f.2) (int_is b g.0 g.2) (int_is c k.0 k.2) d))
cell_of (a ∷ b ∷ c ∷ q ∷ ps) is us w h d e n =
    let f = in_front_is (int_in a) (all_there (map int_in (b ∷ c ∷ q ∷ ps))) is e in
    let g = in_front_is (int_in b) (all_there (map int_in (c ∷ q ∷ ps))) f.1 f.3 in
    let k = in_front_is (int_in c) (all_there (map int_in (q ∷ ps))) g.1 g.3 in
    let l = in_front_is (int_in q) (all_there (map int_in ps)) k.1 k.3 in
    let same : f.0 ∷ g.0 ∷ k.0 ∷ l.0 ∷ l.1 ≡ is = ap (λ ys. f.0 ∷ ys) (ap (λ ys. g.0 ∷ ys) (ap (λ ys. k.0 ∷ ys) l.4 ∙ k.4) ∙ g.4) ∙ f.4 in
    absurd (not_many f.0 g.0 k.0 l.0 l.1 (subst (λ js. has_length 2 3 js ≡ true) (sym same) n))

places_are : (inner : List Token) (is : List ℤ) (us : List Token) (w : Bytes) → places_in inner ≡ Some is → IsPort us w → IsNeighbour (mark (codes "(") ∷ inner ++ mark (codes ")") ∷ us) (record { place = is; port = w })
places_are inner is us w e d =
    let q = chained (λ js. then_some (has_length 2 3 js) js) (all_there (map int_in (slice_split (is_mark (codes ",")) inner))) is e in
    let r = then_is (has_length 2 3 q.0) q.0 is q.2 in
    subst (λ js. IsNeighbour (mark (codes "(") ∷ inner ++ mark (codes ")") ∷ us) (record { place = js; port = w })) r.1
    (subst (λ vs. IsNeighbour (mark (codes "(") ∷ vs ++ mark (codes ")") ∷ us) (record { place = q.0; port = w })) (split_rejoined inner)
    (cell_of (slice_split (is_mark (codes ",")) inner) q.0 us w (split_has inner) d q.1 r.0))

IsCellBefore : List Token → P.Cell × List Token → Type 0
IsCellBefore ts c = (us : List Token) × IsNeighbour us c.0 × (ts ≡ us ++ c.1)

cell_at : (ts inner after : List Token) (is : List ℤ) (p : Bytes × List Token) (c : P.Cell × List Token) → ts ≡ mark (codes "(") ∷ inner ++ mark (codes ")") ∷ after → places_in inner ≡ Some is → port_in after ≡ Some p → (record { place = is; port = p.0 }, p.1) ≡ c → (us : List Token) × IsNeighbour us c.0 × (ts ≡ us ++ c.1)
cell_at ts inner after is p c e places port same = go (port_is after p port)
  where
    go : (us : List Token) × IsPort us p.0 × (after ≡ us ++ p.1) → (us : List Token) × IsNeighbour us c.0 × (ts ≡ us ++ c.1)
    go w = (
      mark (codes "(") ∷ inner ++ mark (codes ")") ∷ w.0,
      subst (λ (d : P.Cell × List Token). IsNeighbour (mark (codes "(") ∷ inner ++ mark (codes ")") ∷ w.0) d.0) same (places_are inner is w.0 p.0 places w.1),
      e ∙ ap (λ vs. mark (codes "(") ∷ inner ++ mark (codes ")") ∷ vs) w.2 ∙ ap (λ vs. mark (codes "(") ∷ vs) (sym (append_assoc inner (mark (codes ")") ∷ w.0) p.1))
          ∙ ap (λ (d : P.Cell × List Token). (mark (codes "(") ∷ inner ++ mark (codes ")") ∷ w.0) ++ d.1) same,
    )

-- a cell, and the tokens after it
pub cell_is : (ts : List Token) (c : P.Cell × List Token) → cell_before ts ≡ Some c → (us : List Token) × IsNeighbour us c.0 × (ts ≡ us ++ c.1)
cell_is ts c e =
    let b = chained (λ d. option_and_then (λ is. option_map (λ p. (record { place = is; port = p.0 }, p.1)) (port_in d.1)) (places_in d.0)) (block (codes "(") (codes ")") ts) c e in
    with_block b.0 b.1 b.2
  where
    with_block : (d : List Token × List Token) → block (codes "(") (codes ")") ts ≡ Some d → option_and_then (λ is. option_map (λ p. (record { place = is; port = p.0 }, p.1)) (port_in d.1)) (places_in d.0) ≡ Some c → (us : List Token) × IsNeighbour us c.0 × (ts ≡ us ++ c.1)
    with_block d k h =
        let i = chained (λ is. option_map (λ p. (record { place = is; port = p.0 }, p.1)) (port_in d.1)) (places_in d.0) c h in
        let p = mapped (λ p. (record { place = i.0; port = p.0 }, p.1)) (port_in d.1) c i.2 in
        cell_at ts d.0 d.1 i.0 p.0 c (block_is (codes "(") (codes ")") ts d k) i.1 p.1 p.2

pub empty_is : (ts : List Token) → is_empty ts ≡ true → ts ≡ []
empty_is [] e = refl
empty_is (t ∷ ts) e = cc

whole_cell_is : (ts : List Token) (x : Phrase) → whole_cell (cell_before ts) ≡ Some x → IsPhrase primary ts x
whole_cell_is ts x e = go (cell_before ts) refl e
  where
    go : (o : Option (P.Cell × List Token)) → cell_before ts ≡ o → whole_cell o ≡ Some x → IsPhrase primary ts x
    go None k h = absurd (none_some h)
    go (Some c) k h = whole (then_is (is_empty c.1) (P.cell c.0) x h) (cell_is ts c k)
      where
        whole : (is_empty c.1 ≡ true) × (P.cell c.0 ≡ x) → (us : List Token) × IsNeighbour us c.0 × (ts ≡ us ++ c.1) → IsPhrase primary ts x
        whole t w =
            subst (λ y. IsPhrase primary ts y) t.1
            (subst (λ vs. IsPhrase primary vs (P.cell c.0)) (sym (w.2 ∙ ap (λ vs. w.0 ++ vs) (empty_is c.1 t.0) ∙ append-nil w.0)) (G.cell w.1))

-- ---- atoms

port_value_is : (ts : List Token) → is_port_value ts ≡ true → ts ≡ word (codes "portvalue") ∷ mark (codes "(") ∷ word (codes "thisport") ∷ mark (codes ")") ∷ []
port_value_is (word w ∷ a ∷ word v ∷ b ∷ []) e =
    let p = and_parts (bytes_eq w (codes "portvalue") && is_mark (codes "(") a && bytes_eq v (codes "thisport")) (is_mark (codes ")") b) e in
    let q = and_parts (bytes_eq w (codes "portvalue") && is_mark (codes "(") a) (bytes_eq v (codes "thisport")) p.0 in
    let r = and_parts (bytes_eq w (codes "portvalue")) (is_mark (codes "(") a) q.0 in
    rw (same_bytes w (codes "portvalue") r.0, mark_is (codes "(") a r.1, same_bytes v (codes "thisport") q.1, mark_is (codes ")") b p.1) refl
port_value_is ts e = absurd (false_true e)

other_is : (ts : List Token) (x : Phrase) → option_or (then_some (is_port_value ts) P.port_value) (whole_cell (cell_before ts)) ≡ Some x → IsPhrase primary ts x
other_is ts x e = go (is_port_value ts) refl e
  where
    go : (b : Bool) → is_port_value ts ≡ b → option_or (then_some b P.port_value) (whole_cell (cell_before ts)) ≡ Some x → IsPhrase primary ts x
    go true k h = subst (λ y. IsPhrase primary ts y) (some_same h) (subst (λ vs. IsPhrase primary vs P.port_value) (sym (port_value_is ts k)) G.port_value)
    go false k h = whole_cell_is ts x h

atom_is : (ts : List Token) (x : Phrase) → atom ts ≡ Some x → IsPhrase primary ts x
atom_is (number text ∷ []) x e =
    let m = mapped (λ n. P.value (Num n)) (unsigned_literal text) x e in
    subst (λ y. IsPhrase primary (number text ∷ []) y) m.2 (G.numeral m.1)
atom_is (word w ∷ []) x e = word_phrase_is w x e
atom_is (mark m ∷ []) x e =
    let t = then_is (bytes_eq m (codes "?")) (P.value Undefined) x e in
    subst (λ y. IsPhrase primary (mark m ∷ []) y) t.1 (subst (λ k. IsPhrase primary (mark k ∷ []) (P.value Undefined)) (sym (same_bytes m (codes "?") t.0)) G.unknown)
atom_is (mark m ∷ word w ∷ []) x e =
    let t = then_is (bytes_eq m (codes "$")) (P.variable w) x e in
    subst (λ y. IsPhrase primary (mark m ∷ word w ∷ []) y) t.1 (subst (λ k. IsPhrase primary (mark k ∷ word w ∷ []) (P.variable w)) (sym (same_bytes m (codes "$") t.0)) G.variable)
atom_is ts x e = other_is ts x e

-- ---- all levels

at_primary : (n : ℕ) (ts : List Token) (x : Phrase) → Sound n → (o : Option Phrase) → atom ts ≡ o → option_or o (elim (enclosed_tokens ts) [ None ↦ None | Some e ↦ in_parentheses n e.function e.inner ]) ≡ Some x → IsPhrase primary ts x
at_primary n ts x ih None k h = at_enclosed n ts x ih (enclosed_tokens ts) refl h
at_primary n ts x ih (Some y) k h = atom_is ts x (k ∙ h)

sound : (n : ℕ) → Sound n
sound zero l ts x e = absurd (none_some e)
sound (suc n) expr ts x e = at_join n expr ts x (sound n) (last_join expr ts) refl e
sound (suc n) disj ts x e = at_join n disj ts x (sound n) (last_join disj ts) refl e
sound (suc n) conj ts x e = at_join n conj ts x (sound n) (last_join conj ts) refl e
sound (suc n) neg ts x e = at_not n ts x (sound n) (after_not ts) refl e
sound (suc n) comp ts x e = at_join n comp ts x (sound n) (last_join comp ts) refl e
sound (suc n) sum ts x e = at_join n sum ts x (sound n) (last_join sum ts) refl e
sound (suc n) prod ts x e = at_join n prod ts x (sound n) (last_join prod ts) refl e
sound (suc n) signed ts x e = at_sign n ts x (sound n) (after_sign ts) refl e
sound (suc n) primary ts x e = at_primary n ts x (sound n) (atom ts) refl e

pub phrases_are_found : (ts : List Token) (x : Phrase) → phrase_of ts ≡ Some x → IsPhrase expr ts x
phrases_are_found ts x e = sound (9 * length ts + 9) expr ts x e
