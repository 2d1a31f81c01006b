-- A rule that is found is one of the grammar.
use Rattle.std.proofs.Common.{◌≡◌, ◌⊎◌, Bool, true, false, cond, Option, Some, None, List, [], ◌∷◌, ◌++◌, map, refl, sym, ap, subst, ◌∙◌, inl, inr, append_assoc, append-nil}
use Rattle.std.proofs.lemmas.Bool.{and_parts}
use Rattle.std.specs.Prelude.{◌&&◌, not, codes}
use Rattle.std.specs.Bool.{then_some}
use Rattle.std.specs.List.{onto_first, slice_split}
use Rattle.std.specs.Option.{option_map, option_or}
use Rattle.std.specs.Str.{bytes_eq}
use Rattle.quantity.specs.declared.value.Value.TheVariants.{Undefined, Num}
use Rattle.quantity.specs.Bytes.{Bytes, all_there, is_empty}
use Rattle.quantity.specs.Literals.{unsigned_literal}
use Rattle.quantity.specs.Digits.{with_sign_of}
use Rattle.quantity.specs.Written.{for_some}
use Rattle.rule_words.specs.Tokens.{Token, word, number, mark, is_mark}
use Rattle.rule_tree.specs.Phrases as P
use Rattle.rule_tree.specs.Phrases.{Phrase, Assigned, Written, expr}
use Rattle.rule_words.specs.Grammar.{IsPhrase, IsNumber, AreAssigned, tokens_in_braces, IsValue, AreSets, IsDelayPhrase, IsRule}
use Rattle.rule_words.specs.Reading.{assigned_at_out}
use Rattle.rule_words.specs.Grammar as G
use Rattle.rule_words.specs.Reading.{is_sign, cell_before, block, number_before, phrase_of, phrase_block, assignment_in, ended_parts, all_assigned, block_begins, given_in, question_before, cell_phrase_before, value_before, sets_in, sets_block, sets_before, delay_before, last_block, written_rule}
use Rattle.rule_words.proofs.Sound.{none_some, some_same, same_bytes, mark_is, then_is, mapped, block_is, cell_is, in_front_is, sign_cases, empty_is, phrases_are_found}

on_is : {A B : Type 0} (o : Option A) (f : A → Option B) (y : B) → for_some o f ≡ Some y → (x : A) × (o ≡ Some x) × (f x ≡ Some y)
on_is None f y e = absurd (none_some e)
on_is (Some x) f y e = (x, refl, e)

either_is : {A : Type 0} (o p : Option A) (x : A) → option_or o p ≡ Some x → (o ≡ Some x) ⊎ (p ≡ Some x)
either_is None p x e = inr e
either_is (Some y) p x e = inl e

-- ---- numbers

signed_number_is : (s text : Bytes) (x : Phrase) → is_sign s ≡ true → option_map (λ n. P.value (Num (with_sign_of s n))) (unsigned_literal text) ≡ Some x → IsNumber (mark s ∷ number text ∷ []) x
signed_number_is s text x g e =
    elim (sign_cases s g) [
      | inl h ↦ subst (λ m. option_map (λ n. P.value (Num (with_sign_of m n))) (unsigned_literal text) ≡ Some x → IsNumber (mark m ∷ number text ∷ []) x) (sym h) with_plus e
      | inr h ↦ subst (λ m. option_map (λ n. P.value (Num (with_sign_of m n))) (unsigned_literal text) ≡ Some x → IsNumber (mark m ∷ number text ∷ []) x) (sym h) with_minus e
    ]
  where
    with_plus : option_map (λ n. P.value (Num (with_sign_of (codes "+") n))) (unsigned_literal text) ≡ Some x → IsNumber (mark (codes "+") ∷ number text ∷ []) x
    with_plus h = let m = mapped (λ n. P.value (Num (with_sign_of (codes "+") n))) (unsigned_literal text) x h in subst (λ y. IsNumber (mark (codes "+") ∷ number text ∷ []) y) m.2 (G.IsNumber.plus m.1)

    with_minus : option_map (λ n. P.value (Num (with_sign_of (codes "-") n))) (unsigned_literal text) ≡ Some x → IsNumber (mark (codes "-") ∷ number text ∷ []) x
    with_minus h = let m = mapped (λ n. P.value (Num (with_sign_of (codes "-") n))) (unsigned_literal text) x h in subst (λ y. IsNumber (mark (codes "-") ∷ number text ∷ []) y) m.2 (G.IsNumber.minus m.1)

number_is : (ts : List Token) (p : Phrase × List Token) → number_before ts ≡ Some p → (us : List Token) × IsNumber us p.0 × (ts ≡ us ++ p.1)
number_is (number text ∷ ts) p e =
    let m = mapped (λ n. (P.value (Num n), ts)) (unsigned_literal text) p e in
    (number text ∷ [], subst (λ (q : Phrase × List Token). IsNumber (number text ∷ []) q.0) m.2 (G.IsNumber.bare m.1), ap (λ (q : Phrase × List Token). number text ∷ q.1) m.2)
number_is (mark s ∷ number text ∷ ts) p e =
    let g = on_is (then_some (is_sign s) s) (λ k. option_map (λ n. (P.value (Num (with_sign_of k n)), ts)) (unsigned_literal text)) p e in
    let t = then_is (is_sign s) s g.0 g.1 in
    let m = mapped (λ n. (P.value (Num (with_sign_of g.0 n)), ts)) (unsigned_literal text) p g.2 in (
      mark s ∷ number text ∷ [],
      subst (λ (q : Phrase × List Token). IsNumber (mark s ∷ number text ∷ []) q.0) m.2
          (signed_number_is s text (P.value (Num (with_sign_of g.0 m.0))) t.0 (subst (λ k. option_map (λ n. P.value (Num (with_sign_of k n))) (unsigned_literal text) ≡ Some (P.value (Num (with_sign_of g.0 m.0)))) (sym t.1) (ap (λ o. option_map (λ n. P.value (Num (with_sign_of g.0 n))) o) m.1))),
      ap (λ (q : Phrase × List Token). mark s ∷ number text ∷ q.1) m.2,
    )
number_is ts p e = absurd (none_some e)

-- ---- blocks

phrase_block_is : (ts : List Token) (p : Phrase × List Token) → phrase_block ts ≡ Some p → (us : List Token) × IsPhrase expr us p.0 × (ts ≡ tokens_in_braces us ++ p.1)
phrase_block_is ts p e =
    let b = on_is (block (codes "{") (codes "}") ts) (λ d. option_map (λ x. (x, d.1)) (phrase_of d.0)) p e in
    let m = mapped (λ x. (x, b.0.1)) (phrase_of b.0.0) p b.2 in
    (b.0.0, subst (λ (q : Phrase × List Token). IsPhrase expr b.0.0 q.0) m.2 (phrases_are_found b.0.0 m.0 m.1), braces_are ts b.0.0 b.0.1 p.1 (block_is (codes "{") (codes "}") ts b.0 b.1) (ap (λ (q : Phrase × List Token). q.1) m.2))
  where
    braces_are : (ts us vs ws : List Token) → ts ≡ mark (codes "{") ∷ us ++ mark (codes "}") ∷ vs → vs ≡ ws → ts ≡ tokens_in_braces us ++ ws
    braces_are ts us vs ws h same = h ∙ ap (λ xs. mark (codes "{") ∷ us ++ mark (codes "}") ∷ xs) same ∙ ap (λ xs. mark (codes "{") ∷ xs) (sym (append_assoc us (mark (codes "}") ∷ []) ws))

braces_after : (ts us vs ws : List Token) → ts ≡ mark (codes "{") ∷ us ++ mark (codes "}") ∷ vs → vs ≡ ws → ts ≡ tokens_in_braces us ++ ws
braces_after ts us vs ws h same = h ∙ ap (λ xs. mark (codes "{") ∷ us ++ mark (codes "}") ∷ xs) same ∙ ap (λ xs. mark (codes "{") ∷ xs) (sym (append_assoc us (mark (codes "}") ∷ []) ws))

-- ---- gives and sets

abbrev IsAssigned : Bytes → List Token → Assigned → Type 0
IsAssigned kind ts a = (w : Bytes) × (us : List Token) × (x : Phrase) × (ts ≡ mark kind ∷ word w ∷ mark (codes ":=") ∷ us) × IsPhrase expr us x × (record { name = w; phrase = x } ≡ a)

assigned_is : (kind : Bytes) (ts : List Token) (a : Assigned) → assignment_in kind ts ≡ Some a → IsAssigned kind ts a
assigned_is kind (mark m ∷ word w ∷ mark s ∷ ts) a e =
    let g = on_is (then_some (bytes_eq m kind && bytes_eq s (codes ":=")) w) (λ name. option_map (λ x. record { name = name; phrase = x }) (phrase_of ts)) a e in
    let t = then_is (bytes_eq m kind && bytes_eq s (codes ":=")) w g.0 g.1 in
    let b = and_parts (bytes_eq m kind) (bytes_eq s (codes ":=")) t.0 in
    let x = mapped (λ x. record { name = g.0; phrase = x }) (phrase_of ts) a g.2 in
    (w, ts, x.0, ap (λ k. mark k ∷ word w ∷ mark s ∷ ts) (same_bytes m kind b.0) ∙ ap (λ k. mark kind ∷ word w ∷ mark k ∷ ts) (same_bytes s (codes ":=") b.1), phrases_are_found ts x.0 x.1, ap (λ k. record { name = k; phrase = x.0 }) t.1 ∙ x.2)
assigned_is kind ts a e = absurd (none_some e)

abbrev ended : List (List Token) → List Token
ended [] = []
ended (p ∷ ps) = p ++ mark (codes ";") ∷ ended ps

abbrev HasParts : List (List Token) → Type 0
HasParts [] = ⊥
HasParts (p ∷ ps) = Unit {0}

parts_are : (kind : Bytes) (ps : List (List Token)) (xs : List Assigned) → HasParts ps → all_there (map (assignment_in kind) ps) ≡ Some xs → AreAssigned kind (ended ps) xs
parts_are kind [] xs h e = absurd h
parts_are kind (p ∷ []) xs h e =
    let f = in_front_is (assignment_in kind p) (Some []) xs e in
    let a = assigned_is kind p f.0 f.2 in
    subst (λ ys. AreAssigned kind (p ++ mark (codes ";") ∷ []) ys) (ap (λ ys. f.0 ∷ ys) (some_same f.3) ∙ f.4)
    (subst (λ y. AreAssigned kind (p ++ mark (codes ";") ∷ []) (y ∷ [])) a.5 (subst (λ us. AreAssigned kind (us ++ mark (codes ";") ∷ []) (record { name = a.0; phrase = a.2 } ∷ [])) (sym a.3) (G.AreAssigned.last a.4)))
parts_are kind (p ∷ q ∷ ps) xs h e =
    let f = in_front_is (assignment_in kind p) (all_there (map (assignment_in kind) (q ∷ ps))) xs e in
    let a = assigned_is kind p f.0 f.2 in
    subst (λ ys. AreAssigned kind (ended (p ∷ q ∷ ps)) ys) f.4
    (subst (λ y. AreAssigned kind (ended (p ∷ q ∷ ps)) (y ∷ f.1)) a.5
    (subst (λ us. AreAssigned kind (us ++ mark (codes ";") ∷ ended (q ∷ ps)) (record { name = a.0; phrase = a.2 } ∷ f.1)) (sym a.3)
    (G.AreAssigned.more a.4 (parts_are kind (q ∷ ps) f.1 tt f.3))))

onto_has : (t : Token) (ps : List (List Token)) → HasParts (onto_first t ps)
onto_has t [] = tt
onto_has t (p ∷ ps) = tt

either_has : (b : Bool) (t : Token) (ps : List (List Token)) → HasParts (cond b ([] ∷ ps) (onto_first t ps))
either_has true t ps = tt
either_has false t ps = onto_has t ps

split_has : (ts : List Token) → HasParts (slice_split (is_mark (codes ";")) ts)
split_has [] = tt
split_has (t ∷ ts) = either_has (is_mark (codes ";") t) t (slice_split (is_mark (codes ";")) ts)

either_ended : (b : Bool) (t : Token) (ts : List Token) (rest : List (List Token)) → HasParts rest → ((ps : List (List Token)) → ended_parts rest ≡ Some ps → ended ps ≡ ts) → (b ≡ true → t ≡ mark (codes ";")) → (ps : List (List Token)) → ended_parts (cond b ([] ∷ rest) (onto_first t rest)) ≡ Some ps → ended ps ≡ t ∷ ts
either_ended b t ts [] h ih is ps e = absurd h
either_ended true t ts (q ∷ qs) h ih is ps e =
    let m = mapped (λ us. [] ∷ us) (ended_parts (q ∷ qs)) ps e in
    ap ended (sym m.2) ∙ ap (λ us. mark (codes ";") ∷ us) (ih m.0 m.1) ∙ ap (λ u. u ∷ ts) (sym (is refl))
either_ended false t ts (q ∷ []) h ih is ps e = absurd (none_some e)
either_ended false t ts (q ∷ r ∷ rs) h ih is ps e =
    let m = mapped (λ us. (t ∷ q) ∷ us) (ended_parts (r ∷ rs)) ps e in
    ap ended (sym m.2) ∙ ap (λ us. t ∷ us) (ih (q ∷ m.0) (ap (λ o. option_map (λ us. q ∷ us) o) m.1))

ended_is : (ts : List Token) (ps : List (List Token)) → ended_parts (slice_split (is_mark (codes ";")) ts) ≡ Some ps → ended ps ≡ ts
ended_is [] ps e = ap ended (sym (some_same e))
ended_is (t ∷ ts) ps e =
    either_ended (is_mark (codes ";") t) t ts (slice_split (is_mark (codes ";")) ts) (split_has ts) (ended_is ts) (mark_is (codes ";") t) ps e

not_empty : (ps : List (List Token)) → not (is_empty ps) ≡ true → HasParts ps
not_empty [] e = cc
not_empty (p ∷ ps) e = tt

all_assigned_is : (kind : Bytes) (ts : List Token) (xs : List Assigned) → all_assigned kind ts ≡ Some xs → AreAssigned kind ts xs
all_assigned_is kind ts xs e =
    let p = on_is (ended_parts (slice_split (is_mark (codes ";")) ts)) (λ parts. for_some (then_some (not (is_empty parts)) parts) (λ ps. all_there (map (assignment_in kind) ps))) xs e in
    let q = on_is (then_some (not (is_empty p.0)) p.0) (λ ps. all_there (map (assignment_in kind) ps)) xs p.2 in
    let t = then_is (not (is_empty p.0)) p.0 q.0 q.1 in
    subst (λ us. AreAssigned kind us xs) (ap ended (sym t.1) ∙ ended_is ts p.0 p.1) (parts_are kind q.0 xs (subst HasParts t.1 (not_empty p.0 t.0)) q.2)

-- ---- parts of rules

given_in_is : (ts : List Token) (xs : List Assigned) → given_in ts ≡ Some xs → IsValue (tokens_in_braces ts) xs
given_in_is ts xs e = go (block_begins (codes "~") ts) e
  where
    go : (b : Bool) → cond b (all_assigned (codes "~") ts) (option_map assigned_at_out (phrase_of ts)) ≡ Some xs → IsValue (tokens_in_braces ts) xs
    go true h = G.some_gives (all_assigned_is (codes "~") ts xs h)
    go false h = let m = mapped assigned_at_out (phrase_of ts) xs h in subst (λ ys. IsValue (tokens_in_braces ts) ys) m.2 (G.a_phrase (phrases_are_found ts m.0 m.1))

abbrev IsValueBefore : List Token → List Assigned × List Token → Type 0
IsValueBefore ts p = (us : List Token) × IsValue us p.0 × (ts ≡ us ++ p.1)

block_value_is : (ts : List Token) (p : List Assigned × List Token) → for_some (block (codes "{") (codes "}") ts) (λ b. option_map (λ xs. (xs, b.1)) (given_in b.0)) ≡ Some p → IsValueBefore ts p
block_value_is ts p e =
    let b = on_is (block (codes "{") (codes "}") ts) (λ d. option_map (λ xs. (xs, d.1)) (given_in d.0)) p e in
    let m = mapped (λ xs. (xs, b.0.1)) (given_in b.0.0) p b.2 in
    (tokens_in_braces b.0.0, subst (λ (q : List Assigned × List Token). IsValue (tokens_in_braces b.0.0) q.0) m.2 (given_in_is b.0.0 m.0 m.1), braces_after ts b.0.0 b.0.1 p.1 (block_is (codes "{") (codes "}") ts b.0 b.1) (ap (λ (q : List Assigned × List Token). q.1) m.2))

abbrev IsPlain : List Token → Phrase × List Token → Type 0
IsPlain ts p = (us : List Token) × IsValue us (assigned_at_out p.0) × (ts ≡ us ++ p.1)

question_is : (ts : List Token) (p : Phrase × List Token) → question_before ts ≡ Some p → IsPlain ts p
question_is [] p e = absurd (none_some e)
question_is (t ∷ ts) p e =
    let h = then_is (is_mark (codes "?") t) (P.value Undefined, ts) p e in
    (mark (codes "?") ∷ [], subst (λ (q : Phrase × List Token). IsValue (mark (codes "?") ∷ []) (assigned_at_out q.0)) h.1 G.a_question, ap (λ u. u ∷ ts) (mark_is (codes "?") t h.0) ∙ ap (λ (q : Phrase × List Token). mark (codes "?") ∷ q.1) h.1)

cell_phrase_is : (ts : List Token) (p : Phrase × List Token) → cell_phrase_before ts ≡ Some p → IsPlain ts p
cell_phrase_is ts p e =
    let m = mapped (λ c. (P.cell c.0, c.1)) (cell_before ts) p e in
    let c = cell_is ts m.0 m.1 in
    (c.0, subst (λ (q : Phrase × List Token). IsValue c.0 (assigned_at_out q.0)) m.2 (G.a_cell c.1), c.2 ∙ ap (λ (q : Phrase × List Token). c.0 ++ q.1) m.2)

plain_is : (ts : List Token) (p : Phrase × List Token) → option_or (number_before ts) (option_or (question_before ts) (cell_phrase_before ts)) ≡ Some p → IsPlain ts p
plain_is ts p e =
    elim (either_is (number_before ts) (option_or (question_before ts) (cell_phrase_before ts)) p e) [
      | inl h ↦ let n = number_is ts p h in (n.0, G.a_number n.1, n.2)
      | inr h ↦ elim (either_is (question_before ts) (cell_phrase_before ts) p h) [ inl k ↦ question_is ts p k | inr k ↦ cell_phrase_is ts p k ]
    ]

value_is : (ts : List Token) (p : List Assigned × List Token) → value_before ts ≡ Some p → IsValueBefore ts p
value_is ts p e =
    elim (either_is (for_some (block (codes "{") (codes "}") ts) (λ b. option_map (λ xs. (xs, b.1)) (given_in b.0))) (option_map (λ x. (assigned_at_out x.0, x.1)) (option_or (number_before ts) (option_or (question_before ts) (cell_phrase_before ts)))) p e) [
      | inl h ↦ block_value_is ts p h
      | inr h ↦ from_plain h
    ]
  where
    from_plain : option_map (λ x. (assigned_at_out x.0, x.1)) (option_or (number_before ts) (option_or (question_before ts) (cell_phrase_before ts))) ≡ Some p → IsValueBefore ts p
    from_plain h =
        let m = mapped (λ x. (assigned_at_out x.0, x.1)) (option_or (number_before ts) (option_or (question_before ts) (cell_phrase_before ts))) p h in
        let q = plain_is ts m.0 m.1 in
        (q.0, subst (λ (r : List Assigned × List Token). IsValue q.0 r.0) m.2 q.1, q.2 ∙ ap (λ (r : List Assigned × List Token). q.0 ++ r.1) m.2)

sets_in_is : (ts : List Token) (s : Option (List Assigned)) → sets_in ts ≡ Some s → s ≡ all_assigned (codes "$") ts
sets_in_is (d ∷ w ∷ a ∷ ts) s e = go (is_mark (codes ":=") a) e
  where
    go : (b : Bool) → cond b (Some (all_assigned (codes "$") (d ∷ w ∷ a ∷ ts))) None ≡ Some s → s ≡ all_assigned (codes "$") (d ∷ w ∷ a ∷ ts)
    go true h = sym (some_same h)
    go false h = absurd (none_some h)
sets_in_is ts s e = absurd (none_some e)

abbrev AreSetsBefore : List Token → List Assigned × List Token → Type 0
AreSetsBefore ts p = (us : List Token) × AreSets us p.0 × (ts ≡ us ++ p.1)

sets_are : (ts : List Token) (p : List Assigned × List Token) → sets_before ts ≡ Some p → AreSetsBefore ts p
sets_are ts p e = go (sets_block ts) refl e
  where
    go : (o : Option (Option (List Assigned) × List Token)) → sets_block ts ≡ o → elim o [ None ↦ Some ([], ts) | Some s ↦ option_map (λ xs. (xs, s.1)) s.0 ] ≡ Some p → AreSetsBefore ts p
    go None k h = ([], subst (λ (q : List Assigned × List Token). AreSets [] q.0) (some_same h) G.AreSets.none, ap (λ (q : List Assigned × List Token). q.1) (some_same h))
    go (Some s) k h =
        let b = on_is (block (codes "{") (codes "}") ts) (λ d. option_map (λ r. (r, d.1)) (sets_in d.0)) s k in
        let r = mapped (λ r. (r, b.0.1)) (sets_in b.0.0) s b.2 in
        let m = mapped (λ xs. (xs, s.1)) s.0 p h in
        let found : all_assigned (codes "$") b.0.0 ≡ Some m.0 = sym (sets_in_is b.0.0 r.0 r.1) ∙ ap (λ (q : Option (List Assigned) × List Token). q.0) r.2 ∙ m.1 in (
          tokens_in_braces b.0.0,
          subst (λ (q : List Assigned × List Token). AreSets (tokens_in_braces b.0.0) q.0) m.2 (G.AreSets.some (all_assigned_is (codes "$") b.0.0 m.0 found)),
          braces_after ts b.0.0 b.0.1 p.1 (block_is (codes "{") (codes "}") ts b.0 b.1) (ap (λ (q : Option (List Assigned) × List Token). q.1) r.2 ∙ ap (λ (q : List Assigned × List Token). q.1) m.2),
        )

delay_is : (ts : List Token) (p : Phrase × List Token) → delay_before ts ≡ Some p → (us : List Token) × IsDelayPhrase us p.0 × (ts ≡ us ++ p.1)
delay_is ts p e =
    elim (either_is (phrase_block ts) (number_before ts) p e) [
      | inl h ↦ let b = phrase_block_is ts p h in (tokens_in_braces b.0, G.delay_phrase b.1, b.2)
      | inr h ↦ let n = number_is ts p h in (n.0, G.delay_number n.1, n.2)
    ]

last_block_is : (ts : List Token) (x : Phrase) → last_block ts ≡ Some x → (us : List Token) × IsPhrase expr us x × (ts ≡ tokens_in_braces us)
last_block_is ts x e =
    let c = on_is (phrase_block ts) (λ p. then_some (is_empty p.1) p.0) x e in
    let t = then_is (is_empty c.0.1) c.0.0 x c.2 in
    let b = phrase_block_is ts c.0 c.1 in
    (b.0, subst (λ y. IsPhrase expr b.0 y) t.1 b.1, b.2 ∙ ap (λ vs. tokens_in_braces b.0 ++ vs) (empty_is c.0.1 t.0) ∙ append-nil (tokens_in_braces b.0))

joined_parts : (ts vs ss ds cs a b c : List Token) → ts ≡ vs ++ a → a ≡ ss ++ b → b ≡ ds ++ c → c ≡ cs → ts ≡ vs ++ ss ++ ds ++ cs
joined_parts ts vs ss ds cs a b c e f g h =
    e ∙ ap (λ us. vs ++ us) (f ∙ ap (λ us. ss ++ us) (g ∙ ap (λ us. ds ++ us) h)) ∙ sym (append_assoc vs ss (ds ++ cs)) ∙ sym (append_assoc (vs ++ ss) ds cs)

pub rules_are_found : (ts : List Token) (r : Written) → written_rule ts ≡ Some r → IsRule ts r
unfolding written_rule
rules_are_found ts r e =
    let v = on_is (value_before ts) (λ v. for_some (sets_before v.1) (λ s. for_some (delay_before s.1) (λ d. option_map (λ c. record { gives = v.0; delay = d.0; condition = c; sets = s.0 }) (last_block d.1)))) r e in
    let s = on_is (sets_before v.0.1) (λ s. for_some (delay_before s.1) (λ d. option_map (λ c. record { gives = v.0.0; delay = d.0; condition = c; sets = s.0 }) (last_block d.1))) r v.2 in
    let d = on_is (delay_before s.0.1) (λ d. option_map (λ c. record { gives = v.0.0; delay = d.0; condition = c; sets = s.0.0 }) (last_block d.1)) r s.2 in
    let c = mapped (λ c. record { gives = v.0.0; delay = d.0.0; condition = c; sets = s.0.0 }) (last_block d.0.1) r d.2 in
    together v.0 s.0 d.0 c.0 (value_is ts v.0 v.1) (sets_are v.0.1 s.0 s.1) (delay_is s.0.1 d.0 d.1) (last_block_is d.0.1 c.0 c.1) c.2
  where
    together : (v : List Assigned × List Token) (s : List Assigned × List Token) (d : Phrase × List Token) (c : Phrase) → IsValueBefore ts v → AreSetsBefore v.1 s → (us : List Token) × IsDelayPhrase us d.0 × (s.1 ≡ us ++ d.1) → (us : List Token) × IsPhrase expr us c × (d.1 ≡ tokens_in_braces us) → record { gives = v.0; delay = d.0; condition = c; sets = s.0 } ≡ r → IsRule ts r
    together v s d c vi si di ci same =
        subst (λ q. IsRule ts q) same
        (subst (λ us. IsRule us (record { gives = v.0; delay = d.0; condition = c; sets = s.0 })) (sym (joined_parts ts vi.0 si.0 di.0 (tokens_in_braces ci.0) v.1 s.1 d.1 vi.2 si.2 di.2 ci.2))
        (G.rule vi.1 si.1 di.1 ci.1))
