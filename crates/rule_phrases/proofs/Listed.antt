-- Expressions with commas between, and a function of them.
use Rattle.std.proofs.Common.{◌≡◌, ◌≤◌, ℕ, zero, suc, Bool, true, false, Option, Some, None, List, [], ◌∷◌, ◌++◌, length, refl, sym, ap, subst, ◌∙◌, arith, eq-eqb}
use Rattle.std.proofs.lemmas.Bool.{ne_eqb}
use Rattle.std.specs.Prelude.{codes, if◌then◌else◌, ◌==◌}
use Rattle.std.specs.Option.{option_map}
use Rattle.std.specs.Bool.{then_some}
use Rattle.quantity.specs.Bytes.{Bytes}
use Rattle.rule_phrases.specs.declared.term.Term.{Term}
use Rattle.rule_phrases.specs.declared.front.Front.{Front}
use Rattle.rule_phrases.specs.declared.between.Arguments.{Arguments}
use Rattle.rule_tree.specs.declared.function.Function.{Function}
use Rattle.rule_words.specs.Tokens.{Token, is_mark}
use Rattle.rule_tree.specs.Phrases as P
use Rattle.rule_tree.specs.Phrases.{Phrase, phrases, argument_count}
use Rattle.rule_tree.specs.Scope.{Names}
use Rattle.rule_words.specs.Reading.{Prefix, call_phrase}
use Rattle.rule_words.specs.Descent.{Reader, then_on, prefix_if_closed, comma_list, list_before}
use Rattle.rule_words.specs.AtomParts.{after_mark}
use Rattle.rule_phrases.specs.Between.{AreArguments, called_before}
use Rattle.rule_words.specs.Shown.{tokens_of}
use Rattle.rule_phrases.specs.Terms.{StandsForPhrase, AllStand, IsFront}

-- terms are the phrases that were read so far
pub record Listing (names : Names) (read : Reader) (all : Prefix (List Phrase)) (terms : List Term) (rest : List Token) : Type 0 where
  pub so_far : List Phrase
  pub more : ℕ
  pub enough : length rest ≤ more
  pub stand : AllStand names terms so_far
  pub same : all ≡ comma_list more read so_far rest

pub stand_append : (names : Names) (ts : List Term) (xs : List Phrase) (t : Term) (x : Phrase) → AllStand names ts xs → StandsForPhrase names t x → AllStand names (ts ++ t ∷ []) (xs ++ x ∷ [])
stand_append names [] [] t x h s = (s, tt)
stand_append names [] (y ∷ xs) t x h s = absurd h
stand_append names (u ∷ ts) [] t x h s = absurd h
stand_append names (u ∷ ts) (y ∷ xs) t x h s = (h.0, stand_append names ts xs t x h.1 s)

pub stand_length : (names : Names) (ts : List Term) (xs : List Phrase) → AllStand names ts xs → length ts ≡ length xs
stand_length names [] [] h = refl
stand_length names [] (y ∷ xs) h = absurd h
stand_length names (u ∷ ts) [] h = absurd h
stand_length names (u ∷ ts) (y ∷ xs) h = ap suc (stand_length names ts xs h.1)

pub listing_begins : (names : Names) (read : Reader) (ts : List Token) (f : Front) (o : Option Front) (terms : List Term) → IsFront names (read ts) o → o ≡ Some f → terms ≡ f.term ∷ [] → Listing names read (list_before read ts) terms (tokens_of f.rest.now)
listing_begins names read ts f o terms h e is =
    go (read ts) (let Q : Option Front → Type 0 = λ o. IsFront names (read ts) o in subst Q e h)
  where
    go : (p : Prefix Phrase) → IsFront names p (Some f) → Listing names read (then_on p (λ x rest. comma_list (length rest) read (x ∷ []) rest)) terms (tokens_of f.rest.now)
    go None i = absurd i
    go (Some p) i = record {
      so_far = p.0 ∷ [];
      more = length (tokens_of f.rest.now);
      enough = omega arith;
      stand = let Q : List Term → Type 0 = λ ts. AllStand names ts (p.0 ∷ []) in subst Q (sym is) (i.0, tt);
      same = ap (λ rest. comma_list (length rest) read (p.0 ∷ []) rest) (sym i.1);
    }

pub no_list : (names : Names) (read : Reader) (ts : List Token) (o : Option Front) → IsFront names (read ts) o → o ≡ None → AreArguments names (list_before read ts) None
no_list names read ts o h e = go (read ts) o h e
  where
    go : (p : Prefix Phrase) (o : Option Front) → IsFront names p o → o ≡ None → AreArguments names (then_on p (λ x rest. comma_list (length rest) read (x ∷ []) rest)) None
    go None o h e = tt
    go (Some p) None h e = absurd h
    go (Some p) (Some f) h e = absurd (cc)

listed_more : (k : ℕ) (read : Reader) (xs : List Phrase) (ts us : List Token) → Some us ≡ after_mark (codes ",") ts → comma_list (suc k) read xs ts ≡ then_on (read us) (λ y rest. comma_list k read (xs ++ y ∷ []) rest)
listed_more k read xs [] us e = absurd (cc)
listed_more k read xs (t ∷ ts) us e = go (is_mark (codes ",") t) e
  where
    go : (b : Bool) → Some us ≡ then_some b ts → (if b then then_on (read ts) (λ y rest. comma_list k read (xs ++ y ∷ []) rest) else Some (xs, t ∷ ts)) ≡ then_on (read us) (λ y rest. comma_list k read (xs ++ y ∷ []) rest)
    go true e =
        let same : us ≡ ts = cc in ap (λ vs. then_on (read vs) (λ y rest. comma_list k read (xs ++ y ∷ []) rest)) (sym same)
    go false e = absurd (cc)

behind_shorter : (m : Bytes) (ts us : List Token) → Some us ≡ after_mark m ts → suc (length us) ≡ length ts
behind_shorter m [] us e = absurd (cc)
behind_shorter m (t ∷ ts) us e = go (is_mark m t) e
  where
    go : (b : Bool) → Some us ≡ then_some b ts → suc (length us) ≡ length (t ∷ ts)
    go true e = let same : us ≡ ts = cc in ap (λ vs. suc (length vs)) same
    go false e = absurd (cc)

record Further (names : Names) (read : Reader) (all : Prefix (List Phrase)) (terms : List Term) (us : List Token) : Type 0 where
  so_far : List Phrase
  more : ℕ
  enough : length us ≤ more
  stand : AllStand names terms so_far
  same : all ≡ then_on (read us) (λ y rest. comma_list more read (so_far ++ y ∷ []) rest)

further : (names : Names) (read : Reader) (all : Prefix (List Phrase)) (terms : List Term) (ts us : List Token) → Listing names read all terms ts → Some us ≡ after_mark (codes ",") ts → Further names read all terms us
further names read all terms ts us h e = go h.more h.enough h.same (behind_shorter (codes ",") ts us e)
  where
    go : (k : ℕ) → length ts ≤ k → all ≡ comma_list k read h.so_far ts → suc (length us) ≡ length ts → Further names read all terms us
    go zero enough same n = absurd (omega arith)
    go (suc k) enough same n = record {
      so_far = h.so_far;
      more = k;
      enough = omega arith;
      stand = h.stand;
      same = same ∙ listed_more k read h.so_far ts us e;
    }

pub listing_goes_on : (names : Names) (read : Reader) (all : Prefix (List Phrase)) (terms more : List Term) (ts us : List Token) (f : Front) (o : Option Front) → Listing names read all terms ts → Some us ≡ after_mark (codes ",") ts → IsFront names (read us) o → o ≡ Some f → length (tokens_of f.rest.now) ≤ length us → more ≡ terms ++ f.term ∷ [] → Listing names read all more (tokens_of f.rest.now)
listing_goes_on names read all terms more ts us f o h e i is short same_terms =
    let w = further names read all terms ts us h e in
    go w (read us) w.same (let Q : Option Front → Type 0 = λ o. IsFront names (read us) o in subst Q is i)
  where
    go : (w : Further names read all terms us) (p : Prefix Phrase) → all ≡ then_on p (λ y rest. comma_list w.more read (w.so_far ++ y ∷ []) rest) → IsFront names p (Some f) → Listing names read all more (tokens_of f.rest.now)
    go w None same j = absurd j
    go w (Some p) same j = record {
      so_far = w.so_far ++ p.0 ∷ [];
      more = w.more;
      enough = omega (arith, w.enough);
      stand = let Q : List Term → Type 0 = λ ts. AllStand names ts (w.so_far ++ p.0 ∷ []) in subst Q (sym same_terms) (stand_append names terms w.so_far f.term p.0 w.stand j.0);
      same = same ∙ ap (λ rest. comma_list w.more read (w.so_far ++ p.0 ∷ []) rest) (sym j.1);
    }

pub listing_lost : (names : Names) (read : Reader) (all : Prefix (List Phrase)) (terms : List Term) (ts us : List Token) (o : Option Front) → Listing names read all terms ts → Some us ≡ after_mark (codes ",") ts → IsFront names (read us) o → o ≡ None → AreArguments names all None
listing_lost names read all terms ts us o h e i is =
    let w = further names read all terms ts us h e in
    let Q : Prefix (List Phrase) → Type 0 = λ p. AreArguments names p None in
    subst Q (sym w.same) (go w (read us) o i is)
  where
    go : (w : Further names read all terms us) (p : Prefix Phrase) (o : Option Front) → IsFront names p o → o ≡ None → AreArguments names (then_on p (λ y rest. comma_list w.more read (w.so_far ++ y ∷ []) rest)) None
    go w None o h e = tt
    go w (Some p) None h e = absurd h
    go w (Some p) (Some f) h e = absurd (cc)

listed_ends : (k : ℕ) (read : Reader) (xs : List Phrase) (ts : List Token) → None ≡ after_mark (codes ",") ts → comma_list k read xs ts ≡ Some (xs, ts)
listed_ends k read xs [] e = refl
listed_ends zero read xs (t ∷ ts) e = refl
listed_ends (suc k) read xs (t ∷ ts) e = go (is_mark (codes ",") t) e
  where
    go : (b : Bool) → None ≡ then_some b ts → (if b then then_on (read ts) (λ y rest. comma_list k read (xs ++ y ∷ []) rest) else Some (xs, t ∷ ts)) ≡ Some (xs, t ∷ ts)
    go true e = absurd (cc)
    go false e = refl

pub listing_ends : (names : Names) (read : Reader) (all : Prefix (List Phrase)) (a : Arguments) → Listing names read all a.terms.items (tokens_of a.rest.now) → None ≡ after_mark (codes ",") (tokens_of a.rest.now) → AreArguments names all (Some a)
listing_ends names read all a h e =
    let Q : Prefix (List Phrase) → Type 0 = λ p. AreArguments names p (Some a) in
    subst Q (sym (h.same ∙ listed_ends h.more read h.so_far (tokens_of a.rest.now) e)) (h.stand, refl)

-- ---- calls

closed_behind : {A : Type 0} (x : A) (ts us : List Token) → Some us ≡ after_mark (codes ")") ts → prefix_if_closed x ts ≡ Some (x, us)
closed_behind x [] us e = absurd (cc)
closed_behind {A} x (t ∷ ts) us e = go (is_mark (codes ")") t) e
  where
    with_x : List Token → A × List Token
    with_x us = (x, us)

    go : (b : Bool) → Some us ≡ then_some b ts → then_some b (with_x ts) ≡ Some (with_x us)
    go true e = let same : us ≡ ts = cc in ap (λ vs. Some (with_x vs)) (sym same)
    go false e = absurd (cc)

open_still : {A : Type 0} (x : A) (ts : List Token) → None ≡ after_mark (codes ")") ts → prefix_if_closed x ts ≡ None
open_still x [] e = refl
open_still {A} x (t ∷ ts) e = go (is_mark (codes ")") t) e
  where
    here : A × List Token
    here = (x, ts)

    go : (b : Bool) → None ≡ then_some b ts → then_some b here ≡ None
    go true e = absurd (cc)
    go false e = refl

-- a function of what was read, where the parenthesis isn't closed
pub open_call : (names : Names) (f : Function) (p : Prefix (List Phrase)) (a : Arguments) → AreArguments names p (Some a) → None ≡ after_mark (codes ")") (tokens_of a.rest.now) → IsFront names (called_before f p) None
open_call names f None a h e = absurd h
open_call names f (Some p) a h e =
    let Q : Prefix (List Phrase) → Type 0 = λ q. IsFront names (then_on q (λ xs rest. option_map (λ x. (x, rest)) (call_phrase f (Some xs)))) None in
    subst Q (sym (ap (prefix_if_closed p.0) (sym h.1) ∙ open_still p.0 (tokens_of a.rest.now) e)) tt

call_at : (f : Function) (p : Prefix (List Phrase)) (xs : List Phrase) (rest us : List Token) → p ≡ Some (xs, rest) → Some us ≡ after_mark (codes ")") rest → called_before f p ≡ option_map (λ x. (x, us)) (then_some (length xs == argument_count f) (P.call f (phrases xs)))
call_at f p xs rest us e c =
    ap (called_before f) e ∙ ap (λ q. then_on q (λ xs rest. option_map (λ x. (x, rest)) (call_phrase f (Some xs)))) (closed_behind xs rest us c)

pub miscounted_call : (names : Names) (f : Function) (p : Prefix (List Phrase)) (a : Arguments) (us : List Token) → AreArguments names p (Some a) → Some us ≡ after_mark (codes ")") (tokens_of a.rest.now) → (length a.terms.items ≡ argument_count f → ⊥) → IsFront names (called_before f p) None
miscounted_call names f None a us h e n = absurd h
miscounted_call names f (Some p) a us h e n =
    let Q : Prefix Phrase → Type 0 = λ q. IsFront names q None in
    let differ : (length p.0 == argument_count f) ≡ false = ne_eqb (length p.0) (argument_count f) (λ m. n (stand_length names a.terms.items p.0 h.0 ∙ m)) in
    subst Q (sym (call_at f (Some p) p.0 p.1 us refl (e ∙ ap (after_mark (codes ")")) h.1) ∙ ap (λ b. option_map (λ x. (x, us)) (then_some b (P.call f (phrases p.0)))) differ)) tt

pub whole_call : (names : Names) (f : Function) (p : Prefix (List Phrase)) (a : Arguments) (g : Front) → AreArguments names p (Some a) → Some (tokens_of g.rest.now) ≡ after_mark (codes ")") (tokens_of a.rest.now) → length a.terms.items ≡ argument_count f → ((xs : List Phrase) → AllStand names a.terms.items xs → StandsForPhrase names g.term (P.call f (phrases xs))) → IsFront names (called_before f p) (Some g)
whole_call names f None a g h e n c = absurd h
whole_call names f (Some p) a g h e n c =
    let Q : Prefix Phrase → Type 0 = λ q. IsFront names q (Some g) in
    let us = tokens_of g.rest.now in
    let same : (length p.0 == argument_count f) ≡ true = eq-eqb (length p.0) (argument_count f) (sym (stand_length names a.terms.items p.0 h.0) ∙ n) in
    subst Q (sym (call_at f (Some p) p.0 p.1 us refl (e ∙ ap (after_mark (codes ")")) h.1) ∙ ap (λ b. option_map (λ x. (x, us)) (then_some b (P.call f (phrases p.0)))) same)) (c p.0 h.0, refl)

pub arguments_at : (names : Names) (p : Prefix (List Phrase)) (o : Option Arguments) (a : Arguments) → AreArguments names p o → o ≡ Some a → AreArguments names p (Some a)
arguments_at names p o a h e = let Q : Option Arguments → Type 0 = λ o. AreArguments names p o in subst Q e h
