-- An operand behind signs.
use Rattle.std.proofs.Common.{◌≡◌, Option, Some, None, List, [], ◌∷◌, ◌++◌, refl, sym, ap, subst, ◌∙◌}
use Rattle.rule_tree.specs.declared.node.Unary.{Unary}
use Rattle.rule_phrases.specs.declared.term.Term.{Term}
use Rattle.rule_phrases.specs.declared.front.Front.{Front}
use Rattle.rule_words.specs.Tokens.{Token}
use Rattle.rule_tree.specs.Phrases as P
use Rattle.rule_tree.specs.Phrases.{Phrase}
use Rattle.rule_tree.specs.Scope.{Names}
use Rattle.rule_words.specs.Reading.{Prefix}
use Rattle.rule_words.specs.Descent.{Reader, prefix_map, signed_operand}
use Rattle.rule_phrases.specs.Between.{signs_before, behind_signs, with_signs}
use Rattle.rule_phrases.specs.Terms.{StandsForPhrase, IsFront}
use Rattle.rule_words.specs.Shown.{tokens_of}

-- a term is a phrase but for these signs before it
pub record StandsBehind (names : Names) (t : Term) (us : List Unary) (whole : Phrase) : Type 0 where
  pub operand : Phrase
  pub stands : StandsForPhrase names t operand
  pub same : with_signs us operand ≡ whole

pub with_signs_append : (us : List Unary) (u : Unary) (x : Phrase) → with_signs (us ++ u ∷ []) x ≡ with_signs us (P.one u x)
with_signs_append [] u x = refl
with_signs_append (v ∷ us) u x = ap (P.one v) (with_signs_append us u x)

pub one_sign_less : (names : Names) (t s : Term) (vs us : List Unary) (u : Unary) (whole : Phrase) → StandsBehind names t vs whole → vs ≡ us ++ u ∷ [] → ((x : Phrase) → StandsForPhrase names t x → StandsForPhrase names s (P.one u x)) → StandsBehind names s us whole
one_sign_less names t s vs us u whole h e more = record {
  operand = P.one u h.operand;
  stands = more h.operand h.stands;
  same = sym (with_signs_append us u h.operand) ∙ ap (λ ws. with_signs ws h.operand) (sym e) ∙ h.same;
}

mapped_twice : {A B C : Type 0} (f : B → C) (g : A → B) (p : Prefix A) → prefix_map f (prefix_map g p) ≡ prefix_map (λ x. f (g x)) p
mapped_twice f g None = refl
mapped_twice f g (Some p) = refl

mapped_same : {A : Type 0} (p : Prefix A) → prefix_map (λ x. x) p ≡ p
mapped_same None = refl
mapped_same (Some p) = refl

-- what stands behind signs is read at once
pub prefixed_is : (sign : Token → Option Unary) (operand : Reader) (ts : List Token) → signed_operand sign operand ts ≡ prefix_map (with_signs (signs_before sign ts)) (operand (behind_signs sign ts))
prefixed_is sign operand [] = sym (mapped_same (operand []))
prefixed_is sign operand (t ∷ ts) = go (sign t) (prefixed_is sign operand ts)
  where
    go : (o : Option Unary) → signed_operand sign operand ts ≡ prefix_map (with_signs (signs_before sign ts)) (operand (behind_signs sign ts)) → elim o [ None ↦ operand (t ∷ ts) | Some u ↦ prefix_map (P.one u) (signed_operand sign operand ts) ] ≡ prefix_map (with_signs (elim o [ None ↦ [] | Some u ↦ u ∷ signs_before sign ts ])) (operand (elim o [ None ↦ t ∷ ts | Some u ↦ behind_signs sign ts ]))
    go None h = sym (mapped_same (operand (t ∷ ts)))
    go (Some u) h = ap (prefix_map (P.one u)) h ∙ mapped_twice (P.one u) (with_signs (signs_before sign ts)) (operand (behind_signs sign ts))

pub nothing_behind_signs : (names : Names) (sign : Token → Option Unary) (operand : Reader) (ts us : List Token) (o : Option Front) → us ≡ behind_signs sign ts → IsFront names (operand us) o → o ≡ None → IsFront names (signed_operand sign operand ts) None
nothing_behind_signs names sign operand ts us o e h is =
    let Q : Prefix Phrase → Type 0 = λ p. IsFront names p None in
    subst Q (ap (λ vs. prefix_map (with_signs (signs_before sign ts)) (operand vs)) e ∙ sym (prefixed_is sign operand ts)) (go (operand us) o h is)
  where
    go : (p : Prefix Phrase) (o : Option Front) → IsFront names p o → o ≡ None → IsFront names (prefix_map (with_signs (signs_before sign ts)) p) None
    go None o h e = tt
    go (Some p) None h e = absurd h
    go (Some p) (Some f) h e = absurd (cc)

pub operand_behind_signs : (names : Names) (sign : Token → Option Unary) (operand : Reader) (ts us : List Token) (signs : List Unary) (o : Option Front) (f g : Front) → signs ≡ signs_before sign ts → us ≡ behind_signs sign ts → IsFront names (operand us) o → o ≡ Some f → ((x : Phrase) → StandsForPhrase names f.term x → StandsForPhrase names g.term (with_signs signs x)) → tokens_of g.rest.now ≡ tokens_of f.rest.now → IsFront names (signed_operand sign operand ts) (Some g)
operand_behind_signs names sign operand ts us signs o f g s e h is one same =
    let Q : Prefix Phrase → Type 0 = λ p. IsFront names p (Some g) in
    let R : Option Front → Type 0 = λ o. IsFront names (operand us) o in
    subst Q (ap (λ ws. prefix_map (with_signs ws) (operand us)) s ∙ ap (λ vs. prefix_map (with_signs (signs_before sign ts)) (operand vs)) e ∙ sym (prefixed_is sign operand ts)) (go (operand us) (subst R is h))
  where
    go : (p : Prefix Phrase) → IsFront names p (Some f) → IsFront names (prefix_map (with_signs signs) p) (Some g)
    go None i = absurd i
    go (Some p) i = (one p.0 i.0, same ∙ i.1)
