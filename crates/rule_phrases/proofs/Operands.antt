-- Operands and the operators between them, read from the left.
use Rattle.std.proofs.Common.{◌≡◌, ◌<◌, ◌≤◌, ◌+◌, ℕ, zero, suc, Option, Some, None, List, [], ◌∷◌, length, refl, sym, ap, subst, ◌∙◌, arith}
use Rattle.std.specs.Option.{option_map}
use Rattle.rule_tree.specs.declared.node.Binary.{Binary}
use Rattle.rule_phrases.specs.declared.term.Term.{Term}
use Rattle.rule_phrases.specs.declared.front.Front.{Front}
use Rattle.rule_words.specs.Tokens.{Token}
use Rattle.rule_tree.specs.Phrases as P
use Rattle.rule_tree.specs.Phrases.{Phrase, Level}
use Rattle.rule_tree.specs.Scope.{Names}
use Rattle.rule_words.specs.Reading.{Prefix, operator_in}
use Rattle.rule_words.specs.Descent.{Reader, then_on, joined_operands}
use Rattle.rule_phrases.specs.Between.{operator_before, most_operators, operands_before}
use Rattle.rule_words.specs.Shown.{level_of, tokens_of}
use Rattle.rule_words.specs.declared.level.Level as L
use Rattle.rule_words.specs.declared.level.Level.TheVariants.{Expression, Disjunction, Conjunction, Negation, Comparison, Sum, Product, Signed, Primary}
use Rattle.rule_phrases.specs.Terms.{StandsForPhrase, IsFront}

-- how many operators join operands: a comparison is joined to no other
pub one_operator : (l : L.Level) (n : ℕ) → l ≡ Comparison → 1 ≡ most_operators (level_of l) n
one_operator l n e = let Q : L.Level → Type 0 = λ k. 1 ≡ most_operators (level_of k) n in subst Q (sym e) refl

pub many_operators : (l : L.Level) (n : ℕ) → ((l ≡ Comparison) → ⊥) → n ≡ most_operators (level_of l) n
many_operators Expression n h = refl
many_operators Disjunction n h = refl
many_operators Conjunction n h = refl
many_operators Negation n h = refl
many_operators Comparison n h = absurd (h refl)
many_operators Sum n h = refl
many_operators Product n h = refl
many_operators Signed n h = refl
many_operators Primary n h = refl

-- a term is what was read so far, where so many of at most so many operators were read
pub record Joining (names : Names) (operand : Reader) (l : Level) (most turns : ℕ) (all : Prefix Phrase) (t : Term) (rest : List Token) : Type 0 where
  pub so_far : Phrase
  pub more : ℕ
  pub left : more + turns ≡ most
  pub stands : StandsForPhrase names t so_far
  pub same : all ≡ joined_operands more operand l so_far rest

pub nothing_on : (names : Names) (p : Prefix Phrase) (go : Phrase → List Token → Prefix Phrase) (o : Option Front) → IsFront names p o → o ≡ None → IsFront names (then_on p go) None
nothing_on names None go o h e = tt
nothing_on names (Some p) go None h e = absurd h
nothing_on names (Some p) go (Some f) h e = absurd (cc)

pub joining_begins : (names : Names) (operand : Reader) (l : Level) (ts : List Token) (f : Front) (o : Option Front) (most : ℕ) → IsFront names (operand ts) o → o ≡ Some f → most ≡ most_operators l (length (tokens_of f.rest.now)) → Joining names operand l most 0 (operands_before l operand ts) f.term (tokens_of f.rest.now)
joining_begins names operand l ts f o most h e m =
    go (operand ts) (let Q : Option Front → Type 0 = λ o. IsFront names (operand ts) o in subst Q e h)
  where
    go : (p : Prefix Phrase) → IsFront names p (Some f) → Joining names operand l most 0 (then_on p (λ x rest. joined_operands (most_operators l (length rest)) operand l x rest)) f.term (tokens_of f.rest.now)
    go None i = absurd i
    go (Some p) i = record {
      so_far = p.0;
      more = most_operators l (length (tokens_of f.rest.now));
      left = omega (arith, m);
      stands = i.0;
      same = ap (λ rest. joined_operands (most_operators l (length rest)) operand l p.0 rest) (sym i.1);
    }

joined_more : (k : ℕ) (operand : Reader) (l : Level) (x : Phrase) (ts us : List Token) (b : Binary) → Some (b, us) ≡ operator_before l ts → joined_operands (suc k) operand l x ts ≡ then_on (operand us) (λ y rest. joined_operands k operand l (P.two b x y) rest)
joined_more k operand l x [] us b e = absurd (cc)
joined_more k operand l x (t ∷ ts) us b e = go (operator_in l t) e
  where
    here : Binary × List Token
    here = (b, us)

    go : (o : Option Binary) → Some here ≡ option_map (λ c. (c, ts)) o → elim o [ None ↦ Some (x, t ∷ ts) | Some c ↦ then_on (operand ts) (λ y rest. joined_operands k operand l (P.two c x y) rest) ] ≡ then_on (operand us) (λ y rest. joined_operands k operand l (P.two b x y) rest)
    go None e = absurd (cc)
    go (Some c) e =
        let read : (Binary × List Token) → Prefix Phrase = λ q. then_on (operand q.1) (λ y rest. joined_operands k operand l (P.two q.0 x y) rest) in
        let there : Binary × List Token = (c, ts) in
        let same : here ≡ there = cc in
        ap read (sym same)

-- behind an operator
record Turned (names : Names) (operand : Reader) (l : Level) (most turns : ℕ) (all : Prefix Phrase) (t : Term) (b : Binary) (us : List Token) : Type 0 where
  so_far : Phrase
  more : ℕ
  left : suc more + turns ≡ most
  stands : StandsForPhrase names t so_far
  same : all ≡ then_on (operand us) (λ y rest. joined_operands more operand l (P.two b so_far y) rest)

turned : (names : Names) (operand : Reader) (l : Level) (most turns : ℕ) (all : Prefix Phrase) (t : Term) (ts us : List Token) (b : Binary) → turns < most → Joining names operand l most turns all t ts → Some (b, us) ≡ operator_before l ts → Turned names operand l most turns all t b us
turned names operand l most turns all t ts us b lt h e = go h.more h.left h.same
  where
    go : (k : ℕ) → k + turns ≡ most → all ≡ joined_operands k operand l h.so_far ts → Turned names operand l most turns all t b us
    go zero left same = absurd (omega arith)
    go (suc k) left same =
        record { so_far = h.so_far; more = k; left = left; stands = h.stands; same = same ∙ joined_more k operand l h.so_far ts us b e }

pub joining_goes_on : (names : Names) (operand : Reader) (l : Level) (most turns : ℕ) (all : Prefix Phrase) (t s : Term) (ts us : List Token) (b : Binary) (f : Front) (o : Option Front) → turns < most → Joining names operand l most turns all t ts → Some (b, us) ≡ operator_before l ts → IsFront names (operand us) o → o ≡ Some f → ((x y : Phrase) → StandsForPhrase names t x → StandsForPhrase names f.term y → StandsForPhrase names s (P.two b x y)) → Joining names operand l most (turns + 1) all s (tokens_of f.rest.now)
joining_goes_on names operand l most turns all t s ts us b f o lt h e i is two =
    let w = turned names operand l most turns all t ts us b lt h e in
    go w (operand us) w.same (let Q : Option Front → Type 0 = λ o. IsFront names (operand us) o in subst Q is i)
  where
    go : (w : Turned names operand l most turns all t b us) (p : Prefix Phrase) → all ≡ then_on p (λ y rest. joined_operands w.more operand l (P.two b w.so_far y) rest) → IsFront names p (Some f) → Joining names operand l most (turns + 1) all s (tokens_of f.rest.now)
    go w None same j = absurd j
    go w (Some p) same j = record {
      so_far = P.two b w.so_far p.0;
      more = w.more;
      left = omega (arith, w.left);
      stands = two w.so_far p.0 w.stands j.0;
      same = same ∙ ap (λ rest. joined_operands w.more operand l (P.two b w.so_far p.0) rest) (sym j.1);
    }

pub joining_lost : (names : Names) (operand : Reader) (l : Level) (most turns : ℕ) (all : Prefix Phrase) (t : Term) (ts us : List Token) (b : Binary) (o : Option Front) → turns < most → Joining names operand l most turns all t ts → Some (b, us) ≡ operator_before l ts → IsFront names (operand us) o → o ≡ None → IsFront names all None
joining_lost names operand l most turns all t ts us b o lt h e i is =
    let w = turned names operand l most turns all t ts us b lt h e in
    let Q : Prefix Phrase → Type 0 = λ p. IsFront names p None in
    subst Q (sym w.same) (nothing_on names (operand us) (λ y rest. joined_operands w.more operand l (P.two b w.so_far y) rest) o i is)

joined_ends : (k : ℕ) (operand : Reader) (l : Level) (x : Phrase) (ts : List Token) → None ≡ operator_before l ts → joined_operands k operand l x ts ≡ Some (x, ts)
joined_ends k operand l x [] e = refl
joined_ends zero operand l x (t ∷ ts) e = refl
joined_ends (suc k) operand l x (t ∷ ts) e = go (operator_in l t) e
  where
    behind : Binary → (Binary × List Token)
    behind b = (b, ts)

    stopped : Prefix Phrase
    stopped = Some (x, t ∷ ts)

    go : (o : Option Binary) → None ≡ option_map behind o → elim o [ None ↦ stopped | Some c ↦ then_on (operand ts) (λ y rest. joined_operands k operand l (P.two c x y) rest) ] ≡ stopped
    go None e = refl
    go (Some c) e = absurd (cc)

joined_none_left : (operand : Reader) (l : Level) (x : Phrase) (ts : List Token) → joined_operands zero operand l x ts ≡ Some (x, ts)
joined_none_left operand l x [] = refl
joined_none_left operand l x (t ∷ ts) = refl

ended : (names : Names) (all : Prefix Phrase) (f : Front) (x : Phrase) → StandsForPhrase names f.term x → all ≡ Some (x, tokens_of f.rest.now) → IsFront names all (Some f)
ended names all f x s e = let Q : Prefix Phrase → Type 0 = λ p. IsFront names p (Some f) in subst Q (sym e) (s, refl)

pub joining_ends : (names : Names) (operand : Reader) (l : Level) (most turns : ℕ) (all : Prefix Phrase) (f : Front) → Joining names operand l most turns all f.term (tokens_of f.rest.now) → None ≡ operator_before l (tokens_of f.rest.now) → IsFront names all (Some f)
joining_ends names operand l most turns all f h e =
    ended names all f h.so_far h.stands (h.same ∙ joined_ends h.more operand l h.so_far (tokens_of f.rest.now) e)

pub joining_done : (names : Names) (operand : Reader) (l : Level) (most turns : ℕ) (all : Prefix Phrase) (f : Front) → most ≤ turns → Joining names operand l most turns all f.term (tokens_of f.rest.now) → IsFront names all (Some f)
joining_done names operand l most turns all f le h = go h.more h.left h.same
  where
    go : (k : ℕ) → k + turns ≡ most → all ≡ joined_operands k operand l h.so_far (tokens_of f.rest.now) → IsFront names all (Some f)
    go zero left same = ended names all f h.so_far h.stands (same ∙ joined_none_left operand l h.so_far (tokens_of f.rest.now))
    go (suc k) left same = absurd (omega arith)
