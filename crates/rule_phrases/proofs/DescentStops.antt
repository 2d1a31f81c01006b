-- Tokens at which the reading of a phrase of a level stops.
use Rattle.std.proofs.Common.{◌≡◌, ℕ, zero, suc, ◌<◌, ◌≤◌, false, cond, Some, None, List, [], ◌∷◌, refl, ap, ◌∙◌, arith}
use Rattle.std.specs.Prelude.{codes}
use Rattle.std.specs.List.{AllByRecursion}
use Rattle.quantity.specs.Bytes.{Bytes}
use Rattle.rule_tree.specs.declared.node.Binary.{Binary}
use Rattle.rule_words.specs.Tokens.{Token, word, number, mark, is_mark}
use Rattle.rule_tree.specs.Phrases as P
use Rattle.rule_tree.specs.Phrases.{Phrase, Level, expr, disj, conj, neg, comp, sum, prod, signed, primary, tighter, operator_words, operator_marks, looked_up, out}
use Rattle.rule_words.specs.Grammar.{Joins}
use Rattle.rule_words.specs.Reading.{operator_in, port_in}
use Rattle.rule_words.specs.Descent.{Reader, then_on, joined_operands}
use Rattle.rule_phrases.proofs.Nesting.{lookup_all}
use Rattle.rule_phrases.proofs.Apart.{rank}
use Rattle.rule_phrases.proofs.Cuts.{joins_found}
use Rattle.rule_words.proofs.Sound.{none_some}

-- ---- what goes on with no phrase of a level

-- no operator of the level or of a tighter one, and no port behind a cell
pub record StopsAt (l : Level) (t : Token) : Type 0 where
  pub joins_none : (k : Level) → rank l ≤ rank k → operator_in k t ≡ None
  pub no_tilde : is_mark (codes "~") t ≡ false

abbrev pub Stops : Level → List Token → Type 0
Stops l [] = Unit {0}
Stops l (t ∷ ts) = StopsAt l t

pub stops_closer : (l k : Level) → rank l ≤ rank k → (ws : List Token) → Stops l ws → Stops k ws
stops_closer l k h [] s = tt
stops_closer l k h (t ∷ ws) s = record { joins_none = λ m d. s.joins_none m (omega arith); no_tilde = s.no_tilde }

pub closer : (l : Level) → rank l ≤ rank (tighter l)
closer expr = omega arith
closer disj = omega arith
closer conj = omega arith
closer neg = omega arith
closer comp = omega arith
closer sum = omega arith
closer prod = omega arith
closer signed = omega arith
closer primary = omega arith

pub stops_tighter : (l : Level) (ws : List Token) → Stops l ws → Stops (tighter l) ws
stops_tighter l ws s = stops_closer l (tighter l) (closer l) ws s

-- ---- operators of a looser level

words_apart : (l k : Level) → rank l < rank k → AllByRecursion (λ (p : Bytes × Binary). looked_up (operator_words k) p.0 ≡ None) (operator_words l)
words_apart expr expr h = absurd (omega arith)
words_apart expr k h = (refl, (refl, tt))
words_apart disj expr h = absurd (omega arith)
words_apart disj disj h = absurd (omega arith)
words_apart disj k h = (refl, (refl, tt))
words_apart conj expr h = absurd (omega arith)
words_apart conj disj h = absurd (omega arith)
words_apart conj conj h = absurd (omega arith)
words_apart conj k h = (refl, tt)
words_apart l k h = tt

marks_apart : (l k : Level) → rank l < rank k → AllByRecursion (λ (p : Bytes × Binary). looked_up (operator_marks k) p.0 ≡ None) (operator_marks l)
marks_apart comp sum h = (refl, (refl, (refl, (refl, (refl, (refl, tt))))))
marks_apart comp prod h = (refl, (refl, (refl, (refl, (refl, (refl, tt))))))
marks_apart comp signed h = (refl, (refl, (refl, (refl, (refl, (refl, tt))))))
marks_apart comp primary h = (refl, (refl, (refl, (refl, (refl, (refl, tt))))))
marks_apart comp k h = absurd (omega arith)
marks_apart sum prod h = (refl, (refl, tt))
marks_apart sum signed h = (refl, (refl, tt))
marks_apart sum primary h = (refl, (refl, tt))
marks_apart sum k h = absurd (omega arith)
marks_apart prod signed h = (refl, (refl, tt))
marks_apart prod primary h = (refl, (refl, tt))
marks_apart prod k h = absurd (omega arith)
marks_apart l k h = tt

-- an operator is none of a tighter level
none_tighter : (l k : Level) (t : Token) (b : Binary) → rank l < rank k → Joins l t b → operator_in k t ≡ None
none_tighter l k (word w) b h j = lookup_all (λ n. looked_up (operator_words k) n ≡ None) (operator_words l) w b (words_apart l k h) j
none_tighter l k (number n) b h j = absurd j
none_tighter l k (mark m) b h j = lookup_all (λ n. looked_up (operator_marks k) n ≡ None) (operator_marks l) m b (marks_apart l k h) j

join_no_tilde : (l : Level) (t : Token) (b : Binary) → Joins l t b → is_mark (codes "~") t ≡ false
join_no_tilde l (word w) b j = refl
join_no_tilde l (number n) b j = absurd j
join_no_tilde comp (mark m) b j = lookup_all (λ n. is_mark (codes "~") (mark n) ≡ false) (operator_marks comp) m b (refl, (refl, (refl, (refl, (refl, (refl, tt)))))) j
join_no_tilde sum (mark m) b j = lookup_all (λ n. is_mark (codes "~") (mark n) ≡ false) (operator_marks sum) m b (refl, (refl, tt)) j
join_no_tilde prod (mark m) b j = lookup_all (λ n. is_mark (codes "~") (mark n) ≡ false) (operator_marks prod) m b (refl, (refl, tt)) j
join_no_tilde l (mark m) b j = absurd (none_some j)

pub stops_at_operator : (l k : Level) (t : Token) (b : Binary) → rank l < rank k → Joins l t b → StopsAt k t
stops_at_operator l k t b h j =
    record { joins_none = λ m d. none_tighter l m t b (omega arith) j; no_tilde = join_no_tilde l t b j }

-- ---- what stands behind a phrase in parentheses

close_joins_none : (k : Level) → operator_in k (mark (codes ")")) ≡ None
close_joins_none expr = refl
close_joins_none k = refl

comma_joins_none : (k : Level) → operator_in k (mark (codes ",")) ≡ None
comma_joins_none expr = refl
comma_joins_none k = refl

pub stops_at_close : (l : Level) → StopsAt l (mark (codes ")"))
stops_at_close l = record { joins_none = λ k h. close_joins_none k; no_tilde = refl }

pub stops_at_comma : (l : Level) → StopsAt l (mark (codes ","))
stops_at_comma l = record { joins_none = λ k h. comma_joins_none k; no_tilde = refl }

-- no port begins where a phrase stops
pub no_port : (l : Level) (ws : List Token) → Stops l ws → port_in ws ≡ Some (out, ws)
no_port l [] s = refl
no_port l (word w ∷ ws) s = refl
no_port l (number n ∷ ws) s = refl
no_port l (mark m ∷ []) s = refl
no_port l (mark m ∷ word w ∷ ws) s = ap (λ b. Some (cond b (w, ws) (out, mark m ∷ word w ∷ ws))) s.no_tilde
no_port l (mark m ∷ number n ∷ ws) s = refl
no_port l (mark m ∷ mark k ∷ ws) s = refl

-- ---- the operands of a level

-- where no operator follows, nothing is joined
pub joined_stops : (k : ℕ) (operand : Reader) (l : Level) (x : Phrase) (ws : List Token) → Stops l ws → joined_operands k operand l x ws ≡ Some (x, ws)
joined_stops k operand l x [] s = refl
joined_stops zero operand l x (t ∷ ws) s = refl
joined_stops (suc k) operand l x (t ∷ ws) s =
    ap (λ o. elim o [ None ↦ Some (x, t ∷ ws) | Some b ↦ then_on (operand ws) (λ y rest. joined_operands k operand l (P.two b x y) rest) ]) (s.joins_none l (omega arith))

-- an operator joins what its operand's reader finds
pub joined_goes_on : (k : ℕ) (operand : Reader) (l : Level) (x y : Phrase) (t : Token) (b : Binary) (us ws : List Token) → Joins l t b → operand us ≡ Some (y, ws) → joined_operands (suc k) operand l x (t ∷ us) ≡ joined_operands k operand l (P.two b x y) ws
joined_goes_on k operand l x y t b us ws j e =
    ap (λ o. elim o [ None ↦ Some (x, t ∷ us) | Some b ↦ then_on (operand us) (λ y rest. joined_operands k operand l (P.two b x y) rest) ]) (joins_found l t b j)
    ∙ ap (λ p. then_on p (λ z rest. joined_operands k operand l (P.two b x z) rest)) e
