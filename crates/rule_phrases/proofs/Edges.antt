-- The first and the last token of a phrase.
use Rattle.std.proofs.Common.{◌≡◌, ◌≤◌, true, false, Option, Some, List, [], ◌∷◌, ◌++◌, refl, ap, ◌∙◌, arith}
use Rattle.std.specs.Prelude.{codes}
use Rattle.std.specs.List.{last_or}
use Rattle.std.specs.Str.{bytes_eq}
use Rattle.quantity.specs.Bytes.{Bytes}
use Rattle.rule_tree.specs.declared.node.Count.{Count}
use Rattle.rule_tree.specs.declared.function.Function.{Function}
use Rattle.rule_words.specs.Tokens.{Token, word, number, mark, is_mark, is_word}
use Rattle.rule_tree.specs.Phrases.{Cell, Phrase, Level, expr, disj, conj, neg, comp, sum, prod, signed, primary, tighter, left_of, counts, functions, looked_up}
use Rattle.rule_words.specs.Grammar.{IsInt, IsPort, IsNeighbour, IsPhrase}
use Rattle.rule_words.specs.Grammar as G
use Rattle.rule_words.specs.Reading.{ends_operand}
use Rattle.rule_phrases.proofs.Nesting.{lookup_all, last_append}
use Rattle.rule_phrases.proofs.Apart.{rank}

-- ---- the first

pub record Starts (l : Level) (ts : List Token) : Type 0 where
  pub first : Token
  pub rest : List Token
  pub are : ts ≡ first ∷ rest
  pub no_tilde : is_mark (codes "~") first ≡ false
  pub no_not : 4 ≤ rank l → is_word (codes "not") first ≡ false
  pub no_plus : 8 ≤ rank l → is_mark (codes "+") first ≡ false
  pub no_minus : 8 ≤ rank l → is_mark (codes "-") first ≡ false

closer_not : (l : Level) → 4 ≤ rank l → 4 ≤ rank (tighter l)
closer_not expr h = absurd (omega arith)
closer_not disj h = absurd (omega arith)
closer_not conj h = absurd (omega arith)
closer_not neg h = absurd (omega arith)
closer_not comp h = omega arith
closer_not sum h = omega arith
closer_not prod h = omega arith
closer_not signed h = omega arith
closer_not primary h = omega arith

closer_sign : (l : Level) → 8 ≤ rank l → 8 ≤ rank (tighter l)
closer_sign expr h = absurd (omega arith)
closer_sign disj h = absurd (omega arith)
closer_sign conj h = absurd (omega arith)
closer_sign neg h = absurd (omega arith)
closer_sign comp h = absurd (omega arith)
closer_sign sum h = absurd (omega arith)
closer_sign prod h = absurd (omega arith)
closer_sign signed h = absurd (omega arith)
closer_sign primary h = omega arith

left_not : (l : Level) → 4 ≤ rank l → 4 ≤ rank (left_of l)
left_not expr h = absurd (omega arith)
left_not disj h = absurd (omega arith)
left_not conj h = absurd (omega arith)
left_not neg h = absurd (omega arith)
left_not comp h = omega arith
left_not sum h = omega arith
left_not prod h = omega arith
left_not signed h = omega arith
left_not primary h = omega arith

left_sign : (l : Level) → 8 ≤ rank l → 8 ≤ rank (left_of l)
left_sign expr h = absurd (omega arith)
left_sign disj h = absurd (omega arith)
left_sign conj h = absurd (omega arith)
left_sign neg h = absurd (omega arith)
left_sign comp h = absurd (omega arith)
left_sign sum h = absurd (omega arith)
left_sign prod h = absurd (omega arith)
left_sign signed h = absurd (omega arith)
left_sign primary h = omega arith

starts_open : (l : Level) (rest : List Token) → Starts l (mark (codes "(") ∷ rest)
starts_open l rest =
    record { first = mark (codes "("); rest = rest; are = refl; no_tilde = refl; no_not = λ h. refl; no_plus = λ h. refl; no_minus = λ h. refl }

starts_word : (l : Level) (w : Bytes) (rest : List Token) → bytes_eq w (codes "not") ≡ false → Starts l (word w ∷ rest)
starts_word l w rest e =
    record { first = word w; rest = rest; are = refl; no_tilde = refl; no_not = λ h. e; no_plus = λ h. refl; no_minus = λ h. refl }

not_count : (w : Bytes) (c : Count) → looked_up counts w ≡ Some c → bytes_eq w (codes "not") ≡ false
not_count w c e = lookup_all (λ n. bytes_eq n (codes "not") ≡ false) counts w c (refl, (refl, (refl, tt))) e

not_function : (w : Bytes) (f : Function) → looked_up functions w ≡ Some f → bytes_eq w (codes "not") ≡ false
not_function w f e =
    lookup_all (λ n. bytes_eq n (codes "not") ≡ false) functions w f
    (refl, (refl, (refl, (refl, (refl, (refl, (refl, (refl, (refl, (refl, (refl, (refl, (refl, (refl, (refl, (refl, (refl, tt))))))))))))))))) e

cell_starts : (l : Level) (ts : List Token) (c : Cell) → IsNeighbour ts c → Starts l ts
cell_starts l _ _ (IsNeighbour.flat {row} {column} {port} {i} {j} {p} r d e) = starts_open l (row ++ mark (codes ",") ∷ column ++ mark (codes ")") ∷ port)
cell_starts l _ _ (IsNeighbour.deep {row} {column} {plane} {port} {i} {j} {k} {p} r d f e) =
    starts_open l (row ++ mark (codes ",") ∷ column ++ mark (codes ",") ∷ plane ++ mark (codes ")") ∷ port)

pub starts : (l : Level) (ts : List Token) (x : Phrase) → IsPhrase l ts x → Starts l ts
starts _ _ _ (G.tight {l} {ts} {a} p) =
    let h = starts (tighter l) ts a p in
    record {
      first = h.first;
      rest = h.rest;
      are = h.are;
      no_tilde = h.no_tilde;
      no_not = λ k. h.no_not (closer_not l k);
      no_plus = λ k. h.no_plus (closer_sign l k);
      no_minus = λ k. h.no_minus (closer_sign l k);
    }
starts _ _ _ (G.joined {l} {ts} {us} t {b} {x} {y} p j q) =
    let h = starts (left_of l) ts x p in
    record {
      first = h.first;
      rest = h.rest ++ t ∷ us;
      are = ap (λ vs. vs ++ t ∷ us) h.are;
      no_tilde = h.no_tilde;
      no_not = λ k. h.no_not (left_not l k);
      no_plus = λ k. h.no_plus (left_sign l k);
      no_minus = λ k. h.no_minus (left_sign l k);
    }
starts _ _ _ (G.negated {ts} {x} p) =
    record {
      first = word (codes "not");
      rest = ts;
      are = refl;
      no_tilde = refl;
      no_not = λ h. absurd (omega arith);
      no_plus = λ h. absurd (omega arith);
      no_minus = λ h. absurd (omega arith);
    }
starts _ _ _ (IsPhrase.plus {ts} {x} p) =
    record { first = mark (codes "+"); rest = ts; are = refl; no_tilde = refl; no_not = λ h. refl; no_plus = λ h. absurd (omega arith); no_minus = λ h. refl }
starts _ _ _ (IsPhrase.minus {ts} {x} p) =
    record { first = mark (codes "-"); rest = ts; are = refl; no_tilde = refl; no_not = λ h. refl; no_plus = λ h. refl; no_minus = λ h. absurd (omega arith) }
starts _ _ _ (G.numeral {text} {n} e) =
    record { first = number text; rest = []; are = refl; no_tilde = refl; no_not = λ h. refl; no_plus = λ h. refl; no_minus = λ h. refl }
starts _ _ _ G.unknown =
    record { first = mark (codes "?"); rest = []; are = refl; no_tilde = refl; no_not = λ h. refl; no_plus = λ h. refl; no_minus = λ h. refl }
starts _ _ _ IsPhrase.true = starts_word primary (codes "t") [] refl
starts _ _ _ IsPhrase.false = starts_word primary (codes "f") [] refl
starts _ _ _ (G.cell {ts} {c} p) = cell_starts primary ts c p
starts _ _ _ (G.variable {w}) =
    record { first = mark (codes "$"); rest = word w ∷ []; are = refl; no_tilde = refl; no_not = λ h. refl; no_plus = λ h. refl; no_minus = λ h. refl }
starts _ _ _ (G.enclosed {ts} {x} p) = starts_open primary (ts ++ mark (codes ")") ∷ [])
starts _ _ _ G.time = starts_word primary (codes "time") [] refl
starts _ _ _ (G.counted {w} {c} e) = starts_word primary w [] (not_count w c e)
starts _ _ _ G.port_value = starts_word primary (codes "portvalue") (mark (codes "(") ∷ word (codes "thisport") ∷ mark (codes ")") ∷ []) refl
starts _ _ _ (G.call {w} {f} {ts} {xs} e p n) = starts_word primary w (mark (codes "(") ∷ ts ++ mark (codes ")") ∷ []) (not_function w f e)

-- ---- the last

port_ends : (ts : List Token) (w : Bytes) → IsPort ts w → ends_operand (last_or (Some (mark (codes ")"))) ts) ≡ true
port_ends _ _ IsPort.plain = refl
port_ends _ _ (IsPort.named {w}) = refl

closed_ends : (o : Option Token) (inner ts : List Token) (w : Bytes) → IsPort ts w → ends_operand (last_or o (mark (codes "(") ∷ inner ++ mark (codes ")") ∷ ts)) ≡ true
closed_ends o inner ts w p = ap ends_operand (last_append (Some (mark (codes "("))) inner ts (mark (codes ")"))) ∙ port_ends ts w p

cell_ends : (o : Option Token) (ts : List Token) (c : Cell) → IsNeighbour ts c → ends_operand (last_or o ts) ≡ true
cell_ends o _ _ (IsNeighbour.flat {row} {column} {port} {i} {j} {p} r d e) = closed_ends o (row ++ mark (codes ",") ∷ column) port p e
cell_ends o _ _ (IsNeighbour.deep {row} {column} {plane} {port} {i} {j} {k} {p} r d f e) = closed_ends o (row ++ mark (codes ",") ∷ column ++ mark (codes ",") ∷ plane) port p e

pub phrase_ends : (l : Level) (ts : List Token) (x : Phrase) → IsPhrase l ts x → (o : Option Token) → ends_operand (last_or o ts) ≡ true
phrase_ends _ _ _ (G.tight {l} {ts} {a} p) o = phrase_ends (tighter l) ts a p o
phrase_ends _ _ _ (G.joined {l} {ts} {us} t {b} {x} {y} p j q) o = ap ends_operand (last_append o ts us t) ∙ phrase_ends (tighter l) us y q (Some t)
phrase_ends _ _ _ (G.negated {ts} {x} p) o = phrase_ends neg ts x p (Some (word (codes "not")))
phrase_ends _ _ _ (IsPhrase.plus {ts} {x} p) o = phrase_ends signed ts x p (Some (mark (codes "+")))
phrase_ends _ _ _ (IsPhrase.minus {ts} {x} p) o = phrase_ends signed ts x p (Some (mark (codes "-")))
phrase_ends _ _ _ (G.numeral {text} {n} e) o = refl
phrase_ends _ _ _ G.unknown o = refl
phrase_ends _ _ _ IsPhrase.true o = refl
phrase_ends _ _ _ IsPhrase.false o = refl
phrase_ends _ _ _ (G.cell {ts} {c} p) o = cell_ends o ts c p
phrase_ends _ _ _ (G.variable {w}) o = refl
phrase_ends _ _ _ (G.enclosed {ts} {x} p) o = closed_ends o ts [] (codes "out") IsPort.plain
phrase_ends _ _ _ G.time o = refl
phrase_ends _ _ _ (G.counted {w} {c} e) o = refl
phrase_ends _ _ _ G.port_value o = refl
phrase_ends _ _ _ (G.call {w} {f} {ts} {xs} e p n) o = closed_ends (Some (word w)) ts [] (codes "out") IsPort.plain
