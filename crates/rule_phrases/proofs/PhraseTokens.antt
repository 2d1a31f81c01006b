-- The tokens of a phrase: its parentheses, and the tokens outside of them.
use Rattle.std.proofs.Common.{◌≡◌, Bool, false, Option, Some, List, [], ◌∷◌, ◌++◌, refl}
use Rattle.std.specs.Prelude.{codes, ℤ}
use Rattle.std.specs.List.{last_or, AllByRecursion}
use Rattle.quantity.specs.Bytes.{Bytes, is_among}
use Rattle.rule_tree.specs.declared.node.Binary.{Binary}
use Rattle.rule_tree.specs.declared.node.Count.{Count}
use Rattle.rule_tree.specs.declared.function.Function.{Function}
use Rattle.rule_words.specs.Tokens.{Token, word, number, mark, is_mark}
use Rattle.rule_tree.specs.Phrases.{Cell, Phrase, Level, expr, disj, conj, neg, comp, sum, prod, signed, primary, tighter, left_of, operator_marks, counts, functions, looked_up}
use Rattle.rule_words.specs.Grammar.{Joins, IsInt, IsPort, IsNeighbour, IsPhrase, IsList}
use Rattle.rule_words.specs.Grammar as G
use Rattle.rule_phrases.proofs.Nesting.{lookup_all, last_append, is_delimiter, IsPlain, Nested}
use Rattle.rule_phrases.proofs.Nesting as N
use Rattle.rule_phrases.proofs.Outer.{Outer, outer_append, nested_append}
use Rattle.rule_phrases.proofs.Outer as O

-- ---- operators

abbrev pub operator_names : List Bytes
operator_names = codes "imp" ∷ codes "eqv" ∷ codes "or" ∷ codes "xor" ∷ codes "and" ∷ []

pub record IsParen (m : Bytes) (b : Bool) : Type 0 where
  pub opens : is_mark (codes "(") (mark m) ≡ b
  pub closes : is_mark (codes ")") (mark m) ≡ b
  pub delimits : is_delimiter (mark m) ≡ b

-- no operator is a parenthesis
pub joins_plain : (l : Level) (t : Token) (b : Binary) → Joins l t b → IsPlain t
joins_plain l (word w) b j = record { opens = refl; closes = refl; delimits = refl }
joins_plain l (number n) b j = absurd j
joins_plain l (mark m) b j = go l (λ all. lookup_all (λ n. IsParen n false) (operator_marks l) m b all j)
  where
    no : IsParen (codes "=") false
    no = record { opens = refl; closes = refl; delimits = refl }

    as_plain : IsParen m false → IsPlain (mark m)
    as_plain p = record { opens = p.opens; closes = p.closes; delimits = p.delimits }

    go : (l : Level) → (AllByRecursion (λ (p : Bytes × Binary). IsParen p.0 false) (operator_marks l) → IsParen m false) → IsPlain (mark m)
    go expr f = as_plain (f tt)
    go disj f = as_plain (f tt)
    go conj f = as_plain (f tt)
    go neg f = as_plain (f tt)
    go comp f = as_plain (f (no, (record { opens = refl; closes = refl; delimits = refl }, (record { opens = refl; closes = refl; delimits = refl }, (record { opens = refl; closes = refl; delimits = refl }, (record { opens = refl; closes = refl; delimits = refl }, (record { opens = refl; closes = refl; delimits = refl }, tt)))))))
    go sum f = as_plain (f (record { opens = refl; closes = refl; delimits = refl }, (record { opens = refl; closes = refl; delimits = refl }, tt)))
    go prod f = as_plain (f (record { opens = refl; closes = refl; delimits = refl }, (record { opens = refl; closes = refl; delimits = refl }, tt)))
    go signed f = as_plain (f tt)
    go primary f = as_plain (f tt)

word_plain : (w : Bytes) → IsPlain (word w)
word_plain w = record { opens = refl; closes = refl; delimits = refl }

number_plain : (text : Bytes) → IsPlain (number text)
number_plain text = record { opens = refl; closes = refl; delimits = refl }

-- ---- what is asked of a property of tokens outside parentheses

-- C: the levels of the phrases; A: the tokens that may stand before one; Q: what holds of a token behind another
pub record Suits (C : Level → Type 0) (A : Option Token → Type 0) (Q : Option Token → Token → Type 0) : Type 0 where
  pub closer : (l : Level) → C l → C (tighter l)
  pub on_left : (l : Level) → C l → C (left_of l)
  pub joins : (l : Level) (t : Token) (b : Binary) → C l → Joins l t b → (o : Option Token) → Q o t
  pub after_join : (l : Level) (t : Token) (b : Binary) → C l → Joins l t b → A (Some t)
  pub at_not : (o : Option Token) → Q o (word (codes "not"))
  pub after_not : C neg → A (Some (word (codes "not")))
  pub at_plus : (o : Option Token) → A o → Q o (mark (codes "+"))
  pub at_minus : (o : Option Token) → A o → Q o (mark (codes "-"))
  pub after_plus : A (Some (mark (codes "+")))
  pub after_minus : A (Some (mark (codes "-")))
  pub at_word : (o : Option Token) (w : Bytes) → is_among operator_names w ≡ false → Q o (word w)
  pub at_number : (o : Option Token) (text : Bytes) → Q o (number text)
  pub at_question : (o : Option Token) → Q o (mark (codes "?"))
  pub at_open : (o : Option Token) → Q o (mark (codes "("))
  pub at_close : (o : Option Token) → Q o (mark (codes ")"))
  pub at_dollar : (o : Option Token) → Q o (mark (codes "$"))
  pub after_dollar : (w : Bytes) → Q (Some (mark (codes "$"))) (word w)
  pub at_tilde : (o : Option Token) → Q o (mark (codes "~"))
  pub after_tilde : (w : Bytes) → Q (Some (mark (codes "~"))) (word w)

-- ---- cells

mark_plain : (m : Bytes) → IsParen m false → IsPlain (mark m)
mark_plain m p = record { opens = p.opens; closes = p.closes; delimits = p.delimits }

comma_plain : IsPlain (mark (codes ","))
comma_plain = record { opens = refl; closes = refl; delimits = refl }

pub int_nested : (ts : List Token) (i : ℤ) → IsInt ts i → Nested ts
int_nested _ _ (IsInt.bare {text} e) = N.plain (number text) (number_plain text) N.empty
int_nested _ _ (IsInt.plus {text} e) =
    N.plain (mark (codes "+")) (record { opens = refl; closes = refl; delimits = refl }) (N.plain (number text) (number_plain text) N.empty)
int_nested _ _ (IsInt.minus {text} e) =
    N.plain (mark (codes "-")) (record { opens = refl; closes = refl; delimits = refl }) (N.plain (number text) (number_plain text) N.empty)

comma_nested : (ts us : List Token) → Nested ts → Nested us → Nested (ts ++ mark (codes ",") ∷ us)
comma_nested ts us h k = nested_append ts (mark (codes ",") ∷ us) h (N.plain (mark (codes ",")) comma_plain k)

-- the tokens of a phrase
pub record Spread (C : Level → Type 0) (A : Option Token → Type 0) (Q : Option Token → Token → Type 0) (l : Level) (ts : List Token) : Type 0 where
  pub nested : Nested ts
  pub outer : C l → (o : Option Token) → A o → Outer Q o ts

port_nested : (ts : List Token) (w : Bytes) → IsPort ts w → Nested ts
port_nested _ _ IsPort.plain = N.empty
port_nested _ _ (IsPort.named {w}) =
    N.plain (mark (codes "~")) (record { opens = refl; closes = refl; delimits = refl }) (N.plain (word w) (word_plain w) N.empty)

port_outer : (C : Level → Type 0) (A : Option Token → Type 0) (Q : Option Token → Token → Type 0) → Suits C A Q → (o : Option Token) (ts : List Token) (w : Bytes) → IsPort ts w → Outer Q o ts
port_outer C A Q s o _ _ IsPort.plain = O.empty
port_outer C A Q s o _ _ (IsPort.named {w}) =
    O.plain (mark (codes "~")) (record { opens = refl; closes = refl; delimits = refl }) (s.at_tilde o) (O.plain (word w) (word_plain w) (s.after_tilde w) O.empty)

-- what stands in parentheses, and behind them
enclosing_nested : (inner rest : List Token) → Nested inner → Nested rest → Nested (mark (codes "(") ∷ inner ++ mark (codes ")") ∷ rest)
enclosing_nested inner rest h k = N.around h k

enclosing : (C : Level → Type 0) (A : Option Token → Type 0) (Q : Option Token → Token → Type 0) → Suits C A Q → (l : Level) (inner rest : List Token) → Nested inner → Nested rest → ((o : Option Token) → Outer Q o rest) → Spread C A Q l (mark (codes "(") ∷ inner ++ mark (codes ")") ∷ rest)
enclosing C A Q s l inner rest h k out =
    record { nested = N.around h k; outer = λ c o a. O.around (s.at_open o) s.at_close h (out (Some (mark (codes ")")))) }

cell_spread : (C : Level → Type 0) (A : Option Token → Type 0) (Q : Option Token → Token → Type 0) → Suits C A Q → (l : Level) (ts : List Token) (x : Cell) → IsNeighbour ts x → Spread C A Q l ts
cell_spread C A Q s l _ _ (IsNeighbour.flat {row} {column} {port} {i} {j} {p} r d e) =
    let inner : Nested (row ++ mark (codes ",") ∷ column) = comma_nested row column (int_nested row i r) (int_nested column j d) in
    enclosing C A Q s l (row ++ mark (codes ",") ∷ column) port inner (port_nested port p e) (λ o. port_outer C A Q s o port p e)
cell_spread C A Q s l _ _ (IsNeighbour.deep {row} {column} {plane} {port} {i} {j} {k} {p} r d f e) =
    let first : Nested (row ++ mark (codes ",") ∷ column) = comma_nested row column (int_nested row i r) (int_nested column j d) in
    let inner : Nested (row ++ mark (codes ",") ∷ column ++ mark (codes ",") ∷ plane) = comma_nested (row ++ mark (codes ",") ∷ column) plane first (int_nested plane k f) in
    enclosing C A Q s l (row ++ mark (codes ",") ∷ column ++ mark (codes ",") ∷ plane) port inner (port_nested port p e) (λ o. port_outer C A Q s o port p e)

-- ---- phrases

one_token : (C : Level → Type 0) (A : Option Token → Type 0) (Q : Option Token → Token → Type 0) (l : Level) (t : Token) → IsPlain t → ((o : Option Token) → Q o t) → Spread C A Q l (t ∷ [])
one_token C A Q l t p q = record { nested = N.plain t p N.empty; outer = λ c o a. O.plain t p (q o) O.empty }

named_count : (w : Bytes) (c : Count) → looked_up counts w ≡ Some c → is_among operator_names w ≡ false
named_count w c e = lookup_all (λ n. is_among operator_names n ≡ false) counts w c (refl, (refl, (refl, tt))) e

named_function : (w : Bytes) (f : Function) → looked_up functions w ≡ Some f → is_among operator_names w ≡ false
named_function w f e =
    lookup_all (λ n. is_among operator_names n ≡ false) functions w f
    (refl, (refl, (refl, (refl, (refl, (refl, (refl, (refl, (refl, (refl, (refl, (refl, (refl, (refl, (refl, (refl, (refl, tt))))))))))))))))) e

mutual
  pub spread : (C : Level → Type 0) (A : Option Token → Type 0) (Q : Option Token → Token → Type 0) → Suits C A Q → (l : Level) (ts : List Token) (x : Phrase) → IsPhrase l ts x → Spread C A Q l ts
  spread C A Q s _ _ _ (G.tight {l} {ts} {a} p) =
      let h = spread C A Q s (tighter l) ts a p in record { nested = h.nested; outer = λ c o b. h.outer (s.closer l c) o b }
  spread C A Q s _ _ _ (G.joined {l} {ts} {us} t {b} {x} {y} p j q) =
      let h = spread C A Q s (left_of l) ts x p in
      let k = spread C A Q s (tighter l) us y q in
      record {
        nested = nested_append ts (t ∷ us) h.nested (N.plain t (joins_plain l t b j) k.nested);
        outer = λ c o a. outer_append Q o ts (t ∷ us) (h.outer (s.on_left l c) o a)
            (O.plain t (joins_plain l t b j) (s.joins l t b c j (last_or o ts)) (k.outer (s.closer l c) (Some t) (s.after_join l t b c j)));
      }
  spread C A Q s _ _ _ (G.negated {ts} {x} p) =
      let h = spread C A Q s neg ts x p in
      record {
        nested = N.plain (word (codes "not")) (word_plain (codes "not")) h.nested;
        outer = λ c o a. O.plain (word (codes "not")) (word_plain (codes "not")) (s.at_not o) (h.outer c (Some (word (codes "not"))) (s.after_not c));
      }
  spread C A Q s _ _ _ (IsPhrase.plus {ts} {x} p) =
      let h = spread C A Q s signed ts x p in
      let plain_plus : IsPlain (mark (codes "+")) = record { opens = refl; closes = refl; delimits = refl } in
      record {
        nested = N.plain (mark (codes "+")) plain_plus h.nested;
        outer = λ c o a. O.plain (mark (codes "+")) plain_plus (s.at_plus o a) (h.outer c (Some (mark (codes "+"))) s.after_plus);
      }
  spread C A Q s _ _ _ (IsPhrase.minus {ts} {x} p) =
      let h = spread C A Q s signed ts x p in
      let plain_minus : IsPlain (mark (codes "-")) = record { opens = refl; closes = refl; delimits = refl } in
      record {
        nested = N.plain (mark (codes "-")) plain_minus h.nested;
        outer = λ c o a. O.plain (mark (codes "-")) plain_minus (s.at_minus o a) (h.outer c (Some (mark (codes "-"))) s.after_minus);
      }
  spread C A Q s _ _ _ (G.numeral {text} {n} e) = one_token C A Q primary (number text) (number_plain text) (λ o. s.at_number o text)
  spread C A Q s _ _ _ G.unknown = one_token C A Q primary (mark (codes "?")) (record { opens = refl; closes = refl; delimits = refl }) s.at_question
  spread C A Q s _ _ _ IsPhrase.true = one_token C A Q primary (word (codes "t")) (word_plain (codes "t")) (λ o. s.at_word o (codes "t") refl)
  spread C A Q s _ _ _ IsPhrase.false = one_token C A Q primary (word (codes "f")) (word_plain (codes "f")) (λ o. s.at_word o (codes "f") refl)
  spread C A Q s _ _ _ (G.cell {ts} {c} p) = cell_spread C A Q s primary ts c p
  spread C A Q s _ _ _ (G.variable {w}) =
      let plain_dollar : IsPlain (mark (codes "$")) = record { opens = refl; closes = refl; delimits = refl } in
      record {
        nested = N.plain (mark (codes "$")) plain_dollar (N.plain (word w) (word_plain w) N.empty);
        outer = λ c o a. O.plain (mark (codes "$")) plain_dollar (s.at_dollar o) (O.plain (word w) (word_plain w) (s.after_dollar w) O.empty);
      }
  spread C A Q s _ _ _ (G.enclosed {ts} {x} p) = enclosing C A Q s primary ts [] (spread C A Q s expr ts x p).nested N.empty (λ o. O.empty)
  spread C A Q s _ _ _ G.time = one_token C A Q primary (word (codes "time")) (word_plain (codes "time")) (λ o. s.at_word o (codes "time") refl)
  spread C A Q s _ _ _ (G.counted {w} {c} e) = one_token C A Q primary (word w) (word_plain w) (λ o. s.at_word o w (named_count w c e))
  spread C A Q s _ _ _ G.port_value =
      let inner : Nested (word (codes "thisport") ∷ []) = N.plain (word (codes "thisport")) (word_plain (codes "thisport")) N.empty in
      let h = enclosing C A Q s primary (word (codes "thisport") ∷ []) [] inner N.empty (λ o. O.empty) in
      record {
        nested = N.plain (word (codes "portvalue")) (word_plain (codes "portvalue")) h.nested;
        outer = λ c o a. O.plain (word (codes "portvalue")) (word_plain (codes "portvalue")) (s.at_word o (codes "portvalue") refl)
            (O.around (s.at_open (Some (word (codes "portvalue")))) s.at_close inner O.empty);
      }
  spread C A Q s _ _ _ (G.call {w} {f} {ts} {xs} e p n) =
      let inner : Nested ts = list_nested C A Q s ts xs p in
      record {
        nested = N.plain (word w) (word_plain w) (N.around inner N.empty);
        outer = λ c o a. O.plain (word w) (word_plain w) (s.at_word o w (named_function w f e)) (O.around (s.at_open (Some (word w))) s.at_close inner O.empty);
      }

  list_nested : (C : Level → Type 0) (A : Option Token → Type 0) (Q : Option Token → Token → Type 0) → Suits C A Q → (ts : List Token) (xs : List Phrase) → IsList ts xs → Nested ts
  list_nested C A Q s _ _ (IsList.last {ts} {x} p) = (spread C A Q s expr ts x p).nested
  list_nested C A Q s _ _ (IsList.more {ts} {us} {x} {xs} p q) = comma_nested ts us (spread C A Q s expr ts x p).nested (list_nested C A Q s us xs q)
