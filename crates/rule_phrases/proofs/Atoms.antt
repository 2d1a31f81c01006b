-- Primaries are read from the tokens that they are.
use Rattle.std.proofs.Common.{◌≡◌, Bool, true, false, Option, Some, None, List, [], ◌∷◌, ◌++◌, refl, sym, ap, subst, ◌∙◌, append-nil}
use Rattle.std.specs.Prelude.{codes, ℤ, ◌&&◌}
use Rattle.std.specs.Option.{option_map, option_or, option_and_then}
use Rattle.std.specs.Bool.{then_some}
use Rattle.std.specs.Str.{bytes_eq}
use Rattle.quantity.specs.Bytes.{Bytes, is_empty}
use Rattle.rule_tree.specs.declared.node.Count.{Count}
use Rattle.rule_tree.specs.declared.function.Function.{Function}
use Rattle.rule_words.specs.Tokens.{Token, word, number, mark, is_mark}
use Rattle.rule_tree.specs.Phrases as P
use Rattle.rule_tree.specs.Phrases.{Cell, Phrase, expr, out, counts, functions, looked_up}
use Rattle.rule_words.specs.Grammar.{IsInt, IsNeighbour, IsPhrase}
use Rattle.rule_words.specs.Reading.{is_closed, block_begins, cell_before, whole_cell, constants, is_port_value, atom, without_last, closes, without_last_close, enclosed_tokens}
use Rattle.rule_phrases.proofs.Nesting.{lookup_all, last_append, CutOf, in_first, in_second, cut_of, nested_closed}
use Rattle.rule_phrases.proofs.Outer.{outer_at}
use Rattle.rule_phrases.proofs.PhraseTokens.{int_nested}
use Rattle.rule_phrases.proofs.Apart.{NoComma, no_comma}
use Rattle.rule_phrases.proofs.Edges.{Starts, starts}
use Rattle.rule_words.proofs.Blocks.{cell_found, HasComma, cell_has_comma}
use Rattle.rule_words.proofs.Sound.{false_true, cell_is}

-- ---- cells

-- tokens in parentheses, of which there are two at least, are no shorter atom
long_atom : (t u : Token) (us : List Token) → atom (mark (codes "(") ∷ t ∷ u ∷ us) ≡ whole_cell (cell_before (mark (codes "(") ∷ t ∷ u ∷ us))
long_atom (word w) u us = refl
long_atom (number n) u us = refl
long_atom (mark m) u us = refl

cell_atom_is : (ts : List Token) (c : Cell) → IsNeighbour ts c → atom ts ≡ whole_cell (cell_before ts)
cell_atom_is _ _ (IsNeighbour.flat {row} {column} {port} {i} {j} {p} (IsInt.bare {text} e) d h) = long_atom (number text) (mark (codes ",")) (column ++ mark (codes ")") ∷ port)
cell_atom_is _ _ (IsNeighbour.flat {row} {column} {port} {i} {j} {p} (IsInt.plus {text} e) d h) = long_atom (mark (codes "+")) (number text) (mark (codes ",") ∷ column ++ mark (codes ")") ∷ port)
cell_atom_is _ _ (IsNeighbour.flat {row} {column} {port} {i} {j} {p} (IsInt.minus {text} e) d h) = long_atom (mark (codes "-")) (number text) (mark (codes ",") ∷ column ++ mark (codes ")") ∷ port)
cell_atom_is _ _ (IsNeighbour.deep {row} {column} {plane} {port} {i} {j} {k} {p} (IsInt.bare {text} e) d f h) = long_atom (number text) (mark (codes ",")) (column ++ mark (codes ",") ∷ plane ++ mark (codes ")") ∷ port)
cell_atom_is _ _ (IsNeighbour.deep {row} {column} {plane} {port} {i} {j} {k} {p} (IsInt.plus {text} e) d f h) = long_atom (mark (codes "+")) (number text) (mark (codes ",") ∷ column ++ mark (codes ",") ∷ plane ++ mark (codes ")") ∷ port)
cell_atom_is _ _ (IsNeighbour.deep {row} {column} {plane} {port} {i} {j} {k} {p} (IsInt.minus {text} e) d f h) = long_atom (mark (codes "-")) (number text) (mark (codes ",") ∷ column ++ mark (codes ",") ∷ plane ++ mark (codes ")") ∷ port)

pub cell_atom : (ts : List Token) (c : Cell) → IsNeighbour ts c → atom ts ≡ Some (P.cell c)
cell_atom ts c h =
    cell_atom_is ts c h ∙ ap (λ us. whole_cell (cell_before us)) (sym (append-nil ts)) ∙ ap whole_cell (cell_found ts c h [] refl)

-- ---- words

pub count_atom : (w : Bytes) (c : Count) → looked_up counts w ≡ Some c → atom (word w ∷ []) ≡ Some (P.counted c)
count_atom w c e =
    ap (λ o. option_or o (option_map P.counted (looked_up counts w))) (lookup_all (λ n. looked_up constants n ≡ None) counts w c (refl, (refl, (refl, tt))) e)
    ∙ ap (option_map P.counted) e

no_port_value : (w : Bytes) (f : Function) → looked_up functions w ≡ Some f → bytes_eq w (codes "portvalue") ≡ false
no_port_value w f e =
    lookup_all (λ n. bytes_eq n (codes "portvalue") ≡ false) functions w f
    (refl, (refl, (refl, (refl, (refl, (refl, (refl, (refl, (refl, (refl, (refl, (refl, (refl, (refl, (refl, (refl, (refl, tt))))))))))))))))) e

-- a call is no atom
pub call_atom : (w : Bytes) (f : Function) (t : Token) (us : List Token) → looked_up functions w ≡ Some f → atom (word w ∷ mark (codes "(") ∷ t ∷ us) ≡ None
call_atom w f t us e = go t us
  where
    is_none : (ts : List Token) → is_port_value (word w ∷ mark (codes "(") ∷ ts) ≡ false → option_or (then_some (is_port_value (word w ∷ mark (codes "(") ∷ ts)) P.port_value) None ≡ None
    is_none ts h = ap (λ b. option_or (then_some b P.port_value) None) h

    go : (t : Token) (us : List Token) → atom (word w ∷ mark (codes "(") ∷ t ∷ us) ≡ None
    go (number n) us = refl
    go (mark m) us = refl
    go (word v) [] = refl
    go (word v) (b ∷ []) = is_none (word v ∷ b ∷ []) (ap (λ c. c && is_mark (codes "(") (mark (codes "(")) && bytes_eq v (codes "thisport") && is_mark (codes ")") b) (no_port_value w f e))
    go (word v) (b ∷ c ∷ vs) = refl

-- ---- parentheses

-- a phrase has no comma outside parentheses
no_comma_at : (ts : List Token) (x : Phrase) → IsPhrase expr ts x → (row c : List Token) (i : ℤ) → IsInt row i → ts ≡ row ++ mark (codes ",") ∷ c → ⊥
no_comma_at ts x p row c i r e =
    let closed : is_closed 0 row ≡ true = sym (ap (is_closed 0) (append-nil row)) ∙ nested_closed row (int_nested row i r) 0 [] in
    let wrong : true ≡ false = outer_at NoComma None ts ((no_comma expr ts x p).outer tt None tt) row (mark (codes ",")) c e closed in
    cc

abbrev tail : List Token → List Token
tail [] = []
tail (t ∷ ts) = ts

no_cell : (ts : List Token) (x : Phrase) → IsPhrase expr ts x → (c : Cell) → IsNeighbour (mark (codes "(") ∷ ts ++ mark (codes ")") ∷ []) c → ⊥
no_cell ts x p c h = go (cell_has_comma (mark (codes "(") ∷ ts ++ mark (codes ")") ∷ []) c h)
  where
    first : (d row rest : List Token) (i : ℤ) → IsInt row i → ts ≡ row ++ d → mark (codes ",") ∷ rest ≡ d ++ mark (codes ")") ∷ [] → ⊥
    first [] row rest i r e k = false_true (sym (ap (block_begins (codes ",")) k))
    first (u ∷ d) row rest i r e k =
        let same : u ≡ mark (codes ",") = cc in
        no_comma_at ts x p row d i r (e ∙ ap (λ v. row ++ v ∷ d) same)

    second : (b row rest : List Token) → mark (codes ")") ∷ [] ≡ b ++ mark (codes ",") ∷ rest → ⊥
    second [] row rest k = false_true (ap (block_begins (codes ",")) k)
    second (u ∷ []) row rest k = false_true (ap (λ us. is_empty (tail us)) (sym k))
    second (u ∷ v ∷ b) row rest k = false_true (ap (λ us. is_empty (tail us)) (sym k))

    either : (m : HasComma (mark (codes "(") ∷ ts ++ mark (codes ")") ∷ [])) → CutOf ts (mark (codes ")") ∷ []) m.row (mark (codes ",") ∷ m.rest) → ⊥
    either m (in_first d e k) = first d m.row m.rest m.number m.is_number e k
    either m (in_second b e k) = second b m.row m.rest k

    go : HasComma (mark (codes "(") ∷ ts ++ mark (codes ")") ∷ []) → ⊥
    go m =
        let same : mark (codes "(") ∷ (ts ++ mark (codes ")") ∷ []) ≡ mark (codes "(") ∷ (m.row ++ mark (codes ",") ∷ m.rest) = m.are in
        let rest : ts ++ mark (codes ")") ∷ [] ≡ m.row ++ mark (codes ",") ∷ m.rest = cc in
        either m (cut_of ts (mark (codes ")") ∷ []) m.row (mark (codes ",") ∷ m.rest) rest)

empty_is : {A : Type 0} (xs : List A) → is_empty xs ≡ true → xs ≡ []
empty_is [] e = refl
empty_is (x ∷ xs) e = cc

-- a phrase in parentheses is no atom
pub enclosed_atom : (ts : List Token) (x : Phrase) → IsPhrase expr ts x → atom (mark (codes "(") ∷ ts ++ mark (codes ")") ∷ []) ≡ None
enclosed_atom ts x p = ap (λ us. atom (mark (codes "(") ∷ us)) shape ∙ by_cell ∙ none (cell_before all) refl
  where
    s : Starts expr ts
    s = starts expr ts x p

    all : List Token
    all = mark (codes "(") ∷ ts ++ mark (codes ")") ∷ []

    shape : ts ++ mark (codes ")") ∷ [] ≡ s.first ∷ (s.rest ++ mark (codes ")") ∷ [])
    shape = ap (λ us. us ++ mark (codes ")") ∷ []) s.are

    longer : (t : Token) (us : List Token) → atom (mark (codes "(") ∷ t ∷ (us ++ mark (codes ")") ∷ [])) ≡ whole_cell (cell_before (mark (codes "(") ∷ t ∷ (us ++ mark (codes ")") ∷ [])))
    longer t [] = long_atom t (mark (codes ")")) []
    longer t (u ∷ us) = long_atom t u (us ++ mark (codes ")") ∷ [])

    by_cell : atom (mark (codes "(") ∷ s.first ∷ (s.rest ++ mark (codes ")") ∷ [])) ≡ whole_cell (cell_before all)
    by_cell = longer s.first s.rest ∙ ap (λ us. whole_cell (cell_before (mark (codes "(") ∷ us))) (sym shape)

    none : (o : Option (Cell × List Token)) → cell_before all ≡ o → whole_cell o ≡ None
    none None e = refl
    none (Some c) e = at (is_empty c.1) refl
      where
        at : (b : Bool) → is_empty c.1 ≡ b → then_some b (P.cell c.0) ≡ None
        at false h = refl
        at true h =
            let k = cell_is all c e in
            let same : all ≡ k.0 = k.2 ∙ ap (λ us. k.0 ++ us) (empty_is c.1 h) ∙ append-nil k.0 in
            absurd (no_cell ts x p c.0 (subst (λ us. IsNeighbour us c.0) (sym same) k.1))

without_last_is : (ts : List Token) (t : Token) → without_last (ts ++ t ∷ []) ≡ ts
without_last_is [] t = refl
without_last_is (u ∷ []) t = refl
without_last_is (u ∷ v ∷ ts) t = ap (λ us. u ∷ us) (without_last_is (v ∷ ts) t)

pub closed_found : (ts : List Token) → without_last_close (ts ++ mark (codes ")") ∷ []) ≡ Some ts
closed_found ts =
    ap (λ o. then_some (closes o) (without_last (ts ++ mark (codes ")") ∷ []))) (last_append None ts [] (mark (codes ")")))
    ∙ ap Some (without_last_is ts (mark (codes ")")))

pub enclosed_found : (ts : List Token) → enclosed_tokens (mark (codes "(") ∷ ts ++ mark (codes ")") ∷ []) ≡ Some (record { function = None; inner = ts })
enclosed_found ts = ap (option_and_then (λ inner. then_some (bytes_eq (codes "(") (codes "(")) (record { function = None; inner = inner }))) (closed_found ts)

pub call_found : (w : Bytes) (f : Function) (ts : List Token) → looked_up functions w ≡ Some f → enclosed_tokens (word w ∷ mark (codes "(") ∷ ts ++ mark (codes ")") ∷ []) ≡ Some (record { function = Some f; inner = ts })
call_found w f ts e =
    ap (option_and_then (λ g. option_and_then (λ inner. then_some (bytes_eq (codes "(") (codes "(")) (record { function = Some g; inner = inner })) (without_last_close (ts ++ mark (codes ")") ∷ [])))) e
    ∙ ap (option_and_then (λ inner. then_some (bytes_eq (codes "(") (codes "(")) (record { function = Some f; inner = inner }))) (closed_found ts)
