-- Primaries at the front of tokens.
use Rattle.std.proofs.Common.{◌≡◌, ℕ, true, false, Option, Some, None, List, [], ◌∷◌, ◌++◌, length, refl, sym, ap, ◌∙◌, arith, append_assoc, append-nil}
use Rattle.std.specs.Prelude.{codes, ℤ, ◌&&◌, ◌==◌}
use Rattle.std.specs.Option.{option_map, option_or}
use Rattle.std.specs.Bool.{then_some}
use Rattle.std.specs.Str.{bytes_eq}
use Rattle.std.proofs.lemmas.Bool.Decides.{nat_tests}
use Rattle.quantity.specs.Bytes.{Bytes}
use Rattle.rule_tree.specs.declared.node.Count.{Count}
use Rattle.rule_tree.specs.declared.function.Function.{Function}
use Rattle.rule_words.specs.Tokens.{Token, word, number, mark, is_mark}
use Rattle.rule_tree.specs.Phrases as P
use Rattle.rule_tree.specs.Phrases.{Cell, Phrase, Level, expr, primary, out, phrases, counts, functions, looked_up, argument_count}
use Rattle.rule_words.specs.Grammar.{IsInt, IsNeighbour, IsPhrase}
use Rattle.rule_words.specs.Reading.{is_closed, block_begins, cell_before, cell_phrase_before, word_phrase, call_phrase}
use Rattle.rule_words.specs.Descent.{Reader, then_on, prefix_if_closed, variable_before, port_value_before, atom_before, opening_before, reader_in_parentheses, primary_before, list_before}
use Rattle.rule_phrases.proofs.Nesting.{lookup_all, CutOf, in_first, in_second, cut_of, nested_closed}
use Rattle.rule_phrases.proofs.Outer.{outer_at}
use Rattle.rule_phrases.proofs.PhraseTokens.{int_nested}
use Rattle.rule_phrases.proofs.Apart.{NoComma, no_comma}
use Rattle.rule_phrases.proofs.Atoms.{count_atom}
use Rattle.rule_words.proofs.Blocks.{Absent, HasComma, cell_has_comma}
use Rattle.rule_words.proofs.Sound.{false_true, cell_is}

-- an atom is read before anything in parentheses is
pub at_atom : (read : Reader) (ts : List Token) (p : Phrase × List Token) → atom_before ts ≡ Some p → primary_before read ts ≡ Some p
at_atom read ts p e = ap (λ o. option_or o (then_on (opening_before ts) (reader_in_parentheses read))) e

pub at_opening : (read : Reader) (ts us : List Token) (f : Option Function) → atom_before ts ≡ None → opening_before ts ≡ Some (f, us) → primary_before read ts ≡ reader_in_parentheses read f us
at_opening read ts us f e o =
    ap (λ p. option_or p (then_on (opening_before ts) (reader_in_parentheses read))) e ∙ ap (λ p. then_on p (reader_in_parentheses read)) o

-- ---- cells

no_variable : (us : List Token) → variable_before (mark (codes "(") ∷ us) ≡ None
no_variable [] = refl
no_variable (word w ∷ us) = refl
no_variable (number n ∷ us) = refl
no_variable (mark m ∷ us) = refl

open_atom : (us : List Token) → atom_before (mark (codes "(") ∷ us) ≡ cell_phrase_before (mark (codes "(") ∷ us)
open_atom us = ap (λ o. option_or o (cell_phrase_before (mark (codes "(") ∷ us))) (no_variable us)

cell_is_open : (ts : List Token) (c : Cell) → IsNeighbour ts c → (ws : List Token) → atom_before (ts ++ ws) ≡ cell_phrase_before (ts ++ ws)
cell_is_open ts c h ws =
    let m = cell_has_comma ts c h in
    let are : ts ++ ws ≡ mark (codes "(") ∷ ((m.row ++ mark (codes ",") ∷ m.rest) ++ ws) = ap (λ us. us ++ ws) m.are in
    ap atom_before are ∙ open_atom ((m.row ++ mark (codes ",") ∷ m.rest) ++ ws) ∙ ap cell_phrase_before (sym are)

pub at_cell : (ts : List Token) (c : Cell) → IsNeighbour ts c → (ws : List Token) → cell_before (ts ++ ws) ≡ Some (c, ws) → atom_before (ts ++ ws) ≡ Some (P.cell c, ws)
at_cell ts c h ws e =
    cell_is_open ts c h ws ∙ ap (option_map (λ (p : Cell × List Token). (P.cell p.0, p.1))) e

-- ---- words

pub at_count : (w : Bytes) (c : Count) (ws : List Token) → looked_up counts w ≡ Some c → atom_before (word w ∷ ws) ≡ Some (P.counted c, ws)
at_count w c ws e =
    ap (λ o. option_or (option_map (λ x. (x, ws)) o) (port_value_before (word w ∷ ws))) (count_atom w c e)

-- the name of a function is no constant and no count
function_no_phrase : (w : Bytes) (f : Function) → looked_up functions w ≡ Some f → word_phrase w ≡ None
function_no_phrase w f e =
    lookup_all (λ n. word_phrase n ≡ None) functions w f
    (refl, (refl, (refl, (refl, (refl, (refl, (refl, (refl, (refl, (refl, (refl, (refl, (refl, (refl, (refl, (refl, (refl, tt))))))))))))))))) e

function_no_port : (w : Bytes) (f : Function) → looked_up functions w ≡ Some f → bytes_eq w (codes "portvalue") ≡ false
function_no_port w f e =
    lookup_all (λ n. bytes_eq n (codes "portvalue") ≡ false) functions w f
    (refl, (refl, (refl, (refl, (refl, (refl, (refl, (refl, (refl, (refl, (refl, (refl, (refl, (refl, (refl, (refl, (refl, tt))))))))))))))))) e

no_port_value : (w : Bytes) (ts : List Token) → bytes_eq w (codes "portvalue") ≡ false → port_value_before (word w ∷ mark (codes "(") ∷ ts) ≡ None
no_port_value w [] e = refl
no_port_value w (c ∷ []) e = refl
no_port_value w (number n ∷ d ∷ ts) e = refl
no_port_value w (mark m ∷ d ∷ ts) e = refl
no_port_value w (word v ∷ d ∷ ts) e =
    ap (λ b. then_some (b && is_mark (codes "(") (mark (codes "(")) && bytes_eq v (codes "thisport") && is_mark (codes ")") d) (P.port_value, ts)) e

call_no_atom : (w : Bytes) (f : Function) (ts : List Token) → looked_up functions w ≡ Some f → atom_before (word w ∷ mark (codes "(") ∷ ts) ≡ None
call_no_atom w f ts e =
    ap (λ o. option_or (option_map (λ x. (x, mark (codes "(") ∷ ts)) o) (port_value_before (word w ∷ mark (codes "(") ∷ ts))) (function_no_phrase w f e)
    ∙ no_port_value w ts (function_no_port w f e)

-- ---- parentheses

-- a phrase has no comma outside parentheses
no_comma_at : (ts : List Token) (x : Phrase) → IsPhrase expr ts x → (row c : List Token) (i : ℤ) → IsInt row i → ts ≡ row ++ mark (codes ",") ∷ c → ⊥
no_comma_at ts x p row c i r e =
    let nothing_open : is_closed 0 row ≡ true = sym (ap (is_closed 0) (append-nil row)) ∙ nested_closed row (int_nested row i r) 0 [] in
    let wrong : true ≡ false = outer_at NoComma None ts ((no_comma expr ts x p).outer tt None tt) row (mark (codes ",")) c e nothing_open in
    cc

row_closes : (row : List Token) (i : ℤ) → IsInt row i → Absent (is_mark (codes ")")) row
row_closes _ _ (IsInt.bare e) = (refl, tt)
row_closes _ _ (IsInt.plus e) = (refl, (refl, tt))
row_closes _ _ (IsInt.minus e) = (refl, (refl, tt))

-- no number has a closing parenthesis
no_close_in : (row b d : List Token) (i : ℤ) → IsInt row i → row ≡ b ++ mark (codes ")") ∷ d → ⊥
no_close_in row b d i r e = absent_at b row (row_closes row i r) e
  where
    absent_at : (b us : List Token) → Absent (is_mark (codes ")")) us → us ≡ b ++ mark (codes ")") ∷ d → ⊥
    absent_at [] [] a e = cc
    absent_at [] (u ∷ us) a e = let same : u ≡ mark (codes ")") = cc in false_true (sym a.0 ∙ ap (is_mark (codes ")")) same)
    absent_at (v ∷ b) [] a e = cc
    absent_at (v ∷ b) (u ∷ us) a e = let rest : us ≡ b ++ mark (codes ")") ∷ d = cc in absent_at b us a.1 rest

-- up to the parenthesis that closes a phrase there is no number with a comma behind it
not_a_row : (ts : List Token) (x : Phrase) → IsPhrase expr ts x → (ws row rest : List Token) (i : ℤ) → IsInt row i → ts ++ mark (codes ")") ∷ ws ≡ row ++ mark (codes ",") ∷ rest → ⊥
not_a_row ts x p ws row rest i r e = either (cut_of ts (mark (codes ")") ∷ ws) row (mark (codes ",") ∷ rest) e)
  where
    within : (d : List Token) → ts ≡ row ++ d → mark (codes ",") ∷ rest ≡ d ++ mark (codes ")") ∷ ws → ⊥
    within [] h k = false_true (sym (ap (block_begins (codes ",")) k))
    within (u ∷ d) h k =
        let same : u ≡ mark (codes ",") = cc in
        no_comma_at ts x p row d i r (h ∙ ap (λ v. row ++ v ∷ d) same)

    behind : (b : List Token) → row ≡ ts ++ b → mark (codes ")") ∷ ws ≡ b ++ mark (codes ",") ∷ rest → ⊥
    behind [] h k = false_true (ap (block_begins (codes ",")) k)
    behind (u ∷ b) h k =
        let same : u ≡ mark (codes ")") = cc in
        no_close_in row ts b i r (h ∙ ap (λ v. ts ++ v ∷ b) same)

    either : CutOf ts (mark (codes ")") ∷ ws) row (mark (codes ",") ∷ rest) → ⊥
    either (in_first d h k) = within d h k
    either (in_second b h k) = behind b h k

-- a phrase in parentheses begins no cell
no_cell : (ts : List Token) (x : Phrase) → IsPhrase expr ts x → (ws : List Token) → cell_before (mark (codes "(") ∷ ts ++ mark (codes ")") ∷ ws) ≡ None
no_cell ts x p ws = go (cell_before all) refl
  where
    all : List Token
    all = mark (codes "(") ∷ ts ++ mark (codes ")") ∷ ws

    with_comma : (us after : List Token) → HasComma us → all ≡ us ++ after → ⊥
    with_comma us after m e =
        let whole : all ≡ mark (codes "(") ∷ ((m.row ++ mark (codes ",") ∷ m.rest) ++ after) = e ∙ ap (λ vs. vs ++ after) m.are in
        let inner : ts ++ mark (codes ")") ∷ ws ≡ (m.row ++ mark (codes ",") ∷ m.rest) ++ after = cc in
        not_a_row ts x p ws m.row (m.rest ++ after) m.number m.is_number (inner ∙ append_assoc m.row (mark (codes ",") ∷ m.rest) after)

    go : (o : Option (Cell × List Token)) → cell_before all ≡ o → o ≡ None
    go None e = refl
    go (Some c) e = let k = cell_is all c e in absurd (with_comma k.0 c.1 (cell_has_comma k.0 c.0 k.1) k.2)

enclosed_no_atom : (ts : List Token) (x : Phrase) → IsPhrase expr ts x → (ws : List Token) → atom_before (mark (codes "(") ∷ ts ++ mark (codes ")") ∷ ws) ≡ None
enclosed_no_atom ts x p ws =
    open_atom (ts ++ mark (codes ")") ∷ ws) ∙ ap (option_map (λ (c : Cell × List Token). (P.cell c.0, c.1))) (no_cell ts x p ws)

pub at_enclosed : (read : Reader) (ts : List Token) (x : Phrase) → IsPhrase expr ts x → (ws : List Token) → read (ts ++ mark (codes ")") ∷ ws) ≡ Some (x, mark (codes ")") ∷ ws) → primary_before read (mark (codes "(") ∷ ts ++ mark (codes ")") ∷ ws) ≡ Some (x, ws)
at_enclosed read ts x p ws e =
    at_opening read (mark (codes "(") ∷ ts ++ mark (codes ")") ∷ ws) (ts ++ mark (codes ")") ∷ ws) None (enclosed_no_atom ts x p ws) refl
    ∙ ap (λ q. then_on q prefix_if_closed) e

called_is : (f : Function) (xs : List Phrase) → length xs ≡ argument_count f → call_phrase f (Some xs) ≡ Some (P.call f (phrases xs))
called_is f xs n = ap (λ b. then_some b (P.call f (phrases xs))) (same (length xs) (argument_count f) n)
  where
    same : (a b : ℕ) → a ≡ b → (a == b) ≡ true
    same a b h = grind (arith, nat_tests)

pub at_call : (read : Reader) (w : Bytes) (f : Function) (us ws : List Token) (xs : List Phrase) → looked_up functions w ≡ Some f → length xs ≡ argument_count f → list_before read us ≡ Some (xs, mark (codes ")") ∷ ws) → primary_before read (word w ∷ mark (codes "(") ∷ us) ≡ Some (P.call f (phrases xs), ws)
at_call read w f us ws xs e n h =
    at_opening read (word w ∷ mark (codes "(") ∷ us) us (Some f) (call_no_atom w f us e) (ap (option_map (λ g. (Some g, us))) e)
    ∙ ap (λ q. then_on (then_on q prefix_if_closed) (λ ys rest. option_map (λ x. (x, rest)) (call_phrase f (Some ys)))) h
    ∙ ap (option_map (λ x. (x, ws))) (called_is f xs n)
