-- The reading from left to right finds all that the grammar has.
use Rattle.std.proofs.Common.{◌≡◌, ℕ, zero, suc, ◌+◌, ◌≤◌, cond, Option, Some, None, List, [], ◌∷◌, ◌++◌, length, refl, sym, ap, subst, ◌∙◌, arith, append_assoc, append-nil, length-append}
use Rattle.std.specs.Prelude.{codes}
use Rattle.std.specs.Option.{option_map}
use Rattle.std.specs.Bool.{then_some}
use Rattle.quantity.specs.Bytes.{Bytes}
use Rattle.quantity.specs.declared.truth.Tri.TheVariants.{True, False}
use Rattle.quantity.specs.declared.value.Value.TheVariants.{Undefined, Num}
use Rattle.rule_tree.specs.declared.node.Unary.{Unary}
use Rattle.rule_tree.specs.declared.node.Unary.TheVariants.{Plus, Minus, Not}
use Rattle.rule_tree.specs.declared.node.Binary.{Binary}
use Rattle.rule_tree.specs.declared.function.Function.{Function}
use Rattle.rule_words.specs.Tokens.{Token, word, number, mark, is_mark}
use Rattle.rule_tree.specs.Phrases as P
use Rattle.rule_tree.specs.Phrases.{Cell, Phrase, Level, expr, disj, conj, neg, comp, sum, prod, signed, primary, tighter, left_of, phrases, functions, looked_up, argument_count}
use Rattle.rule_words.specs.Grammar.{Joins, IsNeighbour, IsPhrase, IsList}
use Rattle.rule_words.specs.Grammar as G
use Rattle.rule_words.specs.Descent.{Reader, then_on, prefix_map, joined_operands, operand_chain, not_in, sign_in, signed_operand, comma_list, list_before, sum_before, comp_before, atom_before, primary_before, at_level, expression_reader}
use Rattle.rule_phrases.proofs.Apart.{rank}
use Rattle.rule_phrases.proofs.Edges.{starts}
use Rattle.rule_phrases.proofs.Cuts.{HasOperators, at_expr, at_disj, at_conj, at_comp, at_sum, at_prod, has_operators}
use Rattle.rule_words.proofs.Blocks.{cell_found}
use Rattle.rule_phrases.proofs.DescentStops.{Stops, stops_tighter, stops_at_operator, stops_at_close, stops_at_comma, no_port, joined_stops, joined_goes_on}
use Rattle.rule_phrases.proofs.DescentAtoms.{at_atom, at_cell, at_count, at_enclosed, at_call}

-- ---- levels that group from the left

pub data IsGrouped : Level → Type 0 where
  groups_expr : IsGrouped expr
  groups_disj : IsGrouped disj
  groups_conj : IsGrouped conj
  groups_sum : IsGrouped sum
  groups_prod : IsGrouped prod

grouped_chained : (l : Level) → IsGrouped l → (read : Reader) (us : List Token) → at_level read l us ≡ operand_chain l (at_level read (tighter l)) us
grouped_chained _ groups_expr read us = refl
grouped_chained _ groups_disj read us = refl
grouped_chained _ groups_conj read us = refl
grouped_chained _ groups_sum read us = refl
grouped_chained _ groups_prod read us = refl

grouped_rank : (l : Level) → IsGrouped l → suc (rank l) ≤ rank (tighter l)
grouped_rank _ groups_expr = omega arith
grouped_rank _ groups_disj = omega arith
grouped_rank _ groups_conj = omega arith
grouped_rank _ groups_sum = omega arith
grouped_rank _ groups_prod = omega arith

-- the reading goes on behind a phrase, with room for an operator at each token that is left
pub record GoesOn (read : Reader) (l : Level) (us : List Token) (x : Phrase) (ws : List Token) : Type 0 where
  pub most : ℕ
  pub enough : length ws ≤ most
  pub are : at_level read l us ≡ joined_operands most (at_level read (tighter l)) l x ws

goes_on_tight : (read : Reader) (l : Level) → IsGrouped l → (us : List Token) (a : Phrase) (ws : List Token) → at_level read (tighter l) us ≡ Some (a, ws) → GoesOn read l us a ws
goes_on_tight read l g us a ws e =
    record {
      most = length ws;
      enough = omega arith;
      are = grouped_chained l g read us ∙ ap (λ p. then_on p (λ x rest. joined_operands (length rest) (at_level read (tighter l)) l x rest)) e;
    }

goes_on_joined : (read : Reader) (l : Level) (vs us ws : List Token) (t : Token) (b : Binary) (x y : Phrase) → GoesOn read l vs x (t ∷ us ++ ws) → Joins l t b → at_level read (tighter l) (us ++ ws) ≡ Some (y, ws) → GoesOn read l vs (P.two b x y) ws
goes_on_joined read l vs us ws t b x y h j e = go h.most h.enough h.are
  where
    go : (k : ℕ) → length (t ∷ us ++ ws) ≤ k → at_level read l vs ≡ joined_operands k (at_level read (tighter l)) l x (t ∷ us ++ ws) → GoesOn read l vs (P.two b x y) ws
    go zero d f = absurd (omega arith)
    go (suc k) d f =
        record {
          most = k;
          enough = omega (arith, length-append us ws);
          are = f ∙ joined_goes_on k (at_level read (tighter l)) l x y t b (us ++ ws) ws j e;
        }

goes_on_stops : (read : Reader) (l : Level) (us : List Token) (x : Phrase) (ws : List Token) → GoesOn read l us x ws → Stops l ws → at_level read l us ≡ Some (x, ws)
goes_on_stops read l us x ws h s = h.are ∙ joined_stops h.most (at_level read (tighter l)) l x ws s

-- ---- what is to be shown of a phrase

abbrev pub Reads : Level → List Token → Phrase → Type 0
Reads l us x = (n : ℕ) (ws : List Token) → length us ≤ n → Stops l ws → at_level (expression_reader n) l (us ++ ws) ≡ Some (x, ws)

-- before an operator of the same level too
abbrev pub Groups : Level → List Token → Phrase → Type 0
Groups l us x = IsGrouped l → (n : ℕ) (ws : List Token) → length us ≤ n → Stops (tighter l) ws → GoesOn (expression_reader n) l (us ++ ws) x ws

pub record ReadInFront (l : Level) (us : List Token) (x : Phrase) : Type 0 where
  pub groups : Groups l us x
  pub reads : Reads l us x

length_joined : (ts us : List Token) (t : Token) → length (ts ++ t ∷ us) ≡ length ts + suc (length us)
length_joined ts us t = length-append ts (t ∷ us)

groups_read : (l : Level) → IsGrouped l → (us : List Token) (x : Phrase) → Groups l us x → Reads l us x
groups_read l g us x h n ws d s = goes_on_stops (expression_reader n) l (us ++ ws) x ws (h g n ws d (stops_tighter l ws s)) s

grouped_is_read : (l : Level) → IsGrouped l → (us : List Token) (x : Phrase) → Groups l us x → ReadInFront l us x
grouped_is_read l g us x h = record { groups = h; reads = groups_read l g us x h }

alone_is_read : (l : Level) → (IsGrouped l → ⊥) → (us : List Token) (x : Phrase) → Reads l us x → ReadInFront l us x
alone_is_read l alone us x h = record { groups = λ g. absurd (alone g); reads = h }

neg_alone : IsGrouped neg → ⊥
neg_alone g = elim g [ ]

comp_alone : IsGrouped comp → ⊥
comp_alone g = elim g [ ]

signed_alone : IsGrouped signed → ⊥
signed_alone g = elim g [ ]

primary_alone : IsGrouped primary → ⊥
primary_alone g = elim g [ ]

-- ---- a phrase of a tighter level

tight_groups : (l : Level) (us : List Token) (a : Phrase) → Reads (tighter l) us a → Groups l us a
tight_groups l us a h g n ws d s = goes_on_tight (expression_reader n) l g (us ++ ws) a ws (h n ws d s)

unsigned : (sign : Token → Option Unary) (operand : Reader) (us ws rest : List Token) (t : Token) → us ≡ t ∷ rest → sign t ≡ None → signed_operand sign operand (us ++ ws) ≡ operand (us ++ ws)
unsigned sign operand us ws rest t are none =
    ap (λ vs. signed_operand sign operand (vs ++ ws)) are
    ∙ ap (λ o. elim o [ None ↦ operand (t ∷ (rest ++ ws)) | Some u ↦ prefix_map (P.one u) (signed_operand sign operand (rest ++ ws)) ]) none
    ∙ ap (λ vs. operand (vs ++ ws)) (sym are)

no_not : (us : List Token) (x : Phrase) → IsPhrase comp us x → Reads comp us x → Reads neg us x
no_not us x p h n ws d s =
    let first = starts comp us x p in
    unsigned not_in (comp_before (expression_reader n)) us ws first.rest first.first first.are (ap (λ b. then_some b Not) (first.no_not (omega arith)))
    ∙ h n ws d (stops_tighter neg ws s)

no_sign : (us : List Token) (x : Phrase) → IsPhrase primary us x → Reads primary us x → Reads signed us x
no_sign us x p h n ws d s =
    let first = starts primary us x p in
    unsigned sign_in (primary_before (expression_reader n)) us ws first.rest first.first first.are
    (ap (λ b. cond b (Some Plus) (then_some (is_mark (codes "-") first.first) Minus)) (first.no_plus (omega arith)) ∙ ap (λ b. then_some b Minus) (first.no_minus (omega arith)))
    ∙ h n ws d (stops_tighter signed ws s)

no_comparison : (us : List Token) (x : Phrase) → Reads sum us x → Reads comp us x
no_comparison us x h n ws d s =
    ap (λ p. then_on p (joined_operands 1 (sum_before (expression_reader n)) comp)) (h n ws d (stops_tighter comp ws s))
    ∙ joined_stops 1 (sum_before (expression_reader n)) comp x ws s

tight_is_read : (l : Level) (us : List Token) (a : Phrase) → IsPhrase (tighter l) us a → ReadInFront (tighter l) us a → ReadInFront l us a
tight_is_read expr us a p h = grouped_is_read expr groups_expr us a (tight_groups expr us a h.reads)
tight_is_read disj us a p h = grouped_is_read disj groups_disj us a (tight_groups disj us a h.reads)
tight_is_read conj us a p h = grouped_is_read conj groups_conj us a (tight_groups conj us a h.reads)
tight_is_read neg us a p h = alone_is_read neg neg_alone us a (no_not us a p h.reads)
tight_is_read comp us a p h = alone_is_read comp comp_alone us a (no_comparison us a h.reads)
tight_is_read sum us a p h = grouped_is_read sum groups_sum us a (tight_groups sum us a h.reads)
tight_is_read prod us a p h = grouped_is_read prod groups_prod us a (tight_groups prod us a h.reads)
tight_is_read signed us a p h = alone_is_read signed signed_alone us a (no_sign us a p h.reads)
tight_is_read primary us a p h = h

-- ---- phrases that an operator joins

joined_groups : (l : Level) (ts us : List Token) (t : Token) (b : Binary) (x y : Phrase) → Groups l ts x → Joins l t b → Reads (tighter l) us y → Groups l (ts ++ t ∷ us) (P.two b x y)
joined_groups l ts us t b x y h j k g n ws d s =
    subst (λ vs. GoesOn (expression_reader n) l vs (P.two b x y) ws) (sym (append_assoc ts (t ∷ us) ws))
    (goes_on_joined (expression_reader n) l (ts ++ t ∷ (us ++ ws)) us ws t b x y
    (h g n (t ∷ (us ++ ws)) (omega (arith, length_joined ts us t)) (stops_at_operator l (tighter l) t b (grouped_rank l g) j)) j
    (k n ws (omega (arith, length_joined ts us t)) s))

compared : (ts us : List Token) (t : Token) (b : Binary) (x y : Phrase) → Reads sum ts x → Joins comp t b → Reads sum us y → Reads comp (ts ++ t ∷ us) (P.two b x y)
compared ts us t b x y h j k n ws d s =
    ap (comp_before (expression_reader n)) (append_assoc ts (t ∷ us) ws)
    ∙ ap (λ p. then_on p (joined_operands 1 (sum_before (expression_reader n)) comp)) (h n (t ∷ (us ++ ws)) (omega (arith, length_joined ts us t)) (stops_at_operator comp sum t b (omega arith) j))
    ∙ joined_goes_on 0 (sum_before (expression_reader n)) comp x y t b (us ++ ws) ws j (k n ws (omega (arith, length_joined ts us t)) (stops_tighter comp ws s))
    ∙ joined_stops 0 (sum_before (expression_reader n)) comp (P.two b x y) ws s

joined_is_read : (l : Level) → HasOperators l → (ts us : List Token) (t : Token) (b : Binary) (x y : Phrase) → ReadInFront (left_of l) ts x → Joins l t b → ReadInFront (tighter l) us y → ReadInFront l (ts ++ t ∷ us) (P.two b x y)
joined_is_read _ at_expr ts us t b x y h j k = grouped_is_read expr groups_expr (ts ++ t ∷ us) (P.two b x y) (joined_groups expr ts us t b x y h.groups j k.reads)
joined_is_read _ at_disj ts us t b x y h j k = grouped_is_read disj groups_disj (ts ++ t ∷ us) (P.two b x y) (joined_groups disj ts us t b x y h.groups j k.reads)
joined_is_read _ at_conj ts us t b x y h j k = grouped_is_read conj groups_conj (ts ++ t ∷ us) (P.two b x y) (joined_groups conj ts us t b x y h.groups j k.reads)
joined_is_read _ at_comp ts us t b x y h j k = alone_is_read comp comp_alone (ts ++ t ∷ us) (P.two b x y) (compared ts us t b x y h.reads j k.reads)
joined_is_read _ at_sum ts us t b x y h j k = grouped_is_read sum groups_sum (ts ++ t ∷ us) (P.two b x y) (joined_groups sum ts us t b x y h.groups j k.reads)
joined_is_read _ at_prod ts us t b x y h j k = grouped_is_read prod groups_prod (ts ++ t ∷ us) (P.two b x y) (joined_groups prod ts us t b x y h.groups j k.reads)

-- ---- signs

negated_is_read : (us : List Token) (x : Phrase) → ReadInFront neg us x → ReadInFront neg (word (codes "not") ∷ us) (P.one Not x)
negated_is_read us x h =
    alone_is_read neg neg_alone (word (codes "not") ∷ us) (P.one Not x) (λ n ws d s. ap (prefix_map (P.one Not)) (h.reads n ws (omega arith) s))

plus_is_read : (us : List Token) (x : Phrase) → ReadInFront signed us x → ReadInFront signed (mark (codes "+") ∷ us) (P.one Plus x)
plus_is_read us x h =
    alone_is_read signed signed_alone (mark (codes "+") ∷ us) (P.one Plus x) (λ n ws d s. ap (prefix_map (P.one Plus)) (h.reads n ws (omega arith) s))

minus_is_read : (us : List Token) (x : Phrase) → ReadInFront signed us x → ReadInFront signed (mark (codes "-") ∷ us) (P.one Minus x)
minus_is_read us x h =
    alone_is_read signed signed_alone (mark (codes "-") ∷ us) (P.one Minus x) (λ n ws d s. ap (prefix_map (P.one Minus)) (h.reads n ws (omega arith) s))

-- ---- primaries

atom_is_read : (us : List Token) (x : Phrase) → ((ws : List Token) → Stops primary ws → atom_before (us ++ ws) ≡ Some (x, ws)) → ReadInFront primary us x
atom_is_read us x h =
    alone_is_read primary primary_alone us x (λ n ws d s. at_atom (expression_reader n) (us ++ ws) (x, ws) (h ws s))

cell_is_read : (us : List Token) (c : Cell) → IsNeighbour us c → ReadInFront primary us (P.cell c)
cell_is_read us c h =
    atom_is_read us (P.cell c) (λ ws s. at_cell us c h ws (cell_found us c h ws (no_port primary ws s)))

enclosed_reads : (us : List Token) (x : Phrase) → IsPhrase expr us x → Reads expr us x → Reads primary (mark (codes "(") ∷ us ++ mark (codes ")") ∷ []) x
enclosed_reads us x p h zero ws d s = absurd (omega arith)
enclosed_reads us x p h (suc n) ws d s =
    ap (λ vs. primary_before (expression_reader (suc n)) (mark (codes "(") ∷ vs)) (append_assoc us (mark (codes ")") ∷ []) ws)
    ∙ at_enclosed (expression_reader (suc n)) us x p ws (h n (mark (codes ")") ∷ ws) (omega (arith, length_joined us [] (mark (codes ")")))) (stops_at_close expr))

enclosed_is_read : (us : List Token) (x : Phrase) → IsPhrase expr us x → ReadInFront expr us x → ReadInFront primary (mark (codes "(") ∷ us ++ mark (codes ")") ∷ []) x
enclosed_is_read us x p h = alone_is_read primary primary_alone (mark (codes "(") ∷ us ++ mark (codes ")") ∷ []) x (enclosed_reads us x p h.reads)

-- ---- arguments

-- the arguments up to a closing parenthesis, as the first ones and behind others
pub record AllReadInFront (us : List Token) (xs : List Phrase) : Type 0 where
  pub first : (n : ℕ) (ws : List Token) → length us ≤ n →
      list_before (expression_reader (suc n)) (us ++ mark (codes ")") ∷ ws) ≡ Some (xs, mark (codes ")") ∷ ws)
  pub later : (n k : ℕ) (ys : List Phrase) (ws : List Token) → length us ≤ n → length us ≤ k →
      then_on (expression_reader (suc n) (us ++ mark (codes ")") ∷ ws)) (λ y rest. comma_list k (expression_reader (suc n)) (ys ++ y ∷ []) rest) ≡ Some (ys ++ xs, mark (codes ")") ∷ ws)

listed_closes : (k : ℕ) (read : Reader) (xs : List Phrase) (ws : List Token) → comma_list k read xs (mark (codes ")") ∷ ws) ≡ Some (xs, mark (codes ")") ∷ ws)
listed_closes zero read xs ws = refl
listed_closes (suc k) read xs ws = refl

last_are_read : (us : List Token) (x : Phrase) → Reads expr us x → AllReadInFront us (x ∷ [])
last_are_read us x h =
    record {
      first = λ n ws d.
          ap (λ p. then_on p (λ y rest. comma_list (length rest) (expression_reader (suc n)) (y ∷ []) rest)) (h n (mark (codes ")") ∷ ws) d (stops_at_close expr))
          ∙ listed_closes (length (mark (codes ")") ∷ ws)) (expression_reader (suc n)) (x ∷ []) ws;
      later = λ n k ys ws d e.
          ap (λ p. then_on p (λ y rest. comma_list k (expression_reader (suc n)) (ys ++ y ∷ []) rest)) (h n (mark (codes ")") ∷ ws) d (stops_at_close expr))
          ∙ listed_closes k (expression_reader (suc n)) (ys ++ x ∷ []) ws;
    }

more_first : (ts us : List Token) (x : Phrase) (xs : List Phrase) → Reads expr ts x → AllReadInFront us xs → (n : ℕ) (ws : List Token) → length (ts ++ mark (codes ",") ∷ us) ≤ n → list_before (expression_reader (suc n)) ((ts ++ mark (codes ",") ∷ us) ++ mark (codes ")") ∷ ws) ≡ Some (x ∷ xs, mark (codes ")") ∷ ws)
more_first ts us x xs h k n ws d =
    ap (list_before (expression_reader (suc n))) (append_assoc ts (mark (codes ",") ∷ us) (mark (codes ")") ∷ ws))
    ∙ ap (λ p. then_on p (λ y rest. comma_list (length rest) (expression_reader (suc n)) (y ∷ []) rest))
    (h n (mark (codes ",") ∷ (us ++ mark (codes ")") ∷ ws)) (omega (arith, length_joined ts us (mark (codes ",")))) (stops_at_comma expr))
    ∙ k.later n (length (us ++ mark (codes ")") ∷ ws)) (x ∷ []) ws (omega (arith, length_joined ts us (mark (codes ",")))) (omega (arith, length_joined us ws (mark (codes ")"))))

more_later : (ts us : List Token) (x : Phrase) (xs : List Phrase) → Reads expr ts x → AllReadInFront us xs → (n k : ℕ) (ys : List Phrase) (ws : List Token) → length (ts ++ mark (codes ",") ∷ us) ≤ n → length (ts ++ mark (codes ",") ∷ us) ≤ k → then_on (expression_reader (suc n) ((ts ++ mark (codes ",") ∷ us) ++ mark (codes ")") ∷ ws)) (λ y rest. comma_list k (expression_reader (suc n)) (ys ++ y ∷ []) rest) ≡ Some (ys ++ x ∷ xs, mark (codes ")") ∷ ws)
more_later ts us x xs h m n zero ys ws d e = absurd (omega (arith, length_joined ts us (mark (codes ","))))
more_later ts us x xs h m n (suc k) ys ws d e =
    ap (λ vs. then_on (expression_reader (suc n) vs) (λ y rest. comma_list (suc k) (expression_reader (suc n)) (ys ++ y ∷ []) rest)) (append_assoc ts (mark (codes ",") ∷ us) (mark (codes ")") ∷ ws))
    ∙ ap (λ p. then_on p (λ y rest. comma_list (suc k) (expression_reader (suc n)) (ys ++ y ∷ []) rest))
    (h n (mark (codes ",") ∷ (us ++ mark (codes ")") ∷ ws)) (omega (arith, length_joined ts us (mark (codes ",")))) (stops_at_comma expr))
    ∙ m.later n k (ys ++ x ∷ []) ws (omega (arith, length_joined ts us (mark (codes ",")))) (omega (arith, length_joined ts us (mark (codes ","))))
    ∙ ap (λ zs. Some (zs, mark (codes ")") ∷ ws)) (append_assoc ys (x ∷ []) xs)

more_are_read : (ts us : List Token) (x : Phrase) (xs : List Phrase) → Reads expr ts x → AllReadInFront us xs → AllReadInFront (ts ++ mark (codes ",") ∷ us) (x ∷ xs)
more_are_read ts us x xs h k = record { first = more_first ts us x xs h k; later = more_later ts us x xs h k }

call_reads : (w : Bytes) (f : Function) (us : List Token) (xs : List Phrase) → looked_up functions w ≡ Some f → length xs ≡ argument_count f → AllReadInFront us xs → Reads primary (word w ∷ mark (codes "(") ∷ us ++ mark (codes ")") ∷ []) (P.call f (phrases xs))
call_reads w f us xs e c h zero ws d s = absurd (omega arith)
call_reads w f us xs e c h (suc n) ws d s =
    ap (λ vs. primary_before (expression_reader (suc n)) (word w ∷ mark (codes "(") ∷ vs)) (append_assoc us (mark (codes ")") ∷ []) ws)
    ∙ at_call (expression_reader (suc n)) w f (us ++ mark (codes ")") ∷ ws) ws xs e c (h.first n ws (omega (arith, length_joined us [] (mark (codes ")")))))

call_is_read : (w : Bytes) (f : Function) (us : List Token) (xs : List Phrase) → looked_up functions w ≡ Some f → length xs ≡ argument_count f → AllReadInFront us xs → ReadInFront primary (word w ∷ mark (codes "(") ∷ us ++ mark (codes ")") ∷ []) (P.call f (phrases xs))
call_is_read w f us xs e c h =
    alone_is_read primary primary_alone (word w ∷ mark (codes "(") ∷ us ++ mark (codes ")") ∷ []) (P.call f (phrases xs)) (call_reads w f us xs e c h)

-- ---- phrases

mutual
  pub is_read : (l : Level) (us : List Token) (x : Phrase) → IsPhrase l us x → ReadInFront l us x
  is_read _ _ _ (G.tight {l} {ts} {a} p) = tight_is_read l ts a p (is_read (tighter l) ts a p)
  is_read _ _ _ (G.joined {l} {ts} {us} t {b} {x} {y} p j q) =
      joined_is_read l (has_operators l t b j) ts us t b x y (is_read (left_of l) ts x p) j (is_read (tighter l) us y q)
  is_read _ _ _ (G.negated {ts} {x} p) = negated_is_read ts x (is_read neg ts x p)
  is_read _ _ _ (IsPhrase.plus {ts} {x} p) = plus_is_read ts x (is_read signed ts x p)
  is_read _ _ _ (IsPhrase.minus {ts} {x} p) = minus_is_read ts x (is_read signed ts x p)
  is_read _ _ _ (G.numeral {text} {n} e) =
      atom_is_read (number text ∷ []) (P.value (Num n)) (λ ws s. ap (option_map (λ m. (P.value (Num m), ws))) e)
  is_read _ _ _ G.unknown = atom_is_read (mark (codes "?") ∷ []) (P.value Undefined) (λ ws s. refl)
  is_read _ _ _ IsPhrase.true = atom_is_read (word (codes "t") ∷ []) (P.truth True) (λ ws s. refl)
  is_read _ _ _ IsPhrase.false = atom_is_read (word (codes "f") ∷ []) (P.truth False) (λ ws s. refl)
  is_read _ _ _ (G.cell {ts} {c} p) = cell_is_read ts c p
  is_read _ _ _ (G.variable {w}) = atom_is_read (mark (codes "$") ∷ word w ∷ []) (P.variable w) (λ ws s. refl)
  is_read _ _ _ (G.enclosed {ts} {x} p) = enclosed_is_read ts x p (is_read expr ts x p)
  is_read _ _ _ G.time = atom_is_read (word (codes "time") ∷ []) P.now (λ ws s. refl)
  is_read _ _ _ (G.counted {w} {c} e) = atom_is_read (word w ∷ []) (P.counted c) (λ ws s. at_count w c ws e)
  is_read _ _ _ G.port_value =
      atom_is_read (word (codes "portvalue") ∷ mark (codes "(") ∷ word (codes "thisport") ∷ mark (codes ")") ∷ []) P.port_value (λ ws s. refl)
  is_read _ _ _ (G.call {w} {f} {ts} {xs} e p n) = call_is_read w f ts xs e n (are_read ts xs p)

  are_read : (us : List Token) (xs : List Phrase) → IsList us xs → AllReadInFront us xs
  are_read _ _ (IsList.last {ts} {x} p) = last_are_read ts x (is_read expr ts x p).reads
  are_read _ _ (IsList.more {ts} {us} {x} {xs} p q) = more_are_read ts us x xs (is_read expr ts x p).reads (are_read us xs q)

-- a phrase before tokens that stop it is read, and they are left
pub reads_on : (n : ℕ) (us ws : List Token) (x : Phrase) → IsPhrase expr us x → length us ≤ n → Stops expr ws → expression_reader (suc n) (us ++ ws) ≡ Some (x, ws)
reads_on n us ws x p d s = (is_read expr us x p).reads n ws d s

pub complete : (n : ℕ) (us : List Token) (x : Phrase) → IsPhrase expr us x → length us ≤ n → expression_reader (suc n) us ≡ Some (x, [])
complete n us x p d = sym (ap (expression_reader (suc n)) (append-nil us)) ∙ reads_on n us [] x p d tt
