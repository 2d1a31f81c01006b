-- Each phrase of the grammar is found.
use Rattle.std.proofs.Common.{◌≡◌, ℕ, zero, suc, ◌+◌, ◌*◌, ◌≤◌, Bool, true, false, cond, Option, Some, None, List, [], ◌∷◌, ◌++◌, map, length, refl, sym, ap, ◌∙◌, arith, append_assoc, append-nil, length-append}
use Rattle.std.specs.Prelude.{codes, ◌&&◌, ◌==◌, ◌-◌}
use Rattle.std.specs.List.{onto_first}
use Rattle.std.specs.Option.{option_map, option_or}
use Rattle.std.specs.Bool.{then_some}
use Rattle.std.proofs.lemmas.Bool.Decides.{nat_tests}
use Rattle.quantity.specs.declared.truth.Tri.TheVariants.{True, False}
use Rattle.quantity.specs.declared.value.Value.TheVariants.{Undefined, Num}
use Rattle.quantity.specs.Bytes.{Bytes, parts_outside, all_there, in_front}
use Rattle.rule_tree.specs.declared.node.Unary.{Unary}
use Rattle.rule_tree.specs.declared.node.Unary.TheVariants.{Plus, Minus, Not}
use Rattle.rule_tree.specs.declared.node.Binary.{Binary}
use Rattle.rule_tree.specs.declared.function.Function.{Function}
use Rattle.rule_words.specs.Tokens.{Token, word, number, mark, is_mark}
use Rattle.rule_tree.specs.Phrases as P
use Rattle.rule_tree.specs.Phrases.{Phrase, Level, expr, disj, conj, neg, comp, sum, prod, signed, primary, tighter, left_of, phrases, argument_count, looked_up, functions}
use Rattle.rule_words.specs.Grammar.{Joins, IsPhrase, IsList}
use Rattle.rule_words.specs.Grammar as G
use Rattle.rule_words.specs.Reading.{Cut, operator_in, last_join, both, after_not, after_sign, atom, Enclosed, enclosed_tokens, call_phrase, arguments, phrase_within, phrase_of}
use Rattle.rule_phrases.proofs.Nesting.{IsPlain, Nested}
use Rattle.rule_phrases.proofs.Nesting as N
use Rattle.rule_phrases.proofs.Outer.{Outer}
use Rattle.rule_phrases.proofs.Outer as O
use Rattle.rule_phrases.proofs.Apart.{rank, NoComma, no_comma}
use Rattle.rule_phrases.proofs.Edges.{Starts, starts}
use Rattle.rule_phrases.proofs.Cuts.{cut, HasOperators, at_expr, at_disj, at_conj, at_comp, at_sum, at_prod, has_operators, closer_is_tighter, no_join, join_at, joins_found}
use Rattle.rule_phrases.proofs.Atoms.{cell_atom, count_atom, call_atom, enclosed_atom, enclosed_found, call_found}

-- ---- the arguments of a call

abbrev parts : ℕ → List Token → List (List Token)
parts n ts = parts_outside (is_mark (codes ",")) (is_mark (codes "(")) (is_mark (codes ")")) n ts

-- tokens before the first of the parts
abbrev onto : List Token → List (List Token) → List (List Token)
onto [] ps = ps
onto (t ∷ ts) ps = onto_first t (onto ts ps)

onto_append : (ts us : List Token) (ps : List (List Token)) → onto (ts ++ us) ps ≡ onto ts (onto us ps)
onto_append [] us ps = refl
onto_append (t ∷ ts) us ps = ap (onto_first t) (onto_append ts us ps)

onto_part : (ts p : List Token) (ps : List (List Token)) → onto ts (p ∷ ps) ≡ (ts ++ p) ∷ ps
onto_part [] p ps = refl
onto_part (t ∷ ts) p ps = ap (onto_first t) (onto_part ts p ps)

never : (b : Bool) → (b && false) ≡ false
never true = refl
never false = refl

not_none : (n : ℕ) → (n + 1 == 0) ≡ false
not_none n = grind (arith, nat_tests)

less : (n : ℕ) → n + 1 - 1 ≡ n
less n = omega arith

plain_open : (n : ℕ) (t : Token) (us : List Token) → IsPlain t → parts (n + 1) (t ∷ us) ≡ onto_first t (parts (n + 1) us)
plain_open n t us p =
    ap (λ b. cond (is_mark (codes ",") t && b) ([] ∷ rest) (onto_first t rest)) (not_none n) ∙ ap (λ b. cond b ([] ∷ rest) (onto_first t rest)) (never (is_mark (codes ",") t))
    ∙ ap (λ m. onto_first t (parts m us)) same
  where
    rest : List (List Token)
    rest = parts (cond (is_mark (codes "(") t) (n + 1 + 1) (cond (is_mark (codes ")") t) (n + 1 - 1) (n + 1))) us

    same : cond (is_mark (codes "(") t) (n + 1 + 1) (cond (is_mark (codes ")") t) (n + 1 - 1) (n + 1)) ≡ n + 1
    same = ap (λ b. cond b (n + 1 + 1) (cond (is_mark (codes ")") t) (n + 1 - 1) (n + 1))) p.opens ∙ ap (λ b. cond b (n + 1 - 1) (n + 1)) p.closes

-- tokens inside parentheses are in one part
open_parts : (ts : List Token) → Nested ts → (n : ℕ) (us : List Token) → parts (n + 1) (ts ++ us) ≡ onto ts (parts (n + 1) us)
open_parts _ N.empty n us = refl
open_parts _ (N.plain {ts} t p h) n us = plain_open n t (ts ++ us) p ∙ ap (onto_first t) (open_parts ts h n us)
open_parts _ (N.around {inner} {rest} h k) n us =
    ap (λ vs. onto_first (mark (codes "(")) (parts (n + 1 + 1) vs)) (append_assoc inner (mark (codes ")") ∷ rest) us)
    ∙ ap (onto_first (mark (codes "(")))
    (open_parts inner h (n + 1) (mark (codes ")") ∷ (rest ++ us))
    ∙ ap (λ m. onto inner (onto_first (mark (codes ")")) (parts m (rest ++ us)))) (less (n + 1))
    ∙ ap (λ ps. onto inner (onto_first (mark (codes ")")) ps)) (open_parts rest k n us) ∙ sym (onto_append inner (mark (codes ")") ∷ rest) (parts (n + 1) us)))

plain_part : (t : Token) (us : List Token) → IsPlain t → is_mark (codes ",") t ≡ false → parts 0 (t ∷ us) ≡ onto_first t (parts 0 us)
plain_part t us p comma =
    ap (λ b. cond (b && true) ([] ∷ rest) (onto_first t rest)) comma ∙ ap (λ m. onto_first t (parts m us)) same
  where
    rest : List (List Token)
    rest = parts (cond (is_mark (codes "(") t) 1 (cond (is_mark (codes ")") t) 0 0)) us

    inner : Bool → ℕ
    inner b = cond b 0 0

    outer : Bool → ℕ
    outer b = cond b 1 (inner (is_mark (codes ")") t))

    zero_both : (b : Bool) → inner b ≡ zero
    zero_both true = refl
    zero_both false = refl

    same : outer (is_mark (codes "(") t) ≡ zero
    same = ap outer p.opens ∙ zero_both (is_mark (codes ")") t)

-- tokens without commas outside parentheses are in one part
closed_parts : (o : Option Token) (ts : List Token) → Outer NoComma o ts → (us : List Token) → parts 0 (ts ++ us) ≡ onto ts (parts 0 us)
closed_parts o _ O.empty us = refl
closed_parts _ _ (O.plain {o} {ts} t p q h) us = plain_part t (ts ++ us) p q ∙ ap (onto_first t) (closed_parts (Some t) ts h us)
closed_parts _ _ (O.around {o} {inner} {rest} q all h k) us =
    ap (λ vs. onto_first (mark (codes "(")) (parts 1 vs)) (append_assoc inner (mark (codes ")") ∷ rest) us)
    ∙ ap (onto_first (mark (codes "(")))
    (open_parts inner h 0 (mark (codes ")") ∷ (rest ++ us))
    ∙ ap (λ ps. onto inner (onto_first (mark (codes ")")) ps)) (closed_parts (Some (mark (codes ")"))) rest k us) ∙ sym (onto_append inner (mark (codes ")") ∷ rest) (parts 0 us)))

phrase_parts : (ts : List Token) (x : Phrase) → IsPhrase expr ts x → (us : List Token) → parts 0 (ts ++ us) ≡ onto ts (parts 0 us)
phrase_parts ts x p us = closed_parts None ts ((no_comma expr ts x p).outer tt None tt) us

last_argument : (ts : List Token) (x : Phrase) → IsPhrase expr ts x → arguments ts ≡ ts ∷ []
last_argument ts x p = sym (ap (parts 0) (append-nil ts)) ∙ phrase_parts ts x p [] ∙ onto_part ts [] [] ∙ ap (λ us. us ∷ []) (append-nil ts)

more_arguments : (ts us : List Token) (x : Phrase) → IsPhrase expr ts x → arguments (ts ++ mark (codes ",") ∷ us) ≡ ts ∷ arguments us
more_arguments ts us x p = phrase_parts ts x p (mark (codes ",") ∷ us) ∙ onto_part ts [] (parts 0 us) ∙ ap (λ vs. vs ∷ parts 0 us) (append-nil ts)

-- ---- steps

unfold_level : (l : Level) → HasOperators l → (m : ℕ) (ts : List Token) → phrase_within (suc m) l ts ≡ elim (last_join l ts) [ None ↦ phrase_within m (tighter l) ts | Some c ↦ both (operator_in l c.at) (phrase_within m (left_of l) c.before) (phrase_within m (tighter l) c.after) ]
unfold_level _ at_expr m ts = refl
unfold_level _ at_disj m ts = refl
unfold_level _ at_conj m ts = refl
unfold_level _ at_comp m ts = refl
unfold_level _ at_sum m ts = refl
unfold_level _ at_prod m ts = refl

by_level : (l : Level) → HasOperators l → (m : ℕ) (ts : List Token) (o : Option Cut) → last_join l ts ≡ o → phrase_within (suc m) l ts ≡ elim o [ None ↦ phrase_within m (tighter l) ts | Some c ↦ both (operator_in l c.at) (phrase_within m (left_of l) c.before) (phrase_within m (tighter l) c.after) ]
by_level l h m ts o e =
    unfold_level l h m ts
    ∙ ap (λ p. elim p [ None ↦ phrase_within m (tighter l) ts | Some c ↦ both (operator_in l c.at) (phrase_within m (left_of l) c.before) (phrase_within m (tighter l) c.after) ]) e

tight_level : (l : Level) → HasOperators l → (m : ℕ) (ts : List Token) (x : Phrase) → IsPhrase (tighter l) ts x → phrase_within m (tighter l) ts ≡ Some x → phrase_within (suc m) l ts ≡ Some x
tight_level l h m ts x p e = by_level l h m ts None (no_join l (tighter l) ts x (closer_is_tighter l h) p) ∙ e

joined_level : (l : Level) (m : ℕ) (ts us : List Token) (t : Token) (b : Binary) (x y : Phrase) → IsPhrase (left_of l) ts x → Joins l t b → IsPhrase (tighter l) us y → phrase_within m (left_of l) ts ≡ Some x → phrase_within m (tighter l) us ≡ Some y → phrase_within (suc m) l (ts ++ t ∷ us) ≡ Some (P.two b x y)
joined_level l m ts us t b x y p j q d e =
    by_level l (has_operators l t b j) m (ts ++ t ∷ us) (Some (cut ts t us)) (join_at l ts us t b x y p j q)
    ∙ ap (λ o. both o (phrase_within m (left_of l) ts) (phrase_within m (tighter l) us)) (joins_found l t b j)
    ∙ ap (λ o. both (Some b) o (phrase_within m (tighter l) us)) d ∙ ap (both (Some b) (Some x)) e

not_absent : (ts : List Token) → Starts comp ts → after_not ts ≡ None
not_absent ts s = ap after_not s.are ∙ ap (λ b. then_some b s.rest) (s.no_not (omega arith))

sign_absent : (ts : List Token) → Starts primary ts → after_sign ts ≡ None
sign_absent ts s =
    ap after_sign s.are ∙ ap (λ b. cond b (Some (Plus, s.rest)) (then_some (is_mark (codes "-") s.first) (Minus, s.rest))) (s.no_plus (omega arith))
    ∙ ap (λ b. then_some b (Minus, s.rest)) (s.no_minus (omega arith))

at_atom : (m : ℕ) (ts : List Token) (x : Phrase) → atom ts ≡ Some x → phrase_within (suc m) primary ts ≡ Some x
at_atom m ts x e =
    ap (λ o. option_or o (elim (enclosed_tokens ts) [ None ↦ None | Some e ↦ elim e.function [ None ↦ phrase_within m expr e.inner | Some f ↦ call_phrase f (all_there (map (phrase_within m expr) (arguments e.inner))) ] ])) e

at_enclosed : (m : ℕ) (ts : List Token) (d : Enclosed) → atom ts ≡ None → enclosed_tokens ts ≡ Some d → phrase_within (suc m) primary ts ≡ elim d.function [ None ↦ phrase_within m expr d.inner | Some f ↦ call_phrase f (all_there (map (phrase_within m expr) (arguments d.inner))) ]
at_enclosed m ts d none e =
    ap (λ o. option_or o (elim (enclosed_tokens ts) [ None ↦ None | Some e ↦ elim e.function [ None ↦ phrase_within m expr e.inner | Some f ↦ call_phrase f (all_there (map (phrase_within m expr) (arguments e.inner))) ] ])) none
    ∙ ap (λ o. elim o [ None ↦ None | Some e ↦ elim e.function [ None ↦ phrase_within m expr e.inner | Some f ↦ call_phrase f (all_there (map (phrase_within m expr) (arguments e.inner))) ] ]) e

called_found : (f : Function) (o : Option (List Phrase)) (xs : List Phrase) → o ≡ Some xs → length xs ≡ argument_count f → call_phrase f o ≡ Some (P.call f (phrases xs))
called_found f o xs e n = ap (call_phrase f) e ∙ ap (λ b. then_some b (P.call f (phrases xs))) (same (length xs) (argument_count f) n)
  where
    same : (a b : ℕ) → a ≡ b → (a == b) ≡ true
    same a b h = grind (arith, nat_tests)

rank_most : (l : Level) → rank l ≤ 8
rank_most expr = omega arith
rank_most disj = omega arith
rank_most conj = omega arith
rank_most neg = omega arith
rank_most comp = omega arith
rank_most sum = omega arith
rank_most prod = omega arith
rank_most signed = omega arith
rank_most primary = omega arith

-- ---- phrases

length_joined : (ts us : List Token) (t : Token) → length (ts ++ t ∷ us) ≡ length ts + suc (length us)
length_joined ts us t = length-append ts (t ∷ us)

-- the steps that a phrase of a level takes at most
abbrev pub AreEnough : ℕ → Level → List Token → Type 0
AreEnough n l ts = 9 * length ts + 9 ≤ n + rank l

left_enough : (l : Level) → HasOperators l → (m : ℕ) (ts us : List Token) (t : Token) → AreEnough (suc m) l (ts ++ t ∷ us) → AreEnough m (left_of l) ts
left_enough _ at_expr m ts us t h = omega (arith, length_joined ts us t)
left_enough _ at_disj m ts us t h = omega (arith, length_joined ts us t)
left_enough _ at_conj m ts us t h = omega (arith, length_joined ts us t)
left_enough _ at_comp m ts us t h = omega (arith, length_joined ts us t)
left_enough _ at_sum m ts us t h = omega (arith, length_joined ts us t)
left_enough _ at_prod m ts us t h = omega (arith, length_joined ts us t)

right_enough : (l : Level) → HasOperators l → (m : ℕ) (ts us : List Token) (t : Token) → AreEnough (suc m) l (ts ++ t ∷ us) → AreEnough m (tighter l) us
right_enough _ at_expr m ts us t h = omega (arith, length_joined ts us t)
right_enough _ at_disj m ts us t h = omega (arith, length_joined ts us t)
right_enough _ at_conj m ts us t h = omega (arith, length_joined ts us t)
right_enough _ at_comp m ts us t h = omega (arith, length_joined ts us t)
right_enough _ at_sum m ts us t h = omega (arith, length_joined ts us t)
right_enough _ at_prod m ts us t h = omega (arith, length_joined ts us t)

closer_enough : (l : Level) → HasOperators l → (m : ℕ) (ts : List Token) → AreEnough (suc m) l ts → AreEnough m (tighter l) ts
closer_enough _ at_expr m ts h = omega arith
closer_enough _ at_disj m ts h = omega arith
closer_enough _ at_conj m ts h = omega arith
closer_enough _ at_comp m ts h = omega arith
closer_enough _ at_sum m ts h = omega arith
closer_enough _ at_prod m ts h = omega arith

no_steps : (l : Level) (ts : List Token) → AreEnough 0 l ts → ⊥
no_steps l ts h = let most : rank l ≤ 8 = rank_most l in absurd (omega arith)

abbrev Finds : Level → List Token → Phrase → Type 0
Finds l ts x = (n : ℕ) → AreEnough n l ts → phrase_within n l ts ≡ Some x

found_tight : (l : Level) (ts : List Token) (x : Phrase) → IsPhrase (tighter l) ts x → Finds (tighter l) ts x → Finds l ts x
found_tight l ts x p f zero h = absurd (no_steps l ts h)
found_tight expr ts x p f (suc m) h = tight_level expr at_expr m ts x p (f m (closer_enough expr at_expr m ts h))
found_tight disj ts x p f (suc m) h = tight_level disj at_disj m ts x p (f m (closer_enough disj at_disj m ts h))
found_tight conj ts x p f (suc m) h = tight_level conj at_conj m ts x p (f m (closer_enough conj at_conj m ts h))
found_tight comp ts x p f (suc m) h = tight_level comp at_comp m ts x p (f m (closer_enough comp at_comp m ts h))
found_tight sum ts x p f (suc m) h = tight_level sum at_sum m ts x p (f m (closer_enough sum at_sum m ts h))
found_tight prod ts x p f (suc m) h = tight_level prod at_prod m ts x p (f m (closer_enough prod at_prod m ts h))
found_tight neg ts x p f (suc m) h =
    ap (λ o. elim o [ None ↦ phrase_within m comp ts | Some us ↦ option_map (P.one Not) (phrase_within m neg us) ]) (not_absent ts (starts comp ts x p))
    ∙ f m (omega arith)
found_tight signed ts x p f (suc m) h =
    ap (λ o. elim o [ None ↦ phrase_within m primary ts | Some s ↦ option_map (P.one s.0) (phrase_within m signed s.1) ]) (sign_absent ts (starts primary ts x p))
    ∙ f m (omega arith)
found_tight primary ts x p f (suc m) h = f (suc m) h

found_joined : (l : Level) (ts us : List Token) (t : Token) (b : Binary) (x y : Phrase) → IsPhrase (left_of l) ts x → Joins l t b → IsPhrase (tighter l) us y → Finds (left_of l) ts x → Finds (tighter l) us y → Finds l (ts ++ t ∷ us) (P.two b x y)
found_joined l ts us t b x y p j q f g zero h = absurd (no_steps l (ts ++ t ∷ us) h)
found_joined l ts us t b x y p j q f g (suc m) h =
    joined_level l m ts us t b x y p j q (f m (left_enough l (has_operators l t b j) m ts us t h)) (g m (right_enough l (has_operators l t b j) m ts us t h))

found_one : (l : Level) (t : Token) (ts : List Token) (u : Unary) (x : Phrase) → ((m : ℕ) → phrase_within (suc m) l (t ∷ ts) ≡ option_map (P.one u) (phrase_within m l ts)) → Finds l ts x → Finds l (t ∷ ts) (P.one u x)
found_one l t ts u x step f zero h = absurd (no_steps l (t ∷ ts) h)
found_one l t ts u x step f (suc m) h = step m ∙ ap (option_map (P.one u)) (f m (omega arith))

found_atom : (ts : List Token) (x : Phrase) → atom ts ≡ Some x → Finds primary ts x
found_atom ts x e zero h = absurd (no_steps primary ts h)
found_atom ts x e (suc m) h = at_atom m ts x e

found_enclosed : (ts : List Token) (x : Phrase) → IsPhrase expr ts x → Finds expr ts x → Finds primary (mark (codes "(") ∷ ts ++ mark (codes ")") ∷ []) x
found_enclosed ts x p f zero h = absurd (no_steps primary (mark (codes "(") ∷ ts ++ mark (codes ")") ∷ []) h)
found_enclosed ts x p f (suc m) h =
    at_enclosed m (mark (codes "(") ∷ ts ++ mark (codes ")") ∷ []) (record { function = None; inner = ts }) (enclosed_atom ts x p) (enclosed_found ts)
    ∙ f m (omega (arith, length_joined ts [] (mark (codes ")"))))

-- a list of phrases, each found in so many steps
abbrev FindsAll : List Token → List Phrase → Type 0
FindsAll ts xs = (n : ℕ) → 9 * length ts + 9 ≤ n → all_there (map (phrase_within n expr) (arguments ts)) ≡ Some xs

call_is_no_atom : (w : Bytes) (f : Function) (ts : List Token) → looked_up functions w ≡ Some f → atom (word w ∷ mark (codes "(") ∷ ts ++ mark (codes ")") ∷ []) ≡ None
call_is_no_atom w f [] e = call_atom w f (mark (codes ")")) [] e
call_is_no_atom w f (t ∷ ts) e = call_atom w f t (ts ++ mark (codes ")") ∷ []) e

found_call : (w : Bytes) (f : Function) (ts : List Token) (xs : List Phrase) → looked_up functions w ≡ Some f → length xs ≡ argument_count f → FindsAll ts xs → Finds primary (word w ∷ mark (codes "(") ∷ ts ++ mark (codes ")") ∷ []) (P.call f (phrases xs))
found_call w f ts xs e n g zero h = absurd (no_steps primary (word w ∷ mark (codes "(") ∷ ts ++ mark (codes ")") ∷ []) h)
found_call w f ts xs e n g (suc m) h =
    at_enclosed m (word w ∷ mark (codes "(") ∷ ts ++ mark (codes ")") ∷ []) (record { function = Some f; inner = ts }) (call_is_no_atom w f ts e) (call_found w f ts e)
    ∙ called_found f (all_there (map (phrase_within m expr) (arguments ts))) xs (g m (omega (arith, length_joined ts [] (mark (codes ")"))))) n

found_last : (ts : List Token) (x : Phrase) → IsPhrase expr ts x → Finds expr ts x → FindsAll ts (x ∷ [])
found_last ts x p f n h =
    ap (λ us. all_there (map (phrase_within n expr) us)) (last_argument ts x p) ∙ ap (λ o. all_there (o ∷ [])) (f n (omega arith))

found_more : (ts us : List Token) (x : Phrase) (xs : List Phrase) → IsPhrase expr ts x → Finds expr ts x → FindsAll us xs → FindsAll (ts ++ mark (codes ",") ∷ us) (x ∷ xs)
found_more ts us x xs p f g n h =
    ap (λ vs. all_there (map (phrase_within n expr) vs)) (more_arguments ts us x p)
    ∙ ap (λ o. all_there (o ∷ map (phrase_within n expr) (arguments us))) (f n (omega (arith, length_joined ts us (mark (codes ",")))))
    ∙ ap (in_front (Some x)) (g n (omega (arith, length_joined ts us (mark (codes ",")))))

mutual
  pub found : (l : Level) (ts : List Token) (x : Phrase) → IsPhrase l ts x → (n : ℕ) → AreEnough n l ts → phrase_within n l ts ≡ Some x
  found _ _ _ (G.tight {l} {ts} {a} p) = found_tight l ts a p (found (tighter l) ts a p)
  found _ _ _ (G.joined {l} {ts} {us} t {b} {x} {y} p j q) = found_joined l ts us t b x y p j q (found (left_of l) ts x p) (found (tighter l) us y q)
  found _ _ _ (G.negated {ts} {x} p) = found_one neg (word (codes "not")) ts Not x (λ m. refl) (found neg ts x p)
  found _ _ _ (IsPhrase.plus {ts} {x} p) = found_one signed (mark (codes "+")) ts Plus x (λ m. refl) (found signed ts x p)
  found _ _ _ (IsPhrase.minus {ts} {x} p) = found_one signed (mark (codes "-")) ts Minus x (λ m. refl) (found signed ts x p)
  found _ _ _ (G.numeral {text} {n} e) = found_atom (number text ∷ []) (P.value (Num n)) (ap (option_map (λ n. P.value (Num n))) e)
  found _ _ _ G.unknown = found_atom (mark (codes "?") ∷ []) (P.value Undefined) refl
  found _ _ _ IsPhrase.true = found_atom (word (codes "t") ∷ []) (P.truth True) refl
  found _ _ _ IsPhrase.false = found_atom (word (codes "f") ∷ []) (P.truth False) refl
  found _ _ _ (G.cell {ts} {c} p) = found_atom ts (P.cell c) (cell_atom ts c p)
  found _ _ _ (G.variable {w}) = found_atom (mark (codes "$") ∷ word w ∷ []) (P.variable w) refl
  found _ _ _ (G.enclosed {ts} {x} p) = found_enclosed ts x p (found expr ts x p)
  found _ _ _ G.time = found_atom (word (codes "time") ∷ []) P.now refl
  found _ _ _ (G.counted {w} {c} e) = found_atom (word w ∷ []) (P.counted c) (count_atom w c e)
  found _ _ _ G.port_value = found_atom (word (codes "portvalue") ∷ mark (codes "(") ∷ word (codes "thisport") ∷ mark (codes ")") ∷ []) P.port_value refl
  found _ _ _ (G.call {w} {f} {ts} {xs} e p n) = found_call w f ts xs e n (found_all ts xs p)

  found_all : (ts : List Token) (xs : List Phrase) → IsList ts xs → FindsAll ts xs
  found_all _ _ (IsList.last {ts} {x} p) = found_last ts x p (found expr ts x p)
  found_all _ _ (IsList.more {ts} {us} {x} {xs} p q) = found_more ts us x xs p (found expr ts x p) (found_all us xs q)

-- the phrase of the grammar is the one that is found
pub phrase_found : (ts : List Token) (x : Phrase) → IsPhrase expr ts x → phrase_of ts ≡ Some x
phrase_found ts x p = found expr ts x p (9 * length ts + 9) (omega arith)
