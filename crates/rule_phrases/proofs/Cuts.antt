-- Where a phrase is cut: at the last operator of its level, where it has one.
use Rattle.std.proofs.Common.{◌≡◌, ◌<◌, ◌≤◌, Bool, true, false, cond, Option, Some, None, List, [], ◌∷◌, ◌++◌, map, refl, sym, ap, ◌∙◌, arith, append-nil}
use Rattle.std.specs.Prelude.{◌&&◌}
use Rattle.std.specs.List.{last_or, filter}
use Rattle.std.specs.Option.{is_some}
use Rattle.rule_tree.specs.declared.node.Binary.{Binary}
use Rattle.rule_words.specs.Tokens.{Token, word, number, mark}
use Rattle.rule_tree.specs.Phrases.{Phrase, Level, expr, disj, conj, neg, comp, sum, prod, signed, primary, tighter, left_of, operator_marks}
use Rattle.rule_words.specs.Grammar.{Joins, IsPhrase}
use Rattle.rule_words.specs.Reading.{Cut, cuts, cut_later, is_closed, ends, ends_operand, operator_in, joins_at, last_join}
use Rattle.rule_phrases.proofs.Nesting.{lookup_all, last_append, nested_closed, plain_closed}
use Rattle.rule_phrases.proofs.Outer.{Outer, outer_at}
use Rattle.rule_phrases.proofs.PhraseTokens.{joins_plain}
use Rattle.rule_phrases.proofs.Apart.{rank, NotJoined, not_joined, no_comma}
use Rattle.rule_phrases.proofs.Edges.{phrase_ends}
use Rattle.rule_words.proofs.Sound.{none_some}

abbrev pub cut : List Token → Token → List Token → Cut
cut before at after = record { before = before; at = at; after = after }

map_map : {A B C : Type 0} (f : B → C) (g : A → B) (xs : List A) → map f (map g xs) ≡ map (λ x. f (g x)) xs
map_map f g [] = refl
map_map f g (x ∷ xs) = ap (λ ys. f (g x) ∷ ys) (map_map f g xs)

map_same : {A : Type 0} (xs : List A) → map (λ x. x) xs ≡ xs
map_same [] = refl
map_same (x ∷ xs) = ap (λ ys. x ∷ ys) (map_same xs)

no_cut_mapped : (p : Cut → Bool) (f : Cut → Cut) (ts : List Token) → ((a : List Token) (v : Token) (c : List Token) → ts ≡ a ++ v ∷ c → p (f (cut a v c)) ≡ false) → filter p (map f (cuts ts)) ≡ []
no_cut_mapped p f [] none = refl
no_cut_mapped p f (t ∷ ts) none =
    ap (λ b. cond b (f (cut [] t ts) ∷ filter p (map f (map (cut_later t) (cuts ts)))) (filter p (map f (map (cut_later t) (cuts ts))))) (none [] t ts refl)
    ∙ ap (filter p) (map_map f (cut_later t) (cuts ts))
    ∙ no_cut_mapped p (λ c. f (cut_later t c)) ts (λ a v c e. none (t ∷ a) v c (ap (λ us. t ∷ us) e))

pub no_cut : (p : Cut → Bool) (ts : List Token) → ((a : List Token) (v : Token) (c : List Token) → ts ≡ a ++ v ∷ c → p (cut a v c) ≡ false) → filter p (cuts ts) ≡ []
no_cut p ts none = sym (ap (filter p) (map_same (cuts ts))) ∙ no_cut_mapped p (λ c. c) ts none

last_cut_mapped : (p : Cut → Bool) (f : Cut → Cut) (ts : List Token) (t : Token) (us : List Token) → p (f (cut ts t us)) ≡ true → ((a : List Token) (v : Token) (c : List Token) → us ≡ a ++ v ∷ c → p (f (cut (ts ++ t ∷ a) v c)) ≡ false) → (o : Option Cut) → last_or o (filter p (map f (cuts (ts ++ t ∷ us)))) ≡ Some (f (cut ts t us))
last_cut_mapped p f [] t us here none o =
    ap (λ b. last_or o (cond b (f (cut [] t us) ∷ filter p (map f (map (cut_later t) (cuts us)))) (filter p (map f (map (cut_later t) (cuts us)))))) here
    ∙ ap (λ cs. last_or (Some (f (cut [] t us))) cs) (ap (filter p) (map_map f (cut_later t) (cuts us)) ∙ no_cut_mapped p (λ c. f (cut_later t c)) us none)
last_cut_mapped p f (x ∷ ts) t us here none o = go (p (f (cut [] x (ts ++ t ∷ us)))) (last_cut_mapped p (λ c. f (cut_later x c)) ts t us here none)
  where
    rest : List Cut
    rest = filter p (map f (map (cut_later x) (cuts (ts ++ t ∷ us))))

    same : rest ≡ filter p (map (λ c. f (cut_later x c)) (cuts (ts ++ t ∷ us)))
    same = ap (filter p) (map_map f (cut_later x) (cuts (ts ++ t ∷ us)))

    go : (b : Bool) → ((o : Option Cut) → last_or o (filter p (map (λ c. f (cut_later x c)) (cuts (ts ++ t ∷ us)))) ≡ Some (f (cut (x ∷ ts) t us))) → last_or o (cond b (f (cut [] x (ts ++ t ∷ us)) ∷ rest) rest) ≡ Some (f (cut (x ∷ ts) t us))
    go true h = ap (last_or (Some (f (cut [] x (ts ++ t ∷ us))))) same ∙ h (Some (f (cut [] x (ts ++ t ∷ us))))
    go false h = ap (last_or o) same ∙ h o

pub last_cut : (p : Cut → Bool) (ts : List Token) (t : Token) (us : List Token) → p (cut ts t us) ≡ true → ((a : List Token) (v : Token) (c : List Token) → us ≡ a ++ v ∷ c → p (cut (ts ++ t ∷ a) v c) ≡ false) → last_or None (filter p (cuts (ts ++ t ∷ us))) ≡ Some (cut ts t us)
last_cut p ts t us here none = sym (ap (λ cs. last_or None (filter p cs)) (map_same (cuts (ts ++ t ∷ us)))) ∙ last_cut_mapped p (λ c. c) ts t us here none None

-- ---- at operators

-- a cut that isn't outside parentheses, isn't behind an operand, or isn't at an operator
not_at : (l : Level) (t : Token) (closed ended : Bool) → (closed ≡ true → ended ≡ true → operator_in l t ≡ None) → (is_some (operator_in l t) && closed && ended) ≡ false
not_at l t true true h = ap (λ o. is_some o && true && true) (h refl refl)
not_at l t true false h = elim (is_some (operator_in l t)) as (λ b. (b && true && false) ≡ false) [ true ↦ refl | false ↦ refl ]
not_at l t false ended h = elim (is_some (operator_in l t)) as (λ b. (b && false && ended) ≡ false) [ true ↦ refl | false ↦ refl ]

-- no operator of a level where only tighter ones stand
pub no_join : (l k : Level) (ts : List Token) (x : Phrase) → rank l < rank k → IsPhrase k ts x → last_join l ts ≡ None
no_join l k ts x h p =
    ap (last_or None) (no_cut (joins_at l) ts (λ a v c e. not_at l v (is_closed 0 a) (ends_operand (last_or None a))
    (λ closed ended. outer_at (NotJoined l) None ts (not_joined l k ts x h p None (λ m. refl)) a v c e closed ended)))

pub joins_found : (l : Level) (t : Token) (b : Binary) → Joins l t b → operator_in l t ≡ Some b
joins_found l (word w) b j = j
joins_found l (number n) b j = absurd j
joins_found l (mark m) b j = j

-- levels with operators
pub data HasOperators : Level → Type 0 where
  at_expr : HasOperators expr
  at_disj : HasOperators disj
  at_conj : HasOperators conj
  at_comp : HasOperators comp
  at_sum : HasOperators sum
  at_prod : HasOperators prod

pub has_operators : (l : Level) (t : Token) (b : Binary) → Joins l t b → HasOperators l
has_operators expr t b j = at_expr
has_operators disj t b j = at_disj
has_operators conj t b j = at_conj
has_operators comp t b j = at_comp
has_operators sum t b j = at_sum
has_operators prod t b j = at_prod
has_operators neg (word w) b j = absurd (none_some j)
has_operators neg (number n) b j = absurd j
has_operators neg (mark m) b j = absurd (none_some j)
has_operators signed (word w) b j = absurd (none_some j)
has_operators signed (number n) b j = absurd j
has_operators signed (mark m) b j = absurd (none_some j)
has_operators primary (word w) b j = absurd (none_some j)
has_operators primary (number n) b j = absurd j
has_operators primary (mark m) b j = absurd (none_some j)

pub closer_is_tighter : (l : Level) → HasOperators l → rank l < rank (tighter l)
closer_is_tighter _ at_expr = omega arith
closer_is_tighter _ at_disj = omega arith
closer_is_tighter _ at_conj = omega arith
closer_is_tighter _ at_comp = omega arith
closer_is_tighter _ at_sum = omega arith
closer_is_tighter _ at_prod = omega arith

-- an operator that is a mark ends no operand
mark_ends_not : (l : Level) (t : Token) (b : Binary) → HasOperators l → Joins l t b → 4 ≤ rank l → ends_operand (Some t) ≡ false
mark_ends_not _ t b at_expr j h = absurd (omega arith)
mark_ends_not _ t b at_disj j h = absurd (omega arith)
mark_ends_not _ t b at_conj j h = absurd (omega arith)
mark_ends_not _ (word w) b at_comp j h = absurd (none_some j)
mark_ends_not _ (number n) b at_comp j h = absurd j
mark_ends_not _ (mark m) b at_comp j h = lookup_all (λ n. ends (mark n) ≡ false) (operator_marks comp) m b (refl, (refl, (refl, (refl, (refl, (refl, tt)))))) j
mark_ends_not _ (word w) b at_sum j h = absurd (none_some j)
mark_ends_not _ (number n) b at_sum j h = absurd j
mark_ends_not _ (mark m) b at_sum j h = lookup_all (λ n. ends (mark n) ≡ false) (operator_marks sum) m b (refl, (refl, tt)) j
mark_ends_not _ (word w) b at_prod j h = absurd (none_some j)
mark_ends_not _ (number n) b at_prod j h = absurd j
mark_ends_not _ (mark m) b at_prod j h = lookup_all (λ n. ends (mark n) ≡ false) (operator_marks prod) m b (refl, (refl, tt)) j

pub join_at : (l : Level) (ts us : List Token) (t : Token) (b : Binary) (x y : Phrase) → IsPhrase (left_of l) ts x → Joins l t b → IsPhrase (tighter l) us y → last_join l (ts ++ t ∷ us) ≡ Some (cut ts t us)
join_at l ts us t b x y p j q = last_cut (joins_at l) ts t us here later
  where
    closed : is_closed 0 ts ≡ true
    closed = sym (ap (is_closed 0) (append-nil ts)) ∙ nested_closed ts (no_comma (left_of l) ts x p).nested 0 []

    here : joins_at l (cut ts t us) ≡ true
    here =
        ap (λ o. is_some o && is_closed 0 ts && ends_operand (last_or None ts)) (joins_found l t b j)
        ∙ ap (λ c. c && ends_operand (last_or None ts)) closed ∙ phrase_ends (left_of l) ts x p None

    outer : Outer (NotJoined l) (Some t) us
    outer = not_joined l (tighter l) us y (closer_is_tighter l (has_operators l t b j)) q (Some t) (mark_ends_not l t b (has_operators l t b j) j)

    still : (a : List Token) → is_closed 0 (ts ++ t ∷ a) ≡ is_closed 0 a
    still a = nested_closed ts (no_comma (left_of l) ts x p).nested 0 (t ∷ a) ∙ plain_closed 0 t a (joins_plain l t b j)

    later : (a : List Token) (v : Token) (c : List Token) → us ≡ a ++ v ∷ c → joins_at l (cut (ts ++ t ∷ a) v c) ≡ false
    later a v c e =
        not_at l v (is_closed 0 (ts ++ t ∷ a)) (ends_operand (last_or None (ts ++ t ∷ a)))
        (λ open_not ended. outer_at (NotJoined l) (Some t) us outer a v c e (sym (still a) ∙ open_not) (sym (ap ends_operand (last_append None ts a t)) ∙ ended))
