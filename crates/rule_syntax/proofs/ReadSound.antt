-- A rule that is read is sound for the names that it was read with.
use Rattle.std.proofs.Common.{rules, get_or, ◌≡◌, ℕ, ◌+◌, ◌<◌, ◌≤◌, Bool, true, false, cond, Option, Some, None, List, [], ◌∷◌, ◌++◌, map, length, refl, sym, ap, subst, ◌∙◌, arith}
use Rattle.std.proofs.lemmas.Bool.Decides.{nat_tests}
use Rattle.std.proofs.lemmas.Slice.Eq.{bytes_eq-Decides}
use Rattle.std.proofs.lemmas.List.Folds.{list_any-append}
use Rattle.std.proofs.lemmas.List.Quantifiers.{position-Some}
use Rattle.std.specs.Prelude.{◌&&◌, ◌||◌, ◌==◌, not, nat_lt, nat_le}
use Rattle.std.specs.declared.result.Result.{Result}
use Rattle.std.specs.declared.result.Result.TheVariants.{Ok}
use Rattle.std.specs.List.{list_any, list_all, flat_map, position}
use Rattle.std.specs.Option.{option_map, unwrap_or, is_some, ok_or}
use Rattle.std.specs.Str.{bytes_eq}
use Rattle.quantity.specs.Bytes.{Bytes, is_empty, is_among, has_repeat}
use Rattle.rule_words.specs.declared.refusal.RuleRefusal.{RuleRefusal}
use Rattle.rule_words.specs.declared.refusal.RuleRefusal.TheVariants.{BadRule, BadSort, NotANeighbour, TooLarge, UnknownVariable, UnknownNeighbourPort}
use Rattle.rule_tree.specs.Expression.{Expr, Rule}
use Rattle.rule_tree.specs.Phrases as P
use Rattle.rule_tree.specs.Phrases.{Cell, Phrase, Phrases, Assigned, Written, out}
use Rattle.rule_words.specs.Tokens.{Token, tokens, words_in, is_large}
use Rattle.rule_words.specs.Grammar.{AreAssigned, IsValue, IsRule, a_phrase, a_number as number_value, a_question, a_cell as cell_value, some_gives, rule}
use Rattle.rule_words.specs.Reading.{written_rule}
use Rattle.rule_tree.specs.Scope.{Names, Named, a_cell, a_variable, a_port, offset_of, same_offset, offset_number, variable_number, port_number, named_in, all_named_in, named_by, is_no_neighbour, is_no_variable, is_no_port, numbered, all_numbered, rule_in, has_right_sorts, differ}
use Rattle.rule_tree.specs.Extent.{Extent, extent_of, is_within, are_within, is_sound}
use Rattle.quantity.specs.Written.{for_ok}
use Rattle.rule_words.specs.RuleOf.{words_refused, unless_some, where_true, has_port_twice, rule_if_sound, rule_of_text}
use Rattle.rule_words.proofs.Sound.{false_true, same_bytes}
use Rattle.rule_syntax.proofs.Rules.{rules_are_found}

or_none : (a b : Bool) → (a || b) ≡ false → (a ≡ false) × (b ≡ false)
or_none true b e = absurd (false_true (sym e))
or_none false b e = (refl, e)

and_true : (a b : Bool) → a ≡ true → b ≡ true → (a && b) ≡ true
and_true a b e f = ap (λ c. c && b) e ∙ f

not_false : (b : Bool) → not b ≡ false → b ≡ true
not_false true e = refl
not_false false e = absurd (false_true (sym e))

both_true : (a b : Bool) → (a && b) ≡ true → (a ≡ true) × (b ≡ true)
both_true true b e = (refl, e)
both_true false b e = absurd (false_true e)

is_below : (a b : ℕ) → a < b → nat_lt a b ≡ true
is_below a b h = grind (arith, nat_tests)

is_at_most : (a b : ℕ) → a ≤ b → nat_le a b ≡ true
is_at_most a b h = grind (arith, nat_tests)

-- ---- names that are known

-- each cell is an offset, each variable and each port is one of the group's
pub record Known (names : Names) (ns : List Named) : Type 0 where
  pub cells : list_any (is_no_neighbour names) ns ≡ false
  pub variables : list_any (is_no_variable names) ns ≡ false
  pub ports : list_any (is_no_port names) ns ≡ false

known_parts : (names : Names) (ns ms : List Named) → Known names (ns ++ ms) → Known names ns × Known names ms
known_parts names ns ms k =
    let c = or_none (list_any (is_no_neighbour names) ns) (list_any (is_no_neighbour names) ms) (sym (list_any-append (is_no_neighbour names) ns ms) ∙ k.cells) in
    let v = or_none (list_any (is_no_variable names) ns) (list_any (is_no_variable names) ms) (sym (list_any-append (is_no_variable names) ns ms) ∙ k.variables) in
    let p = or_none (list_any (is_no_port names) ns) (list_any (is_no_port names) ms) (sym (list_any-append (is_no_port names) ns ms) ∙ k.ports) in
    (record { cells = c.0; variables = v.0; ports = p.0 }, record { cells = c.1; variables = v.1; ports = p.1 })

known_first : (names : Names) (n : Named) (ns : List Named) → Known names (n ∷ ns) → Known names (n ∷ []) × Known names ns
known_first names n ns k = known_parts names (n ∷ []) ns k

alone : (b : Bool) → (b || false) ≡ false → b ≡ false
alone true e = e
alone false e = refl

-- ---- numbers of names

found_below : {A : Type 0} (p : A → Bool) (xs : List A) (d : A) (k : ℕ) → position p xs ≡ Some k → k < length xs
found_below p xs d k e = (position-Some p xs k d e).0

offset_below : (names : Names) (c : Cell) (rest : List Named) → Known names (a_cell c ∷ rest) → nat_lt (unwrap_or (offset_number names c.place) 0) (length names.offsets) ≡ true
offset_below names c rest k =
    let here = alone (is_no_neighbour names (a_cell c)) (known_first names (a_cell c) rest k).0.cells in
    go (offset_number names c.place) refl (both_true (length c.place == names.dims) (is_some (offset_number names c.place)) (not_false ((length c.place == names.dims) && is_some (offset_number names c.place)) here)).1
  where
    go : (o : Option ℕ) → offset_number names c.place ≡ o → is_some o ≡ true → nat_lt (unwrap_or o 0) (length names.offsets) ≡ true
    go None e h = absurd (false_true h)
    go (Some i) e h = is_below i (length names.offsets) (found_below (same_offset (offset_of c.place)) names.offsets (offset_of []) i e)

variable_below : (names : Names) (w : Bytes) (rest : List Named) → Known names (a_variable w ∷ rest) → nat_lt (unwrap_or (variable_number names w) 0) (length names.variables) ≡ true
variable_below names w rest k =
    go (variable_number names w) refl (not_false (is_some (variable_number names w)) (alone (is_no_variable names (a_variable w)) (known_first names (a_variable w) rest k).0.variables))
  where
    go : (o : Option ℕ) → variable_number names w ≡ o → is_some o ≡ true → nat_lt (unwrap_or o 0) (length names.variables) ≡ true
    go None e h = absurd (false_true h)
    go (Some i) e h = is_below i (length names.variables) (found_below (bytes_eq w) names.variables [] i e)

port_at_most : (names : Names) (w : Bytes) (rest : List Named) → Known names (a_port w ∷ rest) → nat_le (unwrap_or (port_number names w) 0) (length names.ports) ≡ true
port_at_most names w rest k =
    by_out (bytes_eq w out) (not_false (is_some (port_number names w)) (alone (is_no_port names (a_port w)) (known_first names (a_port w) rest k).0.ports))
  where
    others : (o : Option ℕ) → position (bytes_eq w) names.ports ≡ o → is_some (option_map (λ i. i + 1) o) ≡ true → nat_le (unwrap_or (option_map (λ i. i + 1) o) 0) (length names.ports) ≡ true
    others None e h = absurd (false_true h)
    others (Some i) e h =
        let below : i < length names.ports = found_below (bytes_eq w) names.ports [] i e in
        is_at_most (i + 1) (length names.ports) (omega arith)

    by_out : (b : Bool) → is_some (cond b (Some 0) (option_map (λ i. i + 1) (position (bytes_eq w) names.ports))) ≡ true → nat_le (unwrap_or (cond b (Some 0) (option_map (λ i. i + 1) (position (bytes_eq w) names.ports))) 0) (length names.ports) ≡ true
    by_out true h = is_at_most 0 (length names.ports) (omega arith)
    by_out false h = others (position (bytes_eq w) names.ports) refl h

-- ---- phrases

mutual
  pub phrase_within : (names : Names) (x : Phrase) → Known names (named_in x) → is_within (extent_of names) (numbered names x) ≡ true
  phrase_within names (P.value v) k = refl
  phrase_within names (P.truth t) k = refl
  phrase_within names (P.cell c) k =
      and_true (nat_lt (unwrap_or (offset_number names c.place) 0) (length names.offsets)) (nat_le (unwrap_or (port_number names c.port) 0) (length names.ports))
      (offset_below names c (a_port c.port ∷ []) k) (port_at_most names c.port [] (known_first names (a_cell c) (a_port c.port ∷ []) k).1)
  phrase_within names (P.variable w) k = variable_below names w [] k
  phrase_within names P.now k = refl
  phrase_within names P.port_value k = refl
  phrase_within names (P.counted c) k = refl
  phrase_within names (P.one u x) k = phrase_within names x k
  phrase_within names (P.two b x y) k =
      let parts = known_parts names (named_in x) (named_in y) k in
      and_true (is_within (extent_of names) (numbered names x)) (is_within (extent_of names) (numbered names y)) (phrase_within names x parts.0) (phrase_within names y parts.1)
  phrase_within names (P.call f xs) k = phrases_within names xs k

  phrases_within : (names : Names) (xs : Phrases) → Known names (all_named_in xs) → are_within (extent_of names) (all_numbered names xs) ≡ true
  phrases_within names P.nil k = refl
  phrases_within names (P.cons x xs) k =
      let parts = known_parts names (named_in x) (all_named_in xs) k in
      and_true (is_within (extent_of names) (numbered names x)) (are_within (extent_of names) (all_numbered names xs)) (phrase_within names x parts.0) (phrases_within names xs parts.1)

-- ---- gives and sets

abbrev give_of : Names → Assigned → ℕ × Expr
give_of names g = (unwrap_or (port_number names g.name) 0, numbered names g.phrase)

abbrev set_of : Names → Assigned → ℕ × Expr
set_of names x = (unwrap_or (variable_number names x.name) 0, numbered names x.phrase)

gives_within : (names : Names) (gs : List Assigned) → Known names (flat_map (λ (g : Assigned). a_port g.name ∷ named_in g.phrase) gs) → list_all (λ (g : ℕ × Expr). nat_le g.0 (length names.ports) && is_within (extent_of names) g.1) (map (give_of names) gs) ≡ true
gives_within names [] k = refl
gives_within names (g ∷ gs) k =
    let parts = known_parts names (a_port g.name ∷ named_in g.phrase) (flat_map (λ (h : Assigned). a_port h.name ∷ named_in h.phrase) gs) k in
    and_true (nat_le (unwrap_or (port_number names g.name) 0) (length names.ports) && is_within (extent_of names) (numbered names g.phrase))
    (list_all (λ (h : ℕ × Expr). nat_le h.0 (length names.ports) && is_within (extent_of names) h.1) (map (give_of names) gs))
    (and_true (nat_le (unwrap_or (port_number names g.name) 0) (length names.ports)) (is_within (extent_of names) (numbered names g.phrase))
    (port_at_most names g.name (named_in g.phrase) parts.0) (phrase_within names g.phrase (known_first names (a_port g.name) (named_in g.phrase) parts.0).1))
    (gives_within names gs parts.1)

sets_within : (names : Names) (xs : List Assigned) → Known names (flat_map (λ (s : Assigned). a_variable s.name ∷ named_in s.phrase) xs) → list_all (λ (s : ℕ × Expr). nat_lt s.0 (length names.variables) && is_within (extent_of names) s.1) (map (set_of names) xs) ≡ true
sets_within names [] k = refl
sets_within names (x ∷ xs) k =
    let parts = known_parts names (a_variable x.name ∷ named_in x.phrase) (flat_map (λ (h : Assigned). a_variable h.name ∷ named_in h.phrase) xs) k in
    and_true (nat_lt (unwrap_or (variable_number names x.name) 0) (length names.variables) && is_within (extent_of names) (numbered names x.phrase))
    (list_all (λ (h : ℕ × Expr). nat_lt h.0 (length names.variables) && is_within (extent_of names) h.1) (map (set_of names) xs))
    (and_true (nat_lt (unwrap_or (variable_number names x.name) 0) (length names.variables)) (is_within (extent_of names) (numbered names x.phrase))
    (variable_below names x.name (named_in x.phrase) parts.0) (phrase_within names x.phrase (known_first names (a_variable x.name) (named_in x.phrase) parts.0).1))
    (sets_within names xs parts.1)

-- ---- ports given once

-- the number of a port that is out, or is one of the others
abbrev port_by : Names → Bool → Bytes → Option ℕ
port_by names b u = cond b (Some 0) (option_map (λ i. i + 1) (position (bytes_eq u) names.ports))

-- two known ports of one number are one word
one_port : (names : Names) (v w : Bytes) → is_some (port_number names v) ≡ true → is_some (port_number names w) ≡ true → unwrap_or (port_number names v) 0 ≡ unwrap_or (port_number names w) 0 → v ≡ w
one_port names v w = by_out (bytes_eq v out) (bytes_eq w out) refl refl
  where
    found : (u : Bytes) (i : ℕ) → position (bytes_eq u) names.ports ≡ Some i → u ≡ get_or names.ports i []
    found u i e = same_bytes u (get_or names.ports i []) (position-Some (bytes_eq u) names.ports i [] e).1

    others : (o p : Option ℕ) → position (bytes_eq v) names.ports ≡ o → position (bytes_eq w) names.ports ≡ p → is_some (option_map (λ i. i + 1) o) ≡ true → is_some (option_map (λ i. i + 1) p) ≡ true → unwrap_or (option_map (λ i. i + 1) o) 0 ≡ unwrap_or (option_map (λ i. i + 1) p) 0 → v ≡ w
    others None p e f a b same = absurd (false_true a)
    others (Some i) None e f a b same = absurd (false_true b)
    others (Some i) (Some j) e f a b same =
        let one : j ≡ i = omega arith in
        found v i e ∙ sym (ap (λ k. get_or names.ports k []) one) ∙ sym (found w j f)

    mixed : (o : Option ℕ) → is_some (option_map (λ i. i + 1) o) ≡ true → ◌≡◌ {A = ℕ} 0 (unwrap_or (option_map (λ i. i + 1) o) 0) → ⊥
    mixed None a same = false_true a
    mixed (Some i) a same = absurd (omega arith)

    by_out : (b c : Bool) → bytes_eq v out ≡ b → bytes_eq w out ≡ c → is_some (port_by names b v) ≡ true → is_some (port_by names c w) ≡ true → unwrap_or (port_by names b v) 0 ≡ unwrap_or (port_by names c w) 0 → v ≡ w
    by_out true true p q a b same = same_bytes v out p ∙ sym (same_bytes w out q)
    by_out true false p q a b same = absurd (mixed (position (bytes_eq w) names.ports) b same)
    by_out false true p q a b same = absurd (mixed (position (bytes_eq v) names.ports) a (sym same))
    by_out false false p q a b same = others (position (bytes_eq v) names.ports) (position (bytes_eq w) names.ports) refl refl a b same

known_port : (names : Names) (w : Bytes) (rest : List Named) → Known names (a_port w ∷ rest) → is_some (port_number names w) ≡ true
known_port names w rest k = not_false (is_some (port_number names w)) (alone (is_no_port names (a_port w)) (known_first names (a_port w) rest k).0.ports)

same_bytes_eq : (v w : Bytes) → v ≡ w → bytes_eq v w ≡ true
same_bytes_eq v w e = search (rules, bytes_eq-Decides)

abbrev names_in : List Assigned → List Named
names_in gs = flat_map (λ (g : Assigned). a_port g.name ∷ named_in g.phrase) gs

-- a port that isn't among others has another number than they
absent_number : (names : Names) (w : Bytes) (gs : List Assigned) → is_some (port_number names w) ≡ true → Known names (names_in gs) → is_among (map (λ (g : Assigned). g.name) gs) w ≡ false → list_any (λ j. j == unwrap_or (port_number names w) 0) (map (λ (g : ℕ × Expr). g.0) (map (give_of names) gs)) ≡ false
absent_number names w [] known k e = refl
absent_number names w (g ∷ gs) known k e =
    let parts = known_parts names (a_port g.name ∷ named_in g.phrase) (names_in gs) k in
    let none = or_none (bytes_eq w g.name) (is_among (map (λ (h : Assigned). h.name) gs) w) e in
    neither (unwrap_or (port_number names g.name) 0 == unwrap_or (port_number names w) 0) refl (known_port names g.name (named_in g.phrase) parts.0) none.0 (absent_number names w gs known parts.1 none.1)
  where
    later : Bool
    later = list_any (λ j. j == unwrap_or (port_number names w) 0) (map (λ (h : ℕ × Expr). h.0) (map (give_of names) gs))

    number_same : (a b : ℕ) → (a == b) ≡ true → a ≡ b
    number_same a b h = grind (arith, nat_tests)

    neither : (b : Bool) → (unwrap_or (port_number names g.name) 0 == unwrap_or (port_number names w) 0) ≡ b → is_some (port_number names g.name) ≡ true → bytes_eq w g.name ≡ false → later ≡ false → (b || later) ≡ false
    neither true same other differs rest =
        let one : g.name ≡ w = one_port names g.name w other known (number_same (unwrap_or (port_number names g.name) 0) (unwrap_or (port_number names w) 0) same) in
        absurd (false_true (sym differs ∙ same_bytes_eq w g.name (sym one)))
    neither false same other differs rest = rest

ports_differ : (names : Names) (gs : List Assigned) → Known names (names_in gs) → has_repeat (map (λ (g : Assigned). g.name) gs) ≡ false → differ (map (λ (g : ℕ × Expr). g.0) (map (give_of names) gs)) ≡ true
ports_differ names [] k e = refl
ports_differ names (g ∷ gs) k e =
    let parts = known_parts names (a_port g.name ∷ named_in g.phrase) (names_in gs) k in
    let none = or_none (is_among (map (λ (h : Assigned). h.name) gs) g.name) (has_repeat (map (λ (h : Assigned). h.name) gs)) e in
    ap (λ b. not b && differ (map (λ (h : ℕ × Expr). h.0) (map (give_of names) gs)))
    (absent_number names g.name gs (known_port names g.name (named_in g.phrase) parts.0) parts.1 none.0)
    ∙ ports_differ names gs parts.1 none.1

-- ---- rules

some_given : (vs : List Token) (gives : List Assigned) → IsValue vs gives → is_empty gives ≡ false
some_given _ _ (a_phrase p) = refl
some_given _ _ (number_value n) = refl
some_given _ _ a_question = refl
some_given _ _ (cell_value c) = refl
some_given _ _ (some_gives h) = assigned_some h
  where
    assigned_some : {kind : Bytes} {ts : List Token} {xs : List Assigned} → AreAssigned kind ts xs → is_empty xs ≡ false
    assigned_some (AreAssigned.last p) = refl
    assigned_some (AreAssigned.more p q) = refl

rule_gives : (ts : List Token) (w : Written) → IsRule ts w → is_empty w.gives ≡ false
rule_gives _ _ (rule {vs} {ss} {ds} {cs} {gives} {sets} {delay} {condition} v s d c) = some_given vs gives v

mapped_some : (names : Names) (gs : List Assigned) → is_empty gs ≡ false → is_empty (map (give_of names) gs) ≡ false
mapped_some names [] e = absurd (false_true (sym e))
mapped_some names (g ∷ gs) e = refl

not_refused : {A : Type 0} (b : Bool) (why : RuleRefusal) (next : Result A RuleRefusal) (x : A) → unless_some (where_true b why) next ≡ Ok x → (b ≡ false) × (next ≡ Ok x)
not_refused true why next x e = cc
not_refused false why next x e = (refl, e)

-- a rule of the grammar that is judged right is sound
judged_sound : (names : Names) (w : Written) (r : Rule) → is_empty w.gives ≡ false → rule_if_sound names w ≡ Ok r → is_sound (extent_of names) r ≡ true
judged_sound names w r some e =
    let twice = not_refused (has_port_twice w) BadRule (unless_some (where_true (list_any (is_no_neighbour names) (named_by w)) NotANeighbour) (unless_some (where_true (list_any (is_no_variable names) (named_by w)) UnknownVariable) (unless_some (where_true (list_any (is_no_port names) (named_by w)) UnknownNeighbourPort) (unless_some (where_true (not (has_right_sorts (length names.offsets) (rule_in names w))) BadSort) (Ok (rule_in names w)))))) r e in
    let cells = not_refused (list_any (is_no_neighbour names) (named_by w)) NotANeighbour (unless_some (where_true (list_any (is_no_variable names) (named_by w)) UnknownVariable) (unless_some (where_true (list_any (is_no_port names) (named_by w)) UnknownNeighbourPort) (unless_some (where_true (not (has_right_sorts (length names.offsets) (rule_in names w))) BadSort) (Ok (rule_in names w))))) r twice.1 in
    let variables = not_refused (list_any (is_no_variable names) (named_by w)) UnknownVariable (unless_some (where_true (list_any (is_no_port names) (named_by w)) UnknownNeighbourPort) (unless_some (where_true (not (has_right_sorts (length names.offsets) (rule_in names w))) BadSort) (Ok (rule_in names w)))) r cells.1 in
    let ports = not_refused (list_any (is_no_port names) (named_by w)) UnknownNeighbourPort (unless_some (where_true (not (has_right_sorts (length names.offsets) (rule_in names w))) BadSort) (Ok (rule_in names w))) r variables.1 in
    let sorts = not_refused (not (has_right_sorts (length names.offsets) (rule_in names w))) BadSort (Ok (rule_in names w)) r ports.1 in
    let same : rule_in names w ≡ r = ok_same (rule_in names w) r sorts.1 in
    subst (λ x. is_sound (extent_of names) x ≡ true) same
    (parts (record { cells = cells.0; variables = variables.0; ports = ports.0 }) twice.0 (not_false (has_right_sorts (length names.offsets) (rule_in names w)) sorts.0))
  where
    ok_same : (x y : Rule) → ◌≡◌ {A = Result Rule RuleRefusal} (Ok x) (Ok y) → x ≡ y
    ok_same x y h = cc

    n : Extent
    n = extent_of names

    gives : List Named
    gives = flat_map (λ (g : Assigned). a_port g.name ∷ named_in g.phrase) w.gives

    sets : List Named
    sets = flat_map (λ (s : Assigned). a_variable s.name ∷ named_in s.phrase) w.sets

    parts : Known names (named_by w) → has_port_twice w ≡ false → has_right_sorts (length names.offsets) (rule_in names w) ≡ true → is_sound n (rule_in names w) ≡ true
    parts k once right =
        let a = known_parts names (gives ++ named_in w.delay ++ named_in w.condition) sets k in
        let b = known_parts names (gives ++ named_in w.delay) (named_in w.condition) a.0 in
        let c = known_parts names gives (named_in w.delay) b.0 in
        seven right (phrase_within names w.delay c.1) (phrase_within names w.condition b.1) (ap not (mapped_some names w.gives some)) (gives_within names w.gives c.0) (ports_differ names w.gives c.0 once) (sets_within names w.sets a.1)
      where
        seven : {p q r s t u v : Bool} → p ≡ true → q ≡ true → r ≡ true → s ≡ true → t ≡ true → u ≡ true → v ≡ true → (p && q && r && s && t && u && v) ≡ true
        seven h1 h2 h3 h4 h5 h6 h7 = rw (h1, h2, h3, h4, h5, h6, h7) refl

-- what a text is read to is sound for the names that it was read with
pub read_sound : (names : Names) (text : Bytes) (r : Rule) → rule_of_text names text ≡ Ok r → is_sound (extent_of names) r ≡ true
unfolding rule_of_text
read_sound names text r e = by_tokens (tokens text) e
  where
    by_rule : (ts : List Token) (o : Option Written) → written_rule ts ≡ o → for_ok (ok_or o BadRule) (rule_if_sound names) ≡ Ok r → is_sound (extent_of names) r ≡ true
    by_rule ts None f h = cc
    by_rule ts (Some w) f h = judged_sound names w r (rule_gives ts w (rules_are_found ts w f)) h

    by_words : (ts : List Token) (o : Option RuleRefusal) → unless_some o (unless_some (where_true (is_large ts) TooLarge) (for_ok (ok_or (written_rule ts) BadRule) (rule_if_sound names))) ≡ Ok r → is_sound (extent_of names) r ≡ true
    by_words ts (Some why) h = cc
    by_words ts None h = by_rule ts (written_rule ts) refl (not_refused (is_large ts) TooLarge (for_ok (ok_or (written_rule ts) BadRule) (rule_if_sound names)) r h).1

    by_tokens : (o : Option (List Token)) → for_ok (ok_or o BadRule) (λ ts. unless_some (words_refused (words_in ts)) (unless_some (where_true (is_large ts) TooLarge) (for_ok (ok_or (written_rule ts) BadRule) (rule_if_sound names)))) ≡ Ok r → is_sound (extent_of names) r ≡ true
    by_tokens None h = cc
    by_tokens (Some ts) h = by_words ts (words_refused (words_in ts)) h
