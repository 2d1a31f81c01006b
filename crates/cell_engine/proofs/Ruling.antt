-- The rules of a cell and of its ports, as a store finds them.
use Rattle.std.proofs.Common.{◌≡◌, ℕ, zero, suc, ◌+◌, ◌<◌, Bool, true, false, cond, Option, Some, None, List, [], ◌∷◌, map, length, get_or, drop, refl, sym, ◌∙◌, ap, subst, zero-add, arith}
use Rattle.std.specs.Prelude.{not, ◌&&◌, nat_le, nat_lt, slice_get}
use Rattle.std.specs.List.{find, list_all}
use Rattle.std.specs.Option.{option_map, unwrap_or}
use Rattle.std.proofs.lemmas.Bool.{and_parts}
use Rattle.std.proofs.lemmas.List.{drop_more}
use Rattle.std.proofs.lemmas.Option.{unwrap_or-slice_get}
use Rattle.std.proofs.lemmas.List.FromFn.{get_or-map-range_with_len}
use Rattle.quantity.specs.Bytes.{is_empty}
use Rattle.rule_tree.specs.Expression.{Expr, Rule}
use Rattle.rule_tree.specs.Extent.{Extent, is_within, is_sound}
use Rattle.rule_tree.specs.Scope.{differ, has_right_sorts}
use Rattle.cell_grid.specs.Space.{Space, cell_count}
use Rattle.cell_grid.specs.Zones.{zone_of}
use Rattle.cell_reach.specs.Neighbourhoods.{Neighbourhood}
use Rattle.model_tree.specs.declared.group.PortRule.{PortRule}
use Rattle.model_tree.specs.Tree.{Word, Group}
use Rattle.model_tree.specs.Sound.{extent, is_sound_group}
use Rattle.run_model.specs.CellStep.{rule_set, zone_rule_set, cell_rules, port_rules}
use Rattle.cell_engine.specs.Layout.{Layout, set_in, set_of, StandsFor}
use Rattle.cell_engine.specs.Step.{gives_apart, is_for, rules_at}
use Rattle.cell_engine.specs.Store.{IsPlan}
use Rattle.cell_engine.proofs.Planned.{sizes, ruled}

-- ---- sound rules give at different ports

apart_of : (n : Extent) (r : Rule) → is_sound n r ≡ true → gives_apart r ≡ true
apart_of n r h =
    let a = has_right_sorts n.offsets r in
    let b = is_within n r.delay in
    let c = is_within n r.condition in
    let d = not (is_empty r.gives) in
    let e = list_all (λ (g : ℕ × Expr). nat_le g.0 n.ports && is_within n g.1) r.gives in
    let f = differ (map (λ (g : ℕ × Expr). g.0) r.gives) in
    let s = list_all (λ (s : ℕ × Expr). nat_lt s.0 n.variables && is_within n s.1) r.sets in
    (and_parts (a && b && c && d && e) f (and_parts (a && b && c && d && e && f) s h).0).1

all_apart : (n : Extent) (rs : List Rule) → list_all (is_sound n) rs ≡ true → list_all gives_apart rs ≡ true
all_apart n [] h = refl
all_apart n (r ∷ rs) h =
    let both = and_parts (is_sound n r) (list_all (is_sound n) rs) h in
    ap (λ (b : Bool). b && list_all gives_apart rs) (apart_of n r both.0) ∙ all_apart n rs both.1

set_apart : (n : Extent) (sets : List (List Rule)) (k : ℕ) → list_all (λ (rules : List Rule). nat_le (length rules) 1024 && list_all (is_sound n) rules) sets ≡ true
    → list_all gives_apart (unwrap_or (slice_get sets k) []) ≡ true
set_apart n [] k h = refl
set_apart n (rs ∷ sets) zero h =
    let here = (and_parts (nat_le (length rs) 1024 && list_all (is_sound n) rs) (list_all (λ (rules : List Rule). nat_le (length rules) 1024 && list_all (is_sound n) rules) sets) h).0 in
    all_apart n rs (and_parts (nat_le (length rs) 1024) (list_all (is_sound n) rs) here).1
set_apart n (rs ∷ sets) (suc k) h =
    set_apart n sets k (and_parts (nat_le (length rs) 1024 && list_all (is_sound n) rs) (list_all (λ (rules : List Rule). nat_le (length rules) 1024 && list_all (is_sound n) rules) sets) h).1

-- ---- rules by the number of their set

-- rules are these, of which each gives at different ports
pub record AreRules (rules own : List Rule) : Type 0 where
  pub are : rules ≡ own
  pub apart : list_all gives_apart own ≡ true

-- the rules of a set are the group's
pub set_stands : (g : Group) (l : Layout) (k : ℕ) (rules : List Rule) → StandsFor g l → is_sound_group g ≡ true → rules ≡ get_or l.rule_sets k [] → AreRules rules (rule_set g k)
set_stands g l k rules st sound is =
    record {
      are = is ∙ ap (λ (sets : List (List Rule)). get_or sets k []) st.rule_sets ∙ sym (unwrap_or-slice_get g.rule_sets k []);
      apart = set_apart (extent g) g.rule_sets k (ruled g (sizes g sound).rules).sound;
    }

-- what is so of rules that give at different ports is so of the group's
pub of_the_group : (P : List Rule → Type 0) (rules own : List Rule) → AreRules rules own → (list_all gives_apart rules ≡ true → P rules) → P own
of_the_group P rules own same so =
    subst P same.are (so (subst (λ (rs : List Rule). list_all gives_apart rs ≡ true) (sym same.are) same.apart))

-- ---- the rules of a cell

pub cell_rules_are : (g : Group) (i : ℕ) → rule_set g (set_of g i) ≡ cell_rules g i
cell_rules_are g i = by (zone_of g.zones g.space i)
  where
    by : (o : Option ℕ) → rule_set g (set_in g o) ≡ zone_rule_set g o
    by None = refl
    by (Some z) = refl

pub set_is : (g : Group) (l : Layout) (i d : ℕ) → StandsFor g l → i < cell_count l.space → get_or l.sets i d ≡ set_of g i
set_is g l i d st here =
    let inside : i < cell_count g.space = subst (λ (s : Space). i < cell_count s) st.space here in
    ap (λ (ks : List ℕ). get_or ks i d) st.sets ∙ get_or-map-range_with_len (set_of g) 0 (cell_count g.space) i i d inside (zero-add i)

-- the rules of a cell's set are the cell's rules
pub cell_stands : (g : Group) (l : Layout) (i d : ℕ) (rules : List Rule) → StandsFor g l → is_sound_group g ≡ true → i < cell_count l.space → rules ≡ get_or l.rule_sets (get_or l.sets i d) []
    → AreRules rules (cell_rules g i)
cell_stands g l i d rules st sound here is =
    subst (λ (rs : List Rule). AreRules rules rs) (ap (rule_set g) (set_is g l i d st here) ∙ cell_rules_are g i)
    (set_stands g l (get_or l.sets i d) rules st sound is)

-- where there is one set of rules, each cell goes by it
pub only_set : (l : Layout) (n : Neighbourhood) (i : ℕ) → IsPlan l n → length l.rule_sets ≡ 1 → i < cell_count l.space → rules_at l i ≡ get_or l.rule_sets 0 []
only_set l n i plan single here =
    let below : get_or l.sets i 0 < length l.rule_sets = plan.sets i 0 (omega (arith, here, plan.cells)) in
    let first : get_or l.sets i 0 ≡ 0 = omega (arith, below, single) in
    ap (λ (k : ℕ). get_or l.rule_sets k []) first

-- ---- the rules of a port

abbrev pub number_of : PortRule → ℕ
number_of r = r.rules

by_number : (g : Group) (o : Option PortRule) → option_map (λ (r : PortRule). rule_set g r.rules) o ≡ option_map (rule_set g) (option_map number_of o)
by_number g None = refl
by_number g (Some r) = refl

-- the rules for a port, by the number that is found
pub port_rules_are : (g : Group) (l : Layout) (i : ℕ) (port : Word) (found : Option ℕ) → StandsFor g l → found ≡ option_map number_of (find (is_for i port) l.port_rules)
    → port_rules g i port ≡ option_map (rule_set g) found
port_rules_are g l i port found st is =
    by_number g (find (is_for i port) g.port_rules)
    ∙ ap (λ (rs : List PortRule). option_map (rule_set g) (option_map number_of (find (is_for i port) rs))) (sym st.port_rules)
    ∙ ap (option_map (rule_set g)) (sym is)

-- ---- finding

pub find_passes : (test : PortRule → Bool) (rs : List PortRule) (k : ℕ) (d : PortRule) (o : Option PortRule) → k < length rs → test (get_or rs k d) ≡ false
    → o ≡ find test (drop k rs) → o ≡ find test (drop (k + 1) rs)
find_passes test rs k d o lt miss left =
    left ∙ ap (find test) (drop_more rs k d lt) ∙ ap (λ (b : Bool). cond b (Some (get_or rs k d)) (find test (drop (k + 1) rs))) miss

pub find_here : (test : PortRule → Bool) (rs : List PortRule) (k : ℕ) (d : PortRule) (o : Option PortRule) → k < length rs → test (get_or rs k d) ≡ true
    → o ≡ find test (drop k rs) → o ≡ Some (get_or rs k d)
find_here test rs k d o lt hit left =
    left ∙ ap (find test) (drop_more rs k d lt) ∙ ap (λ (b : Bool). cond b (Some (get_or rs k d)) (find test (drop (k + 1) rs))) hit
