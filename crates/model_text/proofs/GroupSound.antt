-- The rule sets and port rules of the groups of an accepted model, and that its groups are sound.
use Rattle.std.proofs.Common.{◌≡◌, ℕ, ◌≤◌, ◌<◌, Bool, true, false, Option, None, Some, List, [], ◌∷◌, ◌++◌, map, length, refl, sym, ap, ◌∙◌, subst, arith, rules}
use Rattle.std.proofs.lemmas.Bool.{and_from, le-leb, eq-eqb, lt-ltb}
use Rattle.std.specs.Prelude.{◌&&◌, ◌==◌, not, nat_le, nat_lt, codes}
use Rattle.std.proofs.lemmas.List.{length-map, length-take, length-drop, append-nil, append_assoc}
use Rattle.std.proofs.lemmas.List.Elements.{filter_map-append}
use Rattle.std.proofs.lemmas.List.Folds.{list_any-append}
use Rattle.std.proofs.lemmas.Bool.Decides.{nat_tests}
use Rattle.std.specs.List.{find, filter, filter_map, cons_option, list_all, list_any, position, flat_map, AllByRecursion}
use Rattle.std.specs.Option.{IfSome, is_some, unwrap_or}
use Rattle.std.specs.Result.{result_ok}
use Rattle.std.specs.Str.{bytes_eq}
use Rattle.quantity.specs.declared.place.Place.{Place}
use Rattle.quantity.specs.Bytes.{Bytes, is_empty}
use Rattle.rule_tree.specs.Expression.{Rule}
use Rattle.rule_tree.specs.Scope.{Names}
use Rattle.rule_tree.specs.Extent.{extent_of, is_sound}
use Rattle.rule_syntax.specs.RuleOf.{rule_of_text}
use Rattle.cell_grid.specs.Space.{Space, cell_count, cell_at_place}
use Rattle.cell_grid.specs.Region.{Region}
use Rattle.source_text.specs.Lines.{Files}
use Rattle.ma_lines.specs.declared.section.Entry.{Entry}
use Rattle.ma_lines.specs.Sections.{Section}
use Rattle.model_tree.specs.declared.group.PortRule.{PortRule}
use Rattle.model_tree.specs.Pull.{distinct}
use Rattle.model_tree.specs.Sound.{extent, same_port_of_cell, places_differ, has_right_names, has_right_rules, is_sound_group}
use Rattle.model_text.specs.Keyed.{section_named, entries_of, Item}
use Rattle.model_text.specs.Keys.{has_key}
use Rattle.model_text.specs.Walk.{groups}
use Rattle.model_text.specs.Spaces as S
use Rattle.model_text.specs.Spaces.{space_of, zones_of, PortPlace, port_place, port_places, is_new_place, ports_refused, of_space}
use Rattle.model_text.specs.Rules.{rule_names_of, item_on_line, rules_named, rule_sets_named, rule_set_number, absent, too_many, rule_refused, of_rules, sections_named, of_group_rules, rules_in, rule_sets_of}
use Rattle.model_text.specs.Trees.{port_rule_of, group_of_section}
use Rattle.model_text.specs.GroupLaws.{RightNames, RightNumbers, NumbersAreRight, GroupsAreSound}
use Rattle.model_text.proofs.Basics.{both_empty, each_empty, each_of_phase, all_imply, both_of_all, all_found, found_of_all, all_pass, all_kept, all_there_long, shorter, differs_back}
use Rattle.model_text.proofs.Values.{values_fit}
use Rattle.model_text.proofs.GroupKeys.{KeyedGroup, groups_keyed}
use Rattle.model_text.proofs.Groups.{space_parts, right_offsets, right_sizes, right_names}
use Rattle.cell_grid.proofs.Places.{inside-from_cell_at, number-inside}
use Rattle.rule_syntax.proofs.ReadSound.{read_sound}

pub all_mapped : {X Y : Type 0} (Q : X → Type 0) (test : Y → Bool) (f : X → Y) → ((x : X) → Q x → test (f x) ≡ true) → (xs : List X) → AllByRecursion Q xs → list_all test (map f xs) ≡ true
all_mapped Q test f each [] h = refl
all_mapped Q test f each (x ∷ xs) h = and_from (test (f x)) (list_all test (map f xs)) (each x h.0) (all_mapped Q test f each xs h.1)

-- ---- the sections named are there, and one is named

distinct_pass : (test : Bytes → Bool) (xs : List Bytes) → list_all test xs ≡ true → list_all test (distinct xs) ≡ true
distinct_pass test [] h = refl
distinct_pass test (x ∷ xs) h = grind (arith, all_kept test (λ y. not (bytes_eq x y)) (distinct xs), distinct_pass test xs)

-- as many sets as names
sets_named : (ss : List Section) (s : Section) → flat_map (absent ss) (rules_named s) ≡ [] → length (rule_sets_of ss s) ≡ length (rule_sets_named s)
sets_named ss s h =
    let there : (t : Bytes) → Bool = λ t. is_some (section_named ss t) in
    length-map (sections_named ss (rule_sets_named s)) (rules_in (rule_names_of s))
    ∙ all_there_long (section_named ss) (rule_sets_named s) (distinct_pass there (map (λ (i : Item). i.text) (rules_named s))
    (all_mapped (λ i. absent ss i ≡ []) there (λ (i : Item). i.text) (λ i e. grind arith) (rules_named s) (each_empty (absent ss) (rules_named s) h)))

found_stands : {X : Type 0} (p : X → Bool) (xs : List X) → is_some (find p xs) ≡ true → 1 ≤ length (filter p xs)
found_stands p [] h = absurd cc
found_stands p (x ∷ xs) h = grind (arith, found_stands p xs)

first_named : (es : List Entry) (more rest : List Item) → 1 ≤ length es → 1 ≤ length (distinct (map (λ (i : Item). i.text) ((map (λ (e : Entry). item_on_line e e.value) es ++ more) ++ rest)))
first_named [] more rest h = absurd (omega arith)
first_named (e ∷ es) more rest h = search (rules)

one_named : (s : Section) → has_key (codes "localtransition") s ≡ true → 1 ≤ length (rule_sets_named s)
one_named s h = first_named (entries_of (codes "localtransition") s) _ _ (found_stands (λ (e : Entry). bytes_eq e.key (codes "localtransition")) s.entries h)

-- ---- numbers of sets

number_below : {X : Type 0} (p : X → Bool) (xs : List X) → 1 ≤ length xs → unwrap_or (position p xs) 0 < length xs
number_below p xs h = grind (arith, nat_tests)

-- ---- cells of port rules

abbrev IsInSpace : Section → PortPlace → Type 0
IsInSpace s p = IfSome p.cell (λ c. c < cell_count (space_of s))

cell_at_below : (s : Space) (p : Place) (o : Option ℕ) → cell_at_place s p ≡ o → IfSome o (λ c. c < cell_count s)
cell_at_below s p None e = tt
cell_at_below s p (Some c) e = let within = inside-from_cell_at s p c e in subst (λ n. n < cell_count s) within.1 (number-inside s p within.0)

cells_in_space : (s : Section) (e : Entry) → IfSome (port_place s e) (IsInSpace s)
cells_in_space s e = let below : (p : Place) → IfSome (cell_at_place (space_of s) p) (λ c. c < cell_count (space_of s)) = λ p. cell_at_below (space_of s) p (cell_at_place (space_of s) p) refl in grind (arith, below)

port_rules_right : (ss : List Section) (s : Section) (n : ℕ) → ((name : Bytes) → rule_set_number s name < n) → list_all (λ (p : PortRule). nat_lt p.rules n && nat_lt p.cell (cell_count (space_of s))) (filter_map (port_rule_of s) (port_places s)) ≡ true
port_rules_right ss s n numbers =
    all_pass (λ (p : PortRule). nat_lt p.rules n && nat_lt p.cell (cell_count (space_of s))) (filter_map (port_rule_of s) (port_places s))
    (found_of_all (IsInSpace s) (λ (p : PortRule). (nat_lt p.rules n && nat_lt p.cell (cell_count (space_of s))) ≡ true) (port_rule_of s) each (port_places s)
    (all_found (IsInSpace s) (port_place s) (cells_in_space s) (entries_of (codes "portintransition") s)))
  where
    each : (p : PortPlace) → IsInSpace s p → IfSome (port_rule_of s p) (λ (r : PortRule). (nat_lt r.rules n && nat_lt r.cell (cell_count (space_of s))) ≡ true)
    each p inside = grind (arith, nat_tests, numbers p.rules)

right_numbers : (ss : List Section) (s : Section) → KeyedGroup s → of_group_rules ss s ≡ [] → RightNumbers ss s
right_numbers ss s k h =
    let parts = both_empty (flat_map (absent ss) (rules_named s)) (flat_map (of_rules (rule_names_of s)) (sections_named ss (rule_sets_named s))) h in
    let same : length (rule_sets_of ss s) ≡ length (rule_sets_named s) = sets_named ss s parts.0 in
    let one : 1 ≤ length (rule_sets_named s) = one_named s (grind (arith, k.missing)) in
    let below : (name : Bytes) → rule_set_number s name < length (rule_sets_of ss s) = λ name. rw same (number_below (bytes_eq name) (rule_sets_named s) one) in
    record {
      sets = rw same one;
      zones = all_mapped (λ z. Unit {0}) (λ k. nat_lt k (length (rule_sets_of ss s))) (λ (z : Region). rule_set_number s z.name) (λ z _. lt-ltb (rule_set_number s z.name) (length (rule_sets_of ss s)) (below z.name)) (zones_of s) (of_any (zones_of s));
      ports = port_rules_right ss s (length (rule_sets_of ss s)) below;
    }
  where
    of_any : {X : Type 0} (xs : List X) → AllByRecursion (λ x. Unit {0}) xs
    of_any [] = tt
    of_any (x ∷ xs) = (tt, of_any xs)

pub numbers_are_right : NumbersAreRight
numbers_are_right ss keys rules' =
    all_imply (λ s p. right_numbers ss s p.0 p.1) (groups ss)
    (both_of_all KeyedGroup (λ s. of_group_rules ss s ≡ []) (groups ss) (groups_keyed ss keys) (each_of_phase (of_group_rules ss) (groups ss) rules'))

-- ---- port rules at different ports and cells

not_equal_back : (n m : ℕ) → (n == m) ≡ false → (m == n) ≡ false
not_equal_back n m h = search (rules, nat_tests)

places_last : (ps : List PortRule) (q : PortRule) → places_differ ps ≡ true → list_any (λ p. same_port_of_cell p q) ps ≡ false → places_differ (ps ++ q ∷ []) ≡ true
places_last [] q h e = refl
places_last (p ∷ ps) q h e = grind (arith, list_any-append (same_port_of_cell p) ps (q ∷ []), places_last ps q)

places_more : (ps : List PortRule) (o : Option PortRule) → places_differ ps ≡ true → IfSome o (λ q. list_any (λ p. same_port_of_cell p q) ps ≡ false) → places_differ (ps ++ cons_option o []) ≡ true
places_more ps None h e = rw append-nil h
places_more ps (Some q) h e = places_last ps q h e

abbrev RulesOf : Section → List PortPlace → List PortRule
RulesOf s ps = filter_map (port_rule_of s) ps

new_rule : (s : Section) (p : PortPlace) (before : List PortPlace) → list_any (S.same_place p) before ≡ false → IfSome (port_rule_of s p) (λ r. list_any (λ q. same_port_of_cell q r) (RulesOf s before) ≡ false)
new_rule s p [] h = grind arith
new_rule s p (q ∷ qs) h = grind (arith, new_rule s p qs, differs_back p.port q.port, not_equal_back)

one_more_place : (s : Section) (before : List PortPlace) (o : Option PortPlace) → is_new_place before o ≡ true → places_differ (RulesOf s before) ≡ true → places_differ (RulesOf s before ++ RulesOf s (cons_option o [])) ≡ true
one_more_place s before None h d = absurd cc
one_more_place s before (Some p) h d = places_more (RulesOf s before) (port_rule_of s p) d (new_rule s p before (grind arith))

ports_differ : (s : Section) (before : List PortPlace) (es : List Entry) → ports_refused s before es ≡ [] → places_differ (RulesOf s before) ≡ true → places_differ (RulesOf s (before ++ filter_map (port_place s) es)) ≡ true
ports_differ s before [] h d = rw append-nil d
ports_differ s before (e ∷ es) h d =
    let parts = both_empty _ (ports_refused s (before ++ filter_map (port_place s) (e ∷ [])) es) h in
    let next = one_more_place s before (port_place s e) (grind (arith, parts.0)) d in
    subst (λ ps. places_differ (RulesOf s ps) ≡ true) (append_assoc before (filter_map (port_place s) (e ∷ [])) (filter_map (port_place s) es) ∙ ap (λ ps. before ++ ps) (sym (filter_map-append (port_place s) (e ∷ []) es)))
    (ports_differ s (before ++ filter_map (port_place s) (e ∷ [])) es parts.1 (rw filter_map-append next))

-- ---- rule sets

not_too_many : (es : List Entry) → too_many es ≡ [] → length es ≤ 1024
not_too_many es h = omega (arith, simp (length-map, length-take, length-drop) at (ap length h))

set_right : (names : Names) (s : Section) → of_rules names s ≡ [] → (nat_le (length (rules_in names s)) 1024 && list_all (is_sound (extent_of names)) (rules_in names s)) ≡ true
set_right names s h =
    let parts = both_empty (flat_map (rule_refused names) (entries_of (codes "rule") s)) (too_many (entries_of (codes "rule") s)) h in
    let read : Entry → Option Rule = λ (e : Entry). result_ok (rule_of_text names e.value) in
    and_from (nat_le (length (rules_in names s)) 1024) (list_all (is_sound (extent_of names)) (rules_in names s))
    (le-leb (length (rules_in names s)) 1024 (omega (arith, shorter read (entries_of (codes "rule") s), not_too_many (entries_of (codes "rule") s) parts.1)))
    (all_pass (is_sound (extent_of names)) (rules_in names s)
    (all_found (λ r. is_sound (extent_of names) r ≡ true) read (λ e. grind (arith, read_sound names e.value)) (entries_of (codes "rule") s)))

-- ---- the whole group

not_empty : {A : Type 0} (xs : List A) → 1 ≤ length xs → not (is_empty xs) ≡ true
not_empty xs h = grind arith

right_names_of_group : (files : Files) (ss : List Section) (s : Section) → RightNames s → has_right_names (group_of_section files ss s) ≡ true
right_names_of_group files ss s n =
    let g = group_of_section files ss s in
    rw (le-leb (length g.variables) 8 n.variables, eq-eqb (length g.variable_values) (length g.variables) n.variable_values, n.variables_differ, le-leb (length g.ports) 3 n.ports, eq-eqb (length g.port_values) (length g.ports) n.port_values, n.ports_differ)

right_rules_of_group : (files : Files) (ss : List Section) (s : Section) → RightNumbers ss s → of_space s ≡ [] → of_group_rules ss s ≡ [] → has_right_rules (group_of_section files ss s) ≡ true
right_rules_of_group files ss s n space rules' =
    let g = group_of_section files ss s in
    let parts = both_empty (flat_map (absent ss) (rules_named s)) (flat_map (of_rules (rule_names_of s)) (sections_named ss (rule_sets_named s))) rules' in
    let differ : places_differ g.port_rules ≡ true = ports_differ s [] (entries_of (codes "portintransition") s) (space_parts s space).0 refl in
    let sets : list_all (λ rules. nat_le (length rules) 1024 && list_all (is_sound (extent g)) rules) g.rule_sets ≡ true =
    all_mapped (λ t. of_rules (rule_names_of s) t ≡ []) (λ rules. nat_le (length rules) 1024 && list_all (is_sound (extent g)) rules) (rules_in (rule_names_of s)) (set_right (rule_names_of s)) (sections_named ss (rule_sets_named s)) (each_empty (of_rules (rule_names_of s)) (sections_named ss (rule_sets_named s)) parts.1) in
    rw (not_empty g.rule_sets n.sets, eq-eqb (length g.zone_rules) (length g.zones) (length-map (zones_of s) (λ z. rule_set_number s z.name)), n.zones, n.ports, differ, sets)

pub group_is_sound : (files : Files) (ss : List Section) (s : Section) → KeyedGroup s → of_space s ≡ [] → of_group_rules ss s ≡ [] → is_sound_group (group_of_section files ss s) ≡ true
group_is_sound files ss s k space rules' =
    let g = group_of_section files ss s in
    let sizes = right_sizes s k in
    let offsets = right_offsets s space in
    rw (
      lt-ltb 0 (cell_count g.space) (omega (arith, sizes.cells)),
      eq-eqb (length g.initial) (cell_count g.space) (values_fit files s),
      le-leb g.settings.default_delay 359999999 sizes.delay,
      le-leb (length g.offsets) 128 offsets.fit,
      offsets.near,
      offsets.differ,
      right_names_of_group files ss s (right_names s k),
      right_rules_of_group files ss s (right_numbers ss s k rules') space rules',
    )

pub groups_are_sound : GroupsAreSound
groups_are_sound files ss keys spaces rules' =
    all_imply (λ s p. group_is_sound files ss s p.0 p.1.0 p.1.1) (groups ss)
    (both_of_all KeyedGroup (λ s. (of_space s ≡ []) × (of_group_rules ss s ≡ [])) (groups ss) (groups_keyed ss keys)
    (both_of_all (λ s. of_space s ≡ []) (λ s. of_group_rules ss s ≡ []) (groups ss) (each_of_phase of_space (groups ss) spaces) (each_of_phase (of_group_rules ss) (groups ss) rules')))
