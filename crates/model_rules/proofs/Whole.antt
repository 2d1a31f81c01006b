-- A group's names, each once, and their numbers; its rules put together, and the groups that can be read.
use Rattle.std.proofs.Common.{◌≡◌, ℕ, ◌+◌, ◌<◌, Bool, true, false, Option, Some, None, List, [], ◌∷◌, ◌++◌, map, length, get_or, position, take, refl, sym, ap, ◌∙◌, Bor, append-nil, slice_get, subst, arith, codes}
use Rattle.std.specs.Prelude.{not, ◌||◌, if◌then◌else◌, Vec}
use Rattle.std.specs.List.{filter, filter_map, cons_option, list_any, flat_map}
use Rattle.std.specs.Option.{option_map, IfSome}
use Rattle.std.specs.Str.{bytes_eq}
use Rattle.std.proofs.lemmas.List.{map_more, map_push, length_push}
use Rattle.std.proofs.lemmas.Bool.{and_parts, false_from_ne_true}
use Rattle.std.proofs.lemmas.List.Elements.{filter-append}
use Rattle.std.proofs.lemmas.Simd.{map-map}
use Rattle.std.proofs.lemmas.Slice.Eq.{bytes_eq-Decides}
use Rattle.std.specs.Cmp.Lexicographic.{pointwise}
use Rattle.cell_grid.proofs.ZoneLemmas.{position-map}
use Rattle.model_text.proofs.Keys.{same_bytes, equals_back}
use Rattle.quantity.specs.Bytes.{Bytes, is_among}
use Rattle.cell_grid.specs.Region.{Region}
use Rattle.cell_grid.specs.ZoneTexts.{zone_in}
use Rattle.ma_lines.specs.declared.section.Entry.{Entry}
use Rattle.ma_lines.specs.Sections.{Section}
use Rattle.model_tree.specs.Pull.{distinct}
use Rattle.model_text.specs.Keyed.{Item, entries_of, least_refusal}
use Rattle.model_text.specs.Spaces.{space_of, PortPlace}
use Rattle.model_text.specs.Rules.{item_on_line, zone_item, rule_set_number, rule_sets_named, rule_names_of, rules_named, absent, of_rules, of_group_rules, sections_named, rules_in}
use Rattle.model_text.specs.Trees.{port_rule_of}
use Rattle.source_text.specs.Shown.{texts}
use Rattle.model_walk.specs.Shown.{item_of}
use Rattle.model_walk.proofs.Named.{among_texts}
use Rattle.model_walk.specs.TextSets.{with_text}
use Rattle.model_walk.specs.declared.placed.PlacedRule.{PlacedRule}
use Rattle.model_walk.specs.Placed.{place_shown, Placed, plain_group, placed_of}
use Rattle.model_rules.specs.Parts.{number_of_set, rules_by_number, IsPlaced, group_section, rules_shown, last_rules}
use Rattle.std.specs.Global.{Global}
use Rattle.rule_tree.specs.declared.node.RuleTree.{RuleTree}
use Rattle.rule_tree.specs.Scope.{Names}
use Rattle.model_text.specs.Refusals.{Refusal}
use Rattle.model_walk.specs.Least.{earlier_refusal}
use Rattle.model_walk.proofs.Orders.{least_of_both}
use Rattle.model_walk.specs.declared.placed.PlacedGroup.{PlacedGroup}
use Rattle.model_walk.specs.declared.group_rules.GroupRules.{GroupRules}
use Rattle.model_rules.specs.declared.sets.ReadSets.{ReadSets}
use Rattle.model_walk.specs.Sets.{sets_shown, sets_of}
use Rattle.model_walk.specs.declared.item.Item as kept
use Rattle.rule_syntax.specs.Shown as syntax

-- ---- each once

eq-other : (x y z : Bytes) → bytes_eq x z ≡ true → bytes_eq x y ≡ false → bytes_eq y z ≡ false
eq-other x y z e f = false_from_ne_true (bytes_eq y z) (λ g.
    let same : x ≡ y = same_bytes x z e ∙ sym (same_bytes y z g) in
    let yes : bytes_eq x y ≡ true = (bytes_eq-Decides x y).1 same in
    cc)

eq-false : (x y : Bytes) → bytes_eq x y ≡ false → bytes_eq y x ≡ false
eq-false x y f = false_from_ne_true (bytes_eq y x) (λ g. let yes : bytes_eq x y ≡ true = equals_back y x g in cc)

abbrev keep : Bytes → Bytes → Bool
keep x y = not (bytes_eq x y)

kept-step : (z : Bytes) (ds : List Bytes) (x y : Bytes) → bytes_eq x y ≡ false → is_among (filter (keep x) ds) y ≡ is_among ds y → (b : Bool) → bytes_eq x z ≡ b → is_among (filter (keep x) (z ∷ ds)) y ≡ is_among (z ∷ ds) y
kept-step z ds x y f h true e = rw (e, eq-other x y z e f) h
kept-step z ds x y f h false e = rw e (ap (λ (b : Bool). bytes_eq y z || b) h)

among-kept : (ds : List Bytes) (x y : Bytes) → bytes_eq x y ≡ false → is_among (filter (keep x) ds) y ≡ is_among ds y
among-kept [] x y f = refl
among-kept (z ∷ ds) x y f = kept-step z ds x y f (among-kept ds x y f) (bytes_eq x z) refl

with-kept : (ds : List Bytes) (x y : Bytes) → x ∷ filter (keep x) (with_text ds y) ≡ with_text (x ∷ filter (keep x) ds) y
with-kept ds x y = cases (bytes_eq x y) refl (is_among ds y) refl
  where
    cases : (b : Bool) → bytes_eq x y ≡ b → (a : Bool) → is_among ds y ≡ a → x ∷ filter (keep x) (with_text ds y) ≡ with_text (x ∷ filter (keep x) ds) y
    cases true e true f = rw (f, equals_back x y e) refl
    cases true e false f = rw (f, equals_back x y e, filter-append (keep x) ds (y ∷ []), e) (ap (λ (l : List Bytes). x ∷ l) (append-nil (filter (keep x) ds)))
    cases false e true f = rw (f, eq-false x y e, among-kept ds x y e, f) refl
    cases false e false f = rw (f, eq-false x y e, among-kept ds x y e, f, filter-append (keep x) ds (y ∷ []), e) refl

distinct-more : (ys : List Bytes) (y : Bytes) → distinct (ys ++ y ∷ []) ≡ with_text (distinct ys) y
distinct-more [] y = refl
distinct-more (x ∷ ys) y = ap (λ (l : List Bytes). x ∷ filter (keep x) l) (distinct-more ys y) ∙ with-kept (distinct ys) x y

-- a set of names with one more
with_text_by : (names : List (Bor Bytes)) (r : Bor Bytes) → texts (if list_any (λ (s : Bor Bytes). bytes_eq r.now s.now) names then names else names ++ r ∷ []) ≡ with_text (texts names) r.now
with_text_by names r = by (list_any (λ (s : Bor Bytes). bytes_eq r.now s.now) names) ∙ ap (λ b. if b then texts names else texts names ++ r.now ∷ []) (sym (among_texts names r.now))
  where
    by : (b : Bool) → texts (if b then names else names ++ r ∷ []) ≡ (if b then texts names else texts names ++ r.now ∷ [])
    by true = refl
    by false = map_push (λ (s : Bor Bytes). s.now) names r

-- one item more
pub names_next : (is : List kept.Item) (i : ℕ) (d : kept.Item) (old : List (Bor Bytes)) {new : List (Bor Bytes)} → new ≡ (let r = (get_or is i d).text in if list_any (λ (s : Bor Bytes). bytes_eq r.now s.now) old then old else old ++ r ∷ [])
    → i < length is → texts old ≡ distinct (map (λ (w : kept.Item). w.text.now) (take i is)) → texts new ≡ distinct (map (λ (w : kept.Item). w.text.now) (take (i + 1) is))
names_next is i d old e lt h =
    let name = λ (w : kept.Item). w.text.now in
    ap texts e ∙ with_text_by old (get_or is i d).text ∙ ap (λ (ns : List Bytes). with_text ns (get_or is i d).text.now) h
    ∙ sym (ap distinct (map_more name is i d lt) ∙ distinct-more (map name (take i is)) (get_or is i d).text.now)

-- names that are compared, and sought
pub same_texts : (xs ys : List (Bor Bytes)) → pointwise (λ (a b : Bor Bytes). bytes_eq a.now b.now) xs ys ≡ true → texts xs ≡ texts ys
same_texts [] [] e = refl
same_texts [] (y ∷ ys) e = absurd cc
same_texts (x ∷ xs) [] e = absurd cc
same_texts (x ∷ xs) (y ∷ ys) e =
    let h = and_parts (bytes_eq x.now y.now) (pointwise (λ (a b : Bor Bytes). bytes_eq a.now b.now) xs ys) e in
    λ k. same_bytes x.now y.now h.0 k ∷ same_texts xs ys h.1 k

pub position_by_text : (names : List (Bor Bytes)) (name : Bytes) → position (λ (r : Bor Bytes). bytes_eq name r.now) names ≡ position (bytes_eq name) (texts names)
position_by_text names name = position-map (bytes_eq name) (λ (r : Bor Bytes). r.now) names

-- ---- numbers

zones-numbered : (names : List Bytes) (s : Section) (es : List Entry)
    → map (λ (i : Item). number_of_set names i.text) (filter_map (zone_item s) es) ≡ map (λ (z : Region). number_of_set names z.name) (filter_map (λ (e : Entry). zone_in (space_of s) e.value) es)
zones-numbered names s [] = refl
zones-numbered names s (e ∷ es) = by (zone_in (space_of s) e.value) (zones-numbered names s es)
  where
    by : (o : Option Region) → map (λ (i : Item). number_of_set names i.text) (filter_map (zone_item s) es) ≡ map (λ (z : Region). number_of_set names z.name) (filter_map (λ (e : Entry). zone_in (space_of s) e.value) es)
        → map (λ (i : Item). number_of_set names i.text) (cons_option (option_map (λ (z : Region). item_on_line e z.name) o) (filter_map (zone_item s) es)) ≡ map (λ (z : Region). number_of_set names z.name) (cons_option o (filter_map (λ (e : Entry). zone_in (space_of s) e.value) es))
    by None h = h
    by (Some z) h = ap (λ ns. number_of_set names z.name ∷ ns) h

pub ports-numbered : (s : Section) (names : List Bytes) (ps : List PlacedRule) → names ≡ rule_sets_named s → map (rules_by_number names) ps ≡ filter_map (port_rule_of s) (map place_shown ps)
ports-numbered s names [] e = refl
ports-numbered s names (p ∷ ps) e =
    ap (λ (ns : List Bytes). rules_by_number ns p ∷ map (rules_by_number names) ps) e ∙ ap (λ rs. rules_by_number (rule_sets_named s) p ∷ rs) (ports-numbered s names ps e)

pub zones-are-numbered : (s : Section) (names : List Bytes) (is : List kept.Item) (es : List Entry) → names ≡ rule_sets_named s → map item_of is ≡ filter_map (zone_item s) es
    → map (λ (w : kept.Item). number_of_set names w.text.now) is ≡ map (λ (z : Region). rule_set_number s z.name) (filter_map (λ (e : Entry). zone_in (space_of s) e.value) es)
zones-are-numbered s names is es e h =
    sym (map-map (λ (i : Item). number_of_set names i.text) item_of is) ∙ ap (map (λ (i : Item). number_of_set names i.text)) h ∙ zones-numbered names s es
    ∙ ap (λ (ns : List Bytes). map (λ (z : Region). number_of_set ns z.name) (filter_map (λ (e : Entry). zone_in (space_of s) e.value) es)) e

-- ---- one group

-- the names of its rule sets
pub named_by : (s : Section) (is : List kept.Item) (named : List Bytes) → map item_of is ≡ rules_named s → named ≡ distinct (map (λ (i : kept.Item). i.text.now) is) → named ≡ rule_sets_named s
named_by s is named h e = e ∙ ap distinct (sym (map-map (λ (i : Item). i.text) item_of is) ∙ ap (map (λ (i : Item). i.text)) h)

-- what is refused of it
pub refused_by : (ss : List Section) (s : Section) (names : Names) (is : List Item) (named : List Bytes) (a b c : Option Refusal)
    → names ≡ rule_names_of s → is ≡ rules_named s → named ≡ rule_sets_named s
    → a ≡ least_refusal (flat_map (absent ss) is) → b ≡ least_refusal (flat_map (of_rules names) (sections_named ss named)) → c ≡ earlier_refusal a b
    → c ≡ least_refusal (flat_map (of_group_rules ss) (s ∷ []))
refused_by ss s names is named a b c ns h ws ea eb ec =
    let off = flat_map (absent ss) (rules_named s) in
    let rules = flat_map (of_rules (rule_names_of s)) (sections_named ss (rule_sets_named s)) in
    ec ∙ (λ k. earlier_refusal (ea k) (eb k))
    ∙ (λ k. earlier_refusal (least_refusal (flat_map (absent ss) (h k))) (least_refusal (flat_map (of_rules (ns k)) (sections_named ss (ws k)))))
    ∙ sym (least_of_both off rules) ∙ ap least_refusal (sym (append-nil (off ++ rules)))

-- its rules
pub sets_by : (ss : List Section) (g : PlacedGroup) (named : List Bytes) (read : ReadSets) (r : GroupRules) → IsPlaced g → named ≡ rule_sets_named (group_section g)
    → map rules_shown read.sets.items ≡ map (rules_in (syntax.names_of g.names)) (sections_named ss named)
    → r.rule_sets ≡ read.sets
    → r.zone_rules.items ≡ map (λ (i : kept.Item). number_of_set named i.text.now) g.zone_rules.items
    → r.port_rules.items ≡ map (rules_by_number named) g.port_rules.items
    → sets_shown r ≡ sets_of ss (group_section g)
sets_by ss g named read r p ws sets er ez ep =
    let s = group_section g in
    let rs = ap (λ (v : Vec (Vec RuleTree Global) Global). map rules_shown v.items) er ∙ sets ∙ (λ k. map (rules_in (p k).names) (sections_named ss (ws k))) in
    let zs = ez ∙ zones-are-numbered s named g.zone_rules.items (entries_of (codes "zone") s) ws (ap (λ (x : Placed). x.zone_rules) p) in
    let ps = ep ∙ ports-numbered s named g.port_rules.items ws ∙ ap (λ (us : List PortPlace). filter_map (port_rule_of s) us) (ap (λ (x : Placed). x.port_places) p) in
    λ i. record { rule_sets = rs i; zone_rules = zs i; port_rules = ps i }

-- ---- all groups

at_front : {A : Type 0} (xs : List A) (x : A) → slice_get (xs ++ x ∷ []) (length xs) ≡ Some x
at_front [] x = refl
at_front (y ∷ xs) x = at_front xs x

-- the last one
pub last_kept : (Q : GroupRules → Type 0) (old new : List GroupRules) (r : GroupRules) → new ≡ old ++ r ∷ [] → Q r → IfSome (last_rules new) Q
last_kept Q old new r e q =
    let there : last_rules new ≡ Some r = ap last_rules e ∙ ap (slice_get (old ++ r ∷ [])) (omega (arith, length_push old r)) ∙ at_front old r in
    subst (λ o. IfSome o Q) (sym there) q

-- their sections
pub sections_of : (gs : List PlacedGroup) (ss : List Section) → map plain_group gs ≡ map placed_of ss → map group_section gs ≡ ss
sections_of [] [] e = refl
sections_of [] (s ∷ ss) e = absurd cc
sections_of (g ∷ gs) [] e = absurd cc
sections_of (g ∷ gs) (s ∷ ss) e =
    let one : plain_group g ≡ placed_of s = cc in
    let rest : map plain_group gs ≡ map placed_of ss = cc in
    λ k. (one k).section ∷ sections_of gs ss rest k

placed_by : (g : PlacedGroup) (s : Section) → plain_group g ≡ placed_of s → IsPlaced g
placed_by g s e = e ∙ ap placed_of (sym (ap (λ (x : Placed). x.section) e))

pub placed_at : (gs : List PlacedGroup) (ss : List Section) (i : ℕ) (d : PlacedGroup) → map plain_group gs ≡ map placed_of ss → i < length gs → IsPlaced (get_or gs i d)
placed_at [] ss i d e lt = absurd (omega arith)
placed_at (g ∷ gs) [] i d e lt = absurd cc
placed_at (g ∷ gs) (s ∷ ss) ℕ.zero d e lt = placed_by g s (cc)
placed_at (g ∷ gs) (s ∷ ss) (ℕ.suc i) d e lt = placed_at gs ss i d (cc) (omega arith)
