-- The values of an accepted model are bounded.
use Rattle.std.proofs.Common.{◌≡◌, ℕ, zero, suc, ◌+◌, ◌*◌, ◌≤◌, Bool, true, false, cond, Option, Some, None, List, [], ◌∷◌, ◌++◌, length, map, take, drop, refl, sym, subst, arith}
use Rattle.std.specs.Prelude.{⊤, ◌&&◌, ◌==◌, not, nat_le, nat_lt, codes}
use Rattle.std.specs.declared.result.Result.{Result}
use Rattle.std.specs.declared.result.Result.TheVariants.{Ok, Err}
use Rattle.std.specs.List.{All, AllByRecursion, list_all, fold, filter_map, cons_option, flat_map, before_first, after_first}
use Rattle.std.specs.Option.{option_and_then, unwrap_or}
use Rattle.std.specs.Bool.{then_some}
use Rattle.std.specs.Result.{result_ok}
use Rattle.std.specs.Str.{bytes_eq}
use Rattle.std.proofs.lemmas.Bool.{and_parts}
use Rattle.std.proofs.lemmas.List.Elements.{All-nil, All-cons, All-head, All-tail, All-append, All-take, All-drop, All-set, All-replicate}
use Rattle.quantity.specs.declared.value.Value.{Value}
use Rattle.quantity.specs.declared.value.Value.TheVariants.{Undefined}
use Rattle.quantity.specs.Roots.{IsBounded}
use Rattle.quantity.specs.Bytes.{Bytes, is_byte, without_outer_blanks, words, all_there, in_front, has_repeat}
use Rattle.quantity.specs.Digits.{whole_number}
use Rattle.quantity.specs.Literals.{value_in}
use Rattle.source_text.specs.Tuples.{tuple}
use Rattle.cell_grid.specs.Places.{cell_in}
use Rattle.source_text.specs.Lines.{Files, Line, lines_of, filled_lines}
use Rattle.ma_lines.specs.declared.section.Entry.{Entry}
use Rattle.ma_lines.specs.Sections.{Section}
use Rattle.rule_words.specs.declared.refusal.RuleRefusal.{RuleRefusal}
use Rattle.rule_tree.specs.Expression.{Rule}
use Rattle.rule_tree.specs.Scope.{Names}
use Rattle.rule_syntax.specs.RuleOf.{rule_of_text}
use Rattle.rule_syntax.specs.RuleLaws.{FindsTheGrammar}
use Rattle.cell_grid.specs.Space.{Space, cell_count}
use Rattle.cell_grid.specs.Initial.{Row, is_row, row_of_space, digit_value, digits_row, values_row, row_digits, row_values, map_file, cell_value, cell_line, cells_file, uniform_values, with_row, with_cell, with_rows, with_map, with_cells}
use Rattle.atomic_face.specs.declared.class.Class.{Class}
use Rattle.model_tree.specs.Tree.{Group, Tree, Trees, coupled, cells, atomic, nil, cons}
use Rattle.model_tree.specs.FaceOf.{face_of_coupled, face_of_group}
use Rattle.model_tree.specs.Sound.{is_near_offset, offsets_differ, has_right_names, has_right_rules, is_sound_group, are_accepted, has_child, is_sound_part, are_sound_parts, totals, all_totals}
use Rattle.model_text.specs.Keyed.{section_named, entries_of, value_of, texts_of, Item}
use Rattle.model_text.specs.Walk.{top, is_group, children_of, section_of_item}
use Rattle.model_text.specs.Spaces.{space_of, row_in, rows_of}
use Rattle.model_text.specs.Stock.{class_of_item, params_of}
use Rattle.model_text.specs.Rules.{rule_names_of, rules_in, rule_sets_named, sections_named}
use Rattle.model_text.specs.Links.{links_of}
use Rattle.model_text.specs.Trees.{initial_value_of, map_of, cells_of, initial_of, values_of_key, variables_of, ports_of, group_of_section, atomic_of, trees, component_of, first_tree, tree_of_section, tree_of_sections}
use Rattle.model_text.specs.Accepted.{PassesEachPhase, ReadsSoundModels}
use Rattle.run_model.specs.Bounds.{IsBoundedRule, IsBoundedGroup, AreBoundedSettings, HasBoundedValues, HaveBoundedValues}
use Rattle.answer_model.specs.AcceptedRuns.{ModelsAreBounded}
use Rattle.run_model.proofs.BoundedTexts.{value_bounded}
use Rattle.answer_model.proofs.BoundedRules.{rule_bounded}
use Rattle.run_model.proofs.BoxLaws.{settings_bounded}
use Rattle.run_model.proofs.Basics.{none_some, some_same, then_there, on_there, both_hold}
use Rattle.answer_model.proofs.SoundParts.{at_most, sound_is}

-- ---- what is found holds

mapped_hold : {X Y : Type 0} (P : Y → Type 0) (f : X → Y) → ((x : X) → P (f x)) → (xs : List X) → All P (map f xs)
mapped_hold P f each [] = All-nil P
mapped_hold P f each (x ∷ xs) = All-cons P (f x) (map f xs) (each x) (mapped_hold P f each xs)

found_hold : {X Y : Type 0} (P : Y → Type 0) (f : X → Option Y) → ((x : X) (y : Y) → f x ≡ Some y → P y) → (xs : List X) → All P (filter_map f xs)
found_hold P f each [] = All-nil P
found_hold {X} {Y} P f each (x ∷ xs) = go (f x) refl (found_hold P f each xs)
  where
    go : (o : Option Y) → f x ≡ o → All P (filter_map f xs) → All P (cons_option o (filter_map f xs))
    go None e rest = rest
    go (Some y) e rest = All-cons P y (filter_map f xs) (each x y e) rest

all_found : {X Y : Type 0} (P : Y → Type 0) (f : X → Option Y) → ((x : X) (y : Y) → f x ≡ Some y → P y) → (xs : List X) (ys : List Y) → all_there (map f xs) ≡ Some ys → All P ys
all_found P f each [] ys e = subst (All P) (some_same [] ys e) (All-nil P)
all_found {X} {Y} P f each (x ∷ xs) ys e = go (all_found P f each xs) (f x) (all_there (map f xs)) refl refl e
  where
    go : ((zs : List Y) → all_there (map f xs) ≡ Some zs → All P zs) → (o : Option Y) (rest : Option (List Y)) → f x ≡ o → all_there (map f xs) ≡ rest → in_front o rest ≡ Some ys → All P ys
    go later None rest p q h = absurd (none_some h)
    go later (Some y) None p q h = absurd (none_some h)
    go later (Some y) (Some zs) p q h = subst (All P) (some_same (y ∷ zs) ys h) (All-cons P y zs (each x y p) (later zs q))

-- ---- initial values

abbrev IsBoundedRow : Row → Type 0
IsBoundedRow r = All IsBounded r.values

row_bounded : (space : Space) (o : Option ℕ) (vs : Option (List Value)) (r : Row) → ((ws : List Value) → vs ≡ Some ws → All IsBounded ws) → row_of_space space o vs ≡ Some r → IsBoundedRow r
row_bounded space None None r h e = absurd (none_some e)
row_bounded space None (Some vs) r h e = absurd (none_some e)
row_bounded space (Some n) None r h e = absurd (none_some e)
row_bounded space (Some n) (Some vs) r h e =
    let made : Row = record { row = n; values = vs } in
    subst IsBoundedRow (then_there (is_row space n vs) made r e).1 (h vs refl)

digit_bounded : (c : ℕ) (v : Value) → digit_value c ≡ Some v → IsBounded v
digit_bounded c v e = value_bounded (c ∷ []) v e

digits_bounded : (space : Space) (ws : List Bytes) (r : Row) → digits_row space ws ≡ Some r → IsBoundedRow r
digits_bounded space [] r e = absurd (none_some e)
digits_bounded space (a ∷ []) r e = absurd (none_some e)
digits_bounded space (a ∷ b ∷ []) r e = row_bounded space (whole_number 7 a) (all_there (map digit_value b)) r (all_found IsBounded digit_value digit_bounded b) e
digits_bounded space (a ∷ b ∷ c ∷ ws) r e = absurd (none_some e)

texts_bounded : (space : Space) (ws : List Bytes) (r : Row) → values_row space ws ≡ Some r → IsBoundedRow r
texts_bounded space [] r e = absurd (none_some e)
texts_bounded space (a ∷ ws) r e = row_bounded space (whole_number 7 a) (all_there (map value_in ws)) r (all_found IsBounded value_in value_bounded ws) e

row_in_bounded : (s : Section) (e : Entry) (r : Row) → row_in s e ≡ Some r → IsBoundedRow r
row_in_bounded s e r h = go (bytes_eq e.key (codes "initialrowvalue")) (bytes_eq e.key (codes "initialrow")) h
  where
    go : (a b : Bool) → cond a (row_digits (space_of s) e.value) (cond b (row_values (space_of s) e.value) None) ≡ Some r → IsBoundedRow r
    go true b h = digits_bounded (space_of s) (words e.value) r h
    go false true h = texts_bounded (space_of s) (words e.value) r h
    go false false h = absurd (none_some h)

found_rows : {X Y : Type 0} (P : Y → Type 0) (f : X → Option Y) → ((x : X) (y : Y) → f x ≡ Some y → P y) → (xs : List X) → AllByRecursion P (filter_map f xs)
found_rows P f each [] = tt
found_rows {X} {Y} P f each (x ∷ xs) = go (f x) refl (found_rows P f each xs)
  where
    go : (o : Option Y) → f x ≡ o → AllByRecursion P (filter_map f xs) → AllByRecursion P (cons_option o (filter_map f xs))
    go None e rest = rest
    go (Some y) e rest = (each x y e, rest)

with_rows_bounded : (space : Space) (vs : List Value) (rs : List Row) → AllByRecursion IsBoundedRow rs → All IsBounded vs → All IsBounded (with_rows space vs rs)
with_rows_bounded space vs [] h k = k
with_rows_bounded space vs (r ∷ rs) h k =
    let first = take (r.row * space.columns) vs in
    let last = drop (r.row * space.columns + space.columns) vs in
    with_rows_bounded space (with_row space vs r) rs h.1
    (All-append IsBounded (first ++ r.values) last (All-append IsBounded first r.values (All-take IsBounded (r.row * space.columns) vs k) h.0) (All-drop IsBounded (r.row * space.columns + space.columns) vs k))

with_map_bounded : (vs : List Value) (o : Option (List Value)) → ((ws : List Value) → o ≡ Some ws → All IsBounded ws) → All IsBounded vs → All IsBounded (with_map vs o)
with_map_bounded vs None h k = k
with_map_bounded vs (Some ws) h k = h ws refl

abbrev IsBoundedAt : ℕ × Value → Type 0
IsBoundedAt c = IsBounded c.1

with_each_cell : (vs : List Value) (cs : List (ℕ × Value)) → All IsBoundedAt cs → All IsBounded vs → All IsBounded (fold with_cell vs cs)
with_each_cell vs [] h k = k
with_each_cell vs (c ∷ cs) h k = with_each_cell (with_cell vs c) cs (All-tail IsBoundedAt c cs h) (All-set IsBounded vs c.0 c.1 (All-head IsBoundedAt c cs h) k)

with_cells_bounded : (vs : List Value) (o : Option (List (ℕ × Value))) → ((cs : List (ℕ × Value)) → o ≡ Some cs → All IsBoundedAt cs) → All IsBounded vs → All IsBounded (with_cells vs o)
with_cells_bounded vs None h k = k
with_cells_bounded vs (Some cs) h k = with_each_cell vs cs (h cs refl) k

map_bounded : (space : Space) (bytes : Bytes) (ws : List Value) → map_file space bytes ≡ Some ws → All IsBounded ws
map_bounded space bytes ws e =
    let texts = flat_map (λ (l : Line). words l.text) (lines_of bytes) in
    let p = on_there (λ vs. then_some (length vs == cell_count space) vs) (all_there (map value_in texts)) ws e in
    let q = then_there (length p.0 == cell_count space) p.0 ws p.2 in
    subst (All IsBounded) q.1 (all_found IsBounded value_in value_bounded texts p.0 p.1)

cell_bounded : (cell : Option ℕ) (v : Option Value) (c : ℕ × Value) → ((w : Value) → v ≡ Some w → IsBounded w) → cell_value cell v ≡ Some c → IsBoundedAt c
cell_bounded None None c h e = absurd (none_some e)
cell_bounded None (Some v) c h e = absurd (none_some e)
cell_bounded (Some n) None c h e = absurd (none_some e)
cell_bounded (Some n) (Some v) c h e = subst IsBoundedAt (some_same (n, v) c e) (h v refl)

line_bounded : (space : Space) (l : Line) (c : ℕ × Value) → cell_line space l.text ≡ Some c → IsBoundedAt c
line_bounded space l c e =
    let value = without_outer_blanks (after_first (is_byte 61) l.text) in
    cell_bounded (option_and_then (cell_in space) (tuple (without_outer_blanks (before_first (is_byte 61) l.text)))) (value_in value) c (value_bounded value) e

cells_bounded : (space : Space) (bytes : Bytes) (cs : List (ℕ × Value)) → cells_file space bytes ≡ Some cs → All IsBoundedAt cs
cells_bounded space bytes cs e = all_found IsBoundedAt (λ (l : Line). cell_line space l.text) (line_bounded space) (filled_lines bytes) cs e

or_undefined : (o : Option Bytes) → IsBounded (unwrap_or (option_and_then value_in o) Undefined)
or_undefined None = tt
or_undefined (Some text) = go (value_in text) refl
  where
    go : (o : Option Value) → value_in text ≡ o → IsBounded (unwrap_or o Undefined)
    go None e = tt
    go (Some v) e = value_bounded text v e

initial_bounded : (files : Files) (s : Section) → All IsBounded (initial_of files s)
initial_bounded files s =
    let start = uniform_values (space_of s) (initial_value_of s) in
    let rows = with_rows (space_of s) start (rows_of s) in
    with_cells_bounded (with_map rows (map_of files s)) (cells_of files s) (λ cs e. from_cells cs e)
    (with_map_bounded rows (map_of files s) (λ ws e. from_map ws e)
    (with_rows_bounded (space_of s) start (rows_of s) (found_rows IsBoundedRow (row_in s) (row_in_bounded s) s.entries)
    (All-replicate IsBounded (cell_count (space_of s)) (initial_value_of s) (or_undefined (value_of (codes "initialvalue") s)))))
  where
    from_map : (ws : List Value) → map_of files s ≡ Some ws → All IsBounded ws
    from_map ws e =
        let p = on_there (map_file (space_of s)) (option_and_then files (value_of (codes "initialmapvalue") s)) ws e in
        map_bounded (space_of s) p.0 ws p.2

    from_cells : (cs : List (ℕ × Value)) → cells_of files s ≡ Some cs → All IsBoundedAt cs
    from_cells cs e =
        let p = on_there (cells_file (space_of s)) (option_and_then files (value_of (codes "initialcellsvalue") s)) cs e in
        cells_bounded (space_of s) p.0 cs p.2

-- ---- groups

pub record SaysBounded (g : Group) : Type 0 where
  pub initial : All IsBounded g.initial
  pub port_values : All IsBounded g.port_values
  pub variable_values : All IsBounded g.variable_values
  pub rules : All (All IsBoundedRule) g.rule_sets

values_bounded : (o : Option Bytes) (names : List Bytes) → All IsBounded (values_of_key o names)
values_bounded None names = All-replicate IsBounded (length names) Undefined tt
values_bounded (Some text) names = found_hold IsBounded value_in value_bounded (words text)

ok_there : (r : Result Rule RuleRefusal) (x : Rule) → result_ok r ≡ Some x → r ≡ Ok x
ok_there (Ok y) x e = cc
ok_there (Err why) x e = absurd (none_some e)

rules_bounded : FindsTheGrammar → (names : Names) (s : Section) → All IsBoundedRule (rules_in names s)
rules_bounded grammar names s =
    found_hold IsBoundedRule (λ (e : Entry). result_ok (rule_of_text names e.value)) (λ e r h. rule_bounded grammar names e.value r (ok_there (rule_of_text names e.value) r h)) (entries_of (codes "rule") s)

group_says : FindsTheGrammar → (files : Files) (ss : List Section) (s : Section) → SaysBounded (group_of_section files ss s)
group_says grammar files ss s = record {
  initial = initial_bounded files s;
  port_values = values_bounded (value_of (codes "portvalues") s) (ports_of s);
  variable_values = values_bounded (value_of (codes "statevalues") s) (variables_of s);
  rules = mapped_hold (All IsBoundedRule) (rules_in (rule_names_of s)) (rules_bounded grammar (rule_names_of s)) (sections_named ss (rule_sets_named s));
}

-- ---- trees

abbrev mutual
  Says : Tree → Type 0
  Says (coupled name ins outs children links) = AllSay children
  Says (cells g) = SaysBounded g
  Says (atomic name class settings) = AreBoundedSettings class settings

  AllSay : Trees → Type 0
  AllSay nil = ⊤
  AllSay (cons t ts) = Says t × AllSay ts

trees_say : (ts : List Tree) → AllByRecursion Says ts → AllSay (trees ts)
trees_say [] h = tt
trees_say (t ∷ ts) h = (h.0, trees_say ts h.1)

each_says : {X : Type 0} (f : X → List Tree) → ((x : X) → AllByRecursion Says (f x)) → (xs : List X) → AllByRecursion Says (flat_map f xs)
each_says f each [] = tt
each_says f each (x ∷ xs) = both_hold Says (f x) (flat_map f xs) (each x) (each_says f each xs)

atomic_says : (ss : List Section) (i : Item) (o : Option Class) → AllByRecursion Says (atomic_of ss i o)
atomic_says ss i None = tt
atomic_says ss i (Some class) = (settings_bounded class (params_of ss i), tt)

component_says : FindsTheGrammar → (n : ℕ) (files : Files) (ss : List Section) (s : Section) → AllByRecursion Says (component_of n files ss s)
component_says grammar zero files ss s = tt
component_says grammar (suc n) files ss s = (go (component_says grammar n files ss) (is_group s), tt)
  where
    child_says : ((t : Section) → AllByRecursion Says (component_of n files ss t)) → (i : Item) (o : Option Section) → AllByRecursion Says (let x : List Tree = elim o [ None ↦ atomic_of ss i (class_of_item i) | Some t ↦ component_of n files ss t ] in x)
    child_says below i None = atomic_says ss i (class_of_item i)
    child_says below i (Some t) = below t

    go : ((t : Section) → AllByRecursion Says (component_of n files ss t)) → (b : Bool) → Says (let x : Tree = cond b (cells (group_of_section files ss s)) (coupled s.name (texts_of (codes "in") s) (texts_of (codes "out") s) (trees (flat_map (λ (i : Item). elim (section_of_item ss i) [ None ↦ atomic_of ss i (class_of_item i) | Some t ↦ component_of n files ss t ]) (children_of s))) (links_of s)) in x)
    go below true = group_says grammar files ss s
    go below false = trees_say (flat_map (λ (i : Item). elim (section_of_item ss i) [ None ↦ atomic_of ss i (class_of_item i) | Some t ↦ component_of n files ss t ]) (children_of s)) (each_says (λ (i : Item). elim (section_of_item ss i) [ None ↦ atomic_of ss i (class_of_item i) | Some t ↦ component_of n files ss t ]) (λ i. child_says below i (section_of_item ss i)) (children_of s))

first_says : (ts : List Tree) → AllByRecursion Says ts → Says (first_tree ts)
first_says [] h = tt
first_says (t ∷ ts) h = h.0

tree_says : FindsTheGrammar → (files : Files) (ss : List Section) → Says (tree_of_sections files ss)
tree_says grammar files ss = go (section_named ss top)
  where
    go : (o : Option Section) → Says (tree_of_section files ss o)
    go None = tt
    go (Some s) = first_says (component_of 17 files ss s) (component_says grammar 17 files ss s)

-- ---- with what sound models keep

group_bounded : (g : Group) → SaysBounded g → is_sound_group g ≡ true → cell_count g.space ≤ 1048576 → IsBoundedGroup g
group_bounded g h sound size =
    let a = nat_lt 0 (cell_count g.space) in
    let b = length g.initial == cell_count g.space in
    let c = nat_le g.settings.default_delay 359999999 in
    let d = nat_le (length g.offsets) 128 in
    let e = list_all is_near_offset g.offsets in
    let p = and_parts (a && b && c && d && e && offsets_differ g.offsets && has_right_names g) (has_right_rules g) sound in
    let q = and_parts (a && b && c && d && e && offsets_differ g.offsets) (has_right_names g) p.0 in
    let r = and_parts (a && b && c && d && e) (offsets_differ g.offsets) q.0 in
    let t = and_parts (a && b && c && d) e r.0 in
    let u = and_parts (a && b && c) d t.0 in
    let v = and_parts (a && b) c u.0 in
    record {
      initial = h.initial;
      port_values = h.port_values;
      variable_values = h.variable_values;
      rules = h.rules;
      default_delay = at_most g.settings.default_delay 359999999 v.1;
      offsets = at_most (length g.offsets) 128 u.1;
      size = size;
    }

first : (a b : ℕ) → a + b ≤ 1048576 → a ≤ 1048576
first a b h = omega arith

second : (a b : ℕ) → a + b ≤ 1048576 → b ≤ 1048576
second a b h = omega arith

mutual
  values_kept : (t : Tree) → Says t → is_sound_part t ≡ true → (totals t).cells ≤ 1048576 → HasBoundedValues t
  values_kept (coupled name ins outs children links) h sound few =
      all_kept children h (and_parts (has_child children && not (has_repeat ins) && not (has_repeat outs) && are_accepted (face_of_coupled ins outs children) [] links) (are_sound_parts children) sound).1 few
  values_kept (cells g) h sound few =
      let p = and_parts (is_sound_group g && not (has_repeat g.ins) && not (has_repeat g.outs)) (are_accepted (face_of_group g) [] g.links) sound in
      let q = and_parts (is_sound_group g && not (has_repeat g.ins)) (not (has_repeat g.outs)) p.0 in
      group_bounded g h (and_parts (is_sound_group g) (not (has_repeat g.ins)) q.0).0 few
  values_kept (atomic name class settings) h sound few = h

  all_kept : (ts : Trees) → AllSay ts → are_sound_parts ts ≡ true → (all_totals ts).cells ≤ 1048576 → HaveBoundedValues ts
  all_kept nil h sound few = tt
  all_kept (cons t ts) h sound few =
      let p = and_parts (is_sound_part t) (are_sound_parts ts) sound in
      (values_kept t h.0 p.0 (first (totals t).cells (all_totals ts).cells few), all_kept ts h.1 p.1 (second (totals t).cells (all_totals ts).cells few))

pub models_are_bounded : FindsTheGrammar → PassesEachPhase → ReadsSoundModels → ModelsAreBounded
models_are_bounded grammar passes sound bytes files classes drawing t e =
    let a = passes bytes files classes drawing t e in
    let s = sound_is t (sound bytes files classes drawing t e) in
    values_kept t (subst Says (sym a.tree) (tree_says grammar files a.sections)) s.parts s.cells
