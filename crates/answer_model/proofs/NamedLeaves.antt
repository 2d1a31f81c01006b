-- The leaves of an accepted model and their ports have names.
use Rattle.std.proofs.Common.{◌≡◌, ℕ, zero, suc, ◌+◌, ◌/◌, ◌≤◌, ◌<◌, Bool, true, false, cond, Option, Some, None, List, [], ◌∷◌, ◌++◌, length, map, take, refl, sym, ap, ◌∙◌, subst, arith, rules}
use Rattle.std.specs.Prelude.{⊤, ◌&&◌, ◌||◌, ◌==◌, not, nat_le, codes}
use Rattle.std.specs.List.{All, AllByRecursion, list_all, filter, filter_map, cons_option, flat_map, range_with_len, list_any}
use Rattle.std.specs.Option.{option_map, option_and_then}
use Rattle.std.specs.Bool.{then_some}
use Rattle.std.specs.Str.{bytes_eq}
use Rattle.std.specs.Char.{is_ascii_alphabetic}
use Rattle.std.proofs.Math.Nat.{div-le_self, mod-le}
use Rattle.std.proofs.lemmas.Bool.{and_parts}
use Rattle.std.proofs.lemmas.Bool.Decides.{nat_tests}
use Rattle.std.proofs.lemmas.List.Elements.{All-nil, All-cons, All-append}
use Rattle.quantity.specs.Bytes.{Bytes, is_byte, is_among, words, has_repeat}
use Rattle.quantity.specs.Digits.{has_length}
use Rattle.quantity.specs.Names.{is_of_name, is_name}
use Rattle.rule_syntax.specs.Tokens.{is_of_word}
use Rattle.rule_tree.specs.Phrases.{looked_up}
use Rattle.source_text.specs.Lines.{Files}
use Rattle.source_text.specs.Tuples.{NamedTuple, parts_of}
use Rattle.ma_lines.specs.declared.section.Entry.{Entry}
use Rattle.ma_lines.specs.Entries.{keeps_letters}
use Rattle.ma_lines.specs.Sections.{Section}
use Rattle.rule_tree.specs.Meaning.{coordinates}
use Rattle.cell_grid.specs.Space.{Space, cell_count, plane_count, dims_of, place_of}
use Rattle.cell_grid.specs.Places.{cell_in}
use Rattle.atomic_face.specs.declared.class.Class.{Class}
use Rattle.model_tree.specs.declared.link.End.{End}
use Rattle.model_tree.specs.declared.link.End.TheVariants.{Own, Child, Cell}
use Rattle.model_tree.specs.declared.link.Link.{Link}
use Rattle.model_tree.specs.Tree.{Word, Group, Tree, Trees, coupled, cells, atomic, nil, cons, atomic_leaf, cell_leaf, leaf_count, leaves_from, all_leaves_from}
use Rattle.model_tree.specs.Pull.{port_of_cell, distinct}
use Rattle.model_text.specs.declared.kind.Kind.{Kind}
use Rattle.model_text.specs.declared.kind.Kind.TheVariants.{BadValue, ComponentCycle}
use Rattle.model_text.specs.Refusals.{Refusal, refusal}
use Rattle.model_text.specs.Keyed.{section_named, Item, items_of, texts_of, least_refusal}
use Rattle.model_text.specs.Walk.{top, is_item, is_atomic, is_group, item_name, class_of, children_of, section_of_item, below, Step, at_section, at_item, section_in, walk_from, walk_at, walk, reached_sections, atomics, item_refused, section_refused, first_step_refused}
use Rattle.model_text.specs.Forms.{is_rule_word, are_words, are_ports, ends_of}
use Rattle.model_text.specs.Keys.{group_forms, forms, is_off, off_form, missing_key, double_space, again, section_keys, repeated_words, of_group, of_section, of_atomic}
use Rattle.model_text.specs.Spaces.{space_of}
use Rattle.model_text.specs.Stock.{class_of_item}
use Rattle.model_text.specs.Links.{port_part, rest_part, own_end, child_end, one_tuple, cell_end, end_in, link_of_ends, link_of_texts, link_of, link_entries, links_of}
use Rattle.model_text.specs.Trees.{ports_of, group_of_section, atomic_of, trees, component_of, first_tree, tree_of_section, tree_of_sections}
use Rattle.model_text.specs.Accepted.{Passed, PassesEachPhase}
use Rattle.run_model.specs.Bounds.{HasBoundedValues, HaveBoundedValues}
use Rattle.text_forms.specs.LogLine.{is_leaf}
use Rattle.text_forms.specs.Lines.{leaf_name}
use Rattle.text_forms.specs.LeafNames.{IsNamed}
use Rattle.answer_model.specs.AcceptedRuns.{ModelsAreBounded, ModelsAreNamed}
use Rattle.answer_model.proofs.LowerCase.{is_lower, IsFolded, EntriesFold, read_sections_fold, found_holds, words_lower}
use Rattle.model_text.proofs.Keys.{same_bytes}
use Rattle.model_text.proofs.Parts.{find_is}
use Rattle.run_model.proofs.BoxLaws.{inputs-named}
use Rattle.run_model.proofs.Basics.{true_false, none_some, some_none, cons_nil, some_same, then_there, map_there, on_there, both_none, both_are, both_false, both_empty, both_hold}

-- ---- names of links' ends

abbrev IsNamedEnd : End → Type 0
IsNamedEnd (Own p) = is_name p ≡ true
IsNamedEnd (Child p c) = is_name p ≡ true
IsNamedEnd (Cell p n) = is_name p ≡ true

cell_end_named : (s : Section) (text : Bytes) (e : End) → cell_end s text ≡ Some e → IsNamedEnd e
cell_end_named s text e h =
    let p = on_there (λ (t : NamedTuple). option_map (Cell (port_part text)) (option_and_then (cell_in (space_of s)) (then_some (is_name (port_part text)) t.place))) (option_and_then (one_tuple s) (parts_of (rest_part text))) e h in
    let q = map_there (Cell (port_part text)) (option_and_then (cell_in (space_of s)) (then_some (is_name (port_part text)) p.0.place)) e p.2 in
    let r = on_there (cell_in (space_of s)) (then_some (is_name (port_part text)) p.0.place) q.0 q.1 in
    subst IsNamedEnd q.2 (then_there (is_name (port_part text)) p.0.place r.0 r.1).0

end_named : (s : Section) (text : Bytes) (e : End) → end_in s text ≡ Some e → IsNamedEnd e
end_named s text e h = go (list_any (is_byte 64) text) (is_group s) h
  where
    go : (a b : Bool) → cond a (cond b (cell_end s text) (child_end text)) (own_end text) ≡ Some e → IsNamedEnd e
    go true true f = cell_end_named s text e f
    go true false f =
        let p = then_there (is_name (port_part text) && is_name (rest_part text)) (Child (port_part text) (rest_part text)) e f in
        subst IsNamedEnd p.1 (and_parts (is_name (port_part text)) (is_name (rest_part text)) p.0).0
    go false b f = let p = then_there (is_name text) (Own text) e f in subst IsNamedEnd p.1 p.0

abbrev IsNamedLink : Link → Type 0
IsNamedLink l = IsNamedEnd l.to

joined_named : (a b : Option End) (l : Link) → ((e : End) → b ≡ Some e → IsNamedEnd e) → link_of_ends a b ≡ Some l → IsNamedLink l
joined_named None None l h e = absurd (none_some e)
joined_named None (Some b) l h e = absurd (none_some e)
joined_named (Some a) None l h e = absurd (none_some e)
joined_named (Some a) (Some b) l h e = let made : Link = record { from = a; to = b } in subst IsNamedLink (some_same made l e) (h b refl)

texts_named : (s : Section) (ts : List Bytes) (l : Link) → link_of_texts s ts ≡ Some l → IsNamedLink l
texts_named s [] l e = absurd (none_some e)
texts_named s (a ∷ []) l e = absurd (none_some e)
texts_named s (a ∷ b ∷ []) l e = joined_named (end_in s a) (end_in s b) l (end_named s b) e
texts_named s (a ∷ b ∷ c ∷ ts) l e = absurd (none_some e)

links_named : (s : Section) (es : List Entry) → AllByRecursion IsNamedLink (filter_map (link_of s) es)
links_named s [] = tt
links_named s (e ∷ es) = go (link_of s e) refl (links_named s es)
  where
    go : (o : Option Link) → link_of s e ≡ o → AllByRecursion IsNamedLink (filter_map (link_of s) es) → AllByRecursion IsNamedLink (cons_option o (filter_map (link_of s) es))
    go None f rest = rest
    go (Some l) f rest = (texts_named s (ends_of e.value) l f, rest)

ports_named : (cell : ℕ) (ls : List Link) → AllByRecursion IsNamedLink ls → list_all is_name (filter_map (port_of_cell cell) ls) ≡ true
ports_named cell [] h = refl
ports_named cell (l ∷ ls) h = go l.to h.0 (ports_named cell ls h.1)
  where
    rest : List Word
    rest = filter_map (port_of_cell cell) ls

    go : (e : End) → IsNamedEnd e → list_all is_name rest ≡ true → list_all is_name (cons_option (let o : Option Word = elim e [ Own p ↦ None | Child p c ↦ None | Cell p n ↦ cond (n == cell) (Some p) None ] in o) rest) ≡ true
    go (Own p) k later = later
    go (Child p c) k later = later
    go (Cell p n) k later = at (n == cell)
      where
        at : (b : Bool) → list_all is_name (cons_option (cond b (Some p) None) rest) ≡ true
        at true = both_are (is_name p) (list_all is_name rest) k later
        at false = later

kept_named : (test : Bytes → Bool) (ws : List Bytes) → list_all is_name ws ≡ true → list_all is_name (filter test ws) ≡ true
kept_named test [] h = refl
kept_named test (w ∷ ws) h =
    let q = and_parts (is_name w) (list_all is_name ws) h in
    go (test w) q.0 (kept_named test ws q.1)
  where
    go : (b : Bool) → is_name w ≡ true → list_all is_name (filter test ws) ≡ true → list_all is_name (cond b (w ∷ filter test ws) (filter test ws)) ≡ true
    go true h k = both_are (is_name w) (list_all is_name (filter test ws)) h k
    go false h k = k

distinct_named : (ws : List Bytes) → list_all is_name ws ≡ true → list_all is_name (distinct ws) ≡ true
distinct_named [] h = refl
distinct_named (w ∷ ws) h =
    let q = and_parts (is_name w) (list_all is_name ws) h in
    both_are (is_name w) (list_all is_name (filter (λ y. not (bytes_eq w y)) (distinct ws))) q.0 (kept_named (λ y. not (bytes_eq w y)) (distinct ws) (distinct_named ws q.1))

-- ---- further ports: words in lower case are names

letter_is : (c : ℕ) → is_of_word c ≡ true → is_lower c ≡ true → is_of_name c ≡ true
letter_is c h k = grind (arith, nat_tests)

first_letter : (c : ℕ) → is_ascii_alphabetic c ≡ true → is_lower c ≡ true → is_of_name c ≡ true
first_letter c h k = grind (arith, nat_tests)

letters_are : (w : Bytes) → list_all is_of_word w ≡ true → list_all is_lower w ≡ true → list_all is_of_name w ≡ true
letters_are [] h k = refl
letters_are (c ∷ cs) h k =
    let p = and_parts (is_of_word c) (list_all is_of_word cs) h in
    let q = and_parts (is_lower c) (list_all is_lower cs) k in
    both_are (is_of_name c) (list_all is_of_name cs) (letter_is c p.0 q.0) (letters_are cs p.1 q.1)

word_named : (w : Bytes) → is_rule_word w ≡ true → list_all is_lower w ≡ true → is_name w ≡ true
word_named [] h k = absurd (true_false (sym h))
word_named (c ∷ cs) h k =
    let p = and_parts (is_ascii_alphabetic c && list_all is_of_word cs) (has_length 1 64 (c ∷ cs)) h in
    let q = and_parts (is_ascii_alphabetic c) (list_all is_of_word cs) p.0 in
    let r = and_parts (is_lower c) (list_all is_lower cs) k in
    both_are (has_length 1 64 (c ∷ cs)) (list_all is_of_name (c ∷ cs)) p.1 (both_are (is_of_name c) (list_all is_of_name cs) (first_letter c q.0 r.0) (letters_are cs q.1 r.1))

words_named : (ws : List Bytes) → list_all is_rule_word ws ≡ true → list_all (λ w. list_all is_lower w) ws ≡ true → list_all is_name ws ≡ true
words_named [] h k = refl
words_named (w ∷ ws) h k =
    let p = and_parts (is_rule_word w) (list_all is_rule_word ws) h in
    let q = and_parts (list_all is_lower w) (list_all (λ w. list_all is_lower w) ws) k in
    both_are (is_name w) (list_all is_name ws) (word_named w p.0 q.0) (words_named ws p.1 q.1)

abbrev ports_key : Bytes
ports_key = codes "neighborports"

first_right : (table : List (Bytes × (Bytes → Bool))) (e : Entry) (es : List Entry) → off_form table (e ∷ es) ≡ [] → (is_off (looked_up table e.key) e.value ≡ false) × (off_form table es ≡ [])
first_right table e es h = go (is_off (looked_up table e.key) e.value) h
  where
    go : (b : Bool) → map (λ (x : Entry). refusal x.line BadValue) (cond b (e ∷ filter (λ (x : Entry). is_off (looked_up table x.key) x.value) es) (filter (λ (x : Entry). is_off (looked_up table x.key) x.value) es)) ≡ [] → (b ≡ false) × (off_form table es ≡ [])
    go true h = absurd (cons_nil h)
    go false h = (refl, h)

words_join : (line : ℕ) (ws : List Bytes) (rest : List Item) → list_all is_name ws ≡ true → list_all is_name (map (λ (i : Item). i.text) rest) ≡ true
    → list_all is_name (map (λ (i : Item). i.text) (map (λ w. let x : Item = record { line = line; text = w } in x) ws ++ rest)) ≡ true
words_join line [] rest h k = k
words_join line (w ∷ ws) rest h k =
    let p = and_parts (is_name w) (list_all is_name ws) h in
    both_are (is_name w) (list_all is_name (map (λ (i : Item). i.text) (map (λ w. let x : Item = record { line = line; text = w } in x) ws ++ rest))) p.0 (words_join line ws rest p.1 k)

abbrev words_at : Entry → List Item
words_at e = map (λ w. record { line = e.line; text = w }) (words e.value)

not_off : (b : Bool) → not b ≡ false → b ≡ true
not_off true e = refl
not_off false e = absurd (true_false e)

entry_named : (e : Entry) → are_ports e.value ≡ true → list_all is_lower e.value ≡ true → list_all is_name (words e.value) ≡ true
entry_named e h k =
    let p = and_parts (are_words 3 e.value) (not (is_among (words e.value) (codes "out"))) h in
    let q = and_parts (has_length 1 3 (words e.value) && list_all is_rule_word (words e.value)) (not (has_repeat (words e.value))) p.0 in
    words_named (words e.value) (and_parts (has_length 1 3 (words e.value)) (list_all is_rule_word (words e.value)) q.0).1 (words_lower e.value k)

entries_named : (table : List (Bytes × (Bytes → Bool))) → looked_up table ports_key ≡ Some are_ports → (es : List Entry) → off_form table es ≡ [] → AllByRecursion IsFolded es
    → list_all is_name (map (λ (i : Item). i.text) (flat_map words_at (filter (λ (e : Entry). bytes_eq e.key ports_key) es))) ≡ true
entries_named table known [] h k = refl
entries_named table known (e ∷ es) h k =
    let p = first_right table e es h in
    go (bytes_eq e.key ports_key) refl p.0 (entries_named table known es p.1 k.1)
  where
    rest : List Entry
    rest = filter (λ (e : Entry). bytes_eq e.key ports_key) es

    go : (b : Bool) → bytes_eq e.key ports_key ≡ b → is_off (looked_up table e.key) e.value ≡ false → list_all is_name (map (λ (i : Item). i.text) (flat_map words_at rest)) ≡ true → list_all is_name (map (λ (i : Item). i.text) (flat_map words_at (cond b (e ∷ rest) rest))) ≡ true
    go false same off later = later
    go true same off later =
        let key = same_bytes e.key ports_key same in
        let at : is_off (looked_up table ports_key) e.value ≡ false = subst (λ x. is_off (looked_up table x) e.value ≡ false) key off in
        let right : are_ports e.value ≡ true = not_off (are_ports e.value) (subst (λ o. is_off o e.value ≡ false) known at) in
        let low : list_all is_lower e.value ≡ true = k.0.folds (ap keeps_letters key) in
        words_join e.line (words e.value) (flat_map words_at rest) (entry_named e right low) later

group_ports_named : (s : Section) → of_section s ≡ [] → is_group s ≡ true → EntriesFold s → list_all is_name (ports_of s) ≡ true
group_ports_named s h g k =
    let a = both_empty (again (section_keys s) [] s.entries ++ repeated_words [] (items_of (codes "in") s) ++ repeated_words [] (items_of (codes "out") s)) (cond (is_group s) (of_group s) (off_form (forms s) s.entries)) h in
    let b : of_group s ≡ [] = subst (λ b. cond b (of_group s) (off_form (forms s) s.entries) ≡ []) g a.1 in
    let c = both_empty (missing_key s ++ off_form (group_forms s) s.entries) (double_space s) b in
    entries_named (group_forms s) refl s.entries (both_empty (missing_key s) (off_form (group_forms s) s.entries) c.0).1 k

-- ---- what the walk says

abbrev IsRightStep : Step → Type 0
IsRightStep (at_section line deep s) = of_section s ≡ []
IsRightStep (at_item around i) = (is_item i ≡ true) × (is_among around (item_name i) ≡ false)

if_none : {A : Type 0} (b : Bool) (x : A) (o : Option A) → cond b (Some x) o ≡ None → (b ≡ false) × (o ≡ None)
if_none true x o e = absurd (some_none e)
if_none false x o e = (refl, e)

item_right : (ss : List Section) (before : List Item) (around : List Bytes) (i : Item) → item_refused ss before around i ≡ None → (is_item i ≡ true) × (is_among around (item_name i) ≡ false)
item_right ss before around i e =
    let form = if_none (not (is_item i)) BadValue _ e in
    let cycle = if_none (bytes_eq (item_name i) top || is_among around (item_name i)) ComponentCycle _ form.1 in
    (not_off (is_item i) form.0, (both_false (bytes_eq (item_name i) top) (is_among around (item_name i)) cycle.0).1)

mapped_none : (line : ℕ) (o : Option Kind) → option_map (refusal line) o ≡ None → o ≡ None
mapped_none line None e = refl
mapped_none line (Some k) e = absurd (some_none e)

steps_right : (ss : List Section) (before : List Item) (steps : List Step) → first_step_refused ss before steps ≡ None → AllByRecursion (λ s. of_section s ≡ []) (filter_map section_in steps) → AllByRecursion IsRightStep steps
steps_right ss before [] e k = tt
steps_right ss before (at_section line deep s ∷ steps) e k =
    let p = both_none (section_refused line deep s) (first_step_refused ss (before ++ []) steps) e in
    (k.0, steps_right ss (before ++ []) steps p.1 k.1)
steps_right ss before (at_item around i ∷ steps) e k =
    let p = both_none (option_map (refusal i.line) (item_refused ss before around i)) (first_step_refused ss (before ++ i ∷ []) steps) e in
    (item_right ss before around i (mapped_none i.line (item_refused ss before around i) p.0), steps_right ss (before ++ i ∷ []) steps p.1 k)

least_none : (rs : List Refusal) → least_refusal rs ≡ None → rs ≡ []
least_none [] e = refl
least_none (r ∷ rs) e = absurd (some_none e)

each_empty : {X A : Type 0} (f : X → List A) (xs : List X) → flat_map f xs ≡ [] → AllByRecursion (λ x. f x ≡ []) xs
each_empty f [] e = tt
each_empty f (x ∷ xs) e = let p = both_empty (f x) (flat_map f xs) e in (p.0, each_empty f xs p.1)

walk_right : (classes : List Class) (ss : List Section) → Passed classes ss → AllByRecursion IsRightStep (walk ss)
walk_right classes ss p =
    let parts = both_empty (flat_map of_section (reached_sections ss)) (flat_map (of_atomic ss) (atomics ss)) (least_none (flat_map of_section (reached_sections ss) ++ flat_map (of_atomic ss) (atomics ss)) p.keys) in
    steps_right ss [] (walk ss) p.tree (each_empty of_section (reached_sections ss) parts.0)

-- ---- the names of a tree

record IsNamedGroup (g : Group) : Type 0 where
  pub name : is_name g.name ≡ true
  pub ports : list_all is_name g.ports ≡ true
  pub links : AllByRecursion IsNamedLink g.links

abbrev mutual
  Named : Tree → Type 0
  Named (coupled name ins outs children links) = AllNamed children
  Named (cells g) = IsNamedGroup g
  Named (atomic name class settings) = is_name name ≡ true

  AllNamed : Trees → Type 0
  AllNamed nil = ⊤
  AllNamed (cons t ts) = Named t × AllNamed ts

trees_named : (ts : List Tree) → AllByRecursion Named ts → AllNamed (trees ts)
trees_named [] h = tt
trees_named (t ∷ ts) h = (h.0, trees_named ts h.1)

atomic_named : (ss : List Section) (i : Item) (o : Option Class) → is_name (item_name i) ≡ true → AllByRecursion Named (atomic_of ss i o)
atomic_named ss i None h = tt
atomic_named ss i (Some class) h = (h, tt)

abbrev Walks : ℕ → Files → List Section → Type 0
Walks n files ss = (around : List Bytes) (line : ℕ) (s : Section) → is_name s.name ≡ true → EntriesFold s → AllByRecursion IsRightStep (walk_from n ss around line s) → AllByRecursion Named (component_of n files ss s)

abbrev steps_behind : ℕ → List Section → List Bytes → Item → Option Section → List Step
steps_behind n ss around i o = elim o [ None ↦ [] | Some t ↦ walk_from n ss around i.line t ]

abbrev trees_behind : ℕ → Files → List Section → Item → Option Section → List Tree
trees_behind n files ss i o = elim o [ None ↦ atomic_of ss i (class_of_item i) | Some t ↦ component_of n files ss t ]

item_named : (n : ℕ) (files : Files) (ss : List Section) → AllByRecursion EntriesFold ss → Walks n files ss → (around : List Bytes) (i : Item) → (is_item i ≡ true) × (is_among around (item_name i) ≡ false)
    → AllByRecursion IsRightStep (steps_behind n ss around i (below ss around i)) → AllByRecursion Named (trees_behind n files ss i (section_of_item ss i))
item_named n files ss folds walks around i h k = go (section_of_item ss i) refl
  where
    name : is_name (item_name i) ≡ true
    name = (and_parts (is_name (item_name i)) (not (is_atomic i) || is_name (class_of i)) h.0).0

    bare : (t : Section) (b : Bool) → cond b None (section_named ss (item_name i)) ≡ Some t → section_named ss (item_name i) ≡ Some t
    bare t true e = absurd (none_some e)
    bare t false e = e

    go : (o : Option Section) → section_of_item ss i ≡ o → AllByRecursion Named (trees_behind n files ss i o)
    go None e = atomic_named ss i (class_of_item i) name
    go (Some t) e =
        let found = bare t (is_atomic i) e in
        let there : below ss around i ≡ Some t = ap (λ b. cond b None (section_of_item ss i)) h.1 ∙ e in
        walks around i.line t (subst (λ w. is_name w ≡ true) (sym (find_is (item_name i) ss t found)) name) (found_holds EntriesFold (λ (s : Section). bytes_eq s.name (item_name i)) ss t folds found)
        (subst (λ o. AllByRecursion IsRightStep (steps_behind n ss around i o)) there k)

split_right : (xs ys : List Step) → AllByRecursion IsRightStep (xs ++ ys) → AllByRecursion IsRightStep xs × AllByRecursion IsRightStep ys
split_right [] ys h = (tt, h)
split_right (x ∷ xs) ys h = let p = split_right xs ys h.1 in ((h.0, p.0), p.1)

abbrev item_steps : ℕ → List Section → List Bytes → Item → List Step
item_steps n ss around i = at_item around i ∷ steps_behind n ss around i (below ss around i)

items_named : (n : ℕ) (files : Files) (ss : List Section) → AllByRecursion EntriesFold ss → Walks n files ss → (around : List Bytes) (is : List Item) → AllByRecursion IsRightStep (flat_map (item_steps n ss around) is)
    → AllByRecursion Named (flat_map (λ (i : Item). trees_behind n files ss i (section_of_item ss i)) is)
items_named n files ss folds walks around [] h = tt
items_named n files ss folds walks around (i ∷ is) h =
    let p = split_right (item_steps n ss around i) (flat_map (item_steps n ss around) is) h in
    both_hold Named (trees_behind n files ss i (section_of_item ss i)) (flat_map (λ (i : Item). trees_behind n files ss i (section_of_item ss i)) is) (item_named n files ss folds walks around i p.0.0 p.0.1) (items_named n files ss folds walks around is p.1)

components_named : (n : ℕ) (files : Files) (ss : List Section) → AllByRecursion EntriesFold ss → Walks n files ss
components_named zero files ss folds around line s name fold h = tt
components_named (suc n) files ss folds around line s name fold h =
    (go (is_group s) refl (items_named n files ss folds (components_named n files ss folds) (s.name ∷ around) (children_of s) h.1), tt)
  where
    kids : List Tree
    kids = flat_map (λ (i : Item). trees_behind n files ss i (section_of_item ss i)) (children_of s)

    go : (b : Bool) → is_group s ≡ b → AllByRecursion Named kids → Named (let x : Tree = cond b (cells (group_of_section files ss s)) (coupled s.name (texts_of (codes "in") s) (texts_of (codes "out") s) (trees kids) (links_of s)) in x)
    go true g k = record { name = name; ports = group_ports_named s h.0 g fold; links = links_named s (link_entries s) }
    go false g k = trees_named kids k

tree_named : (bytes : Bytes) (files : Files) (classes : List Class) (ss : List Section) → AllByRecursion EntriesFold ss → Passed classes ss → Named (tree_of_sections files ss)
tree_named bytes files classes ss folds p = go (section_named ss top) refl (walk_right classes ss p)
  where
    first : (ts : List Tree) → AllByRecursion Named ts → Named (first_tree ts)
    first [] h = tt
    first (t ∷ ts) h = h.0

    go : (o : Option Section) → section_named ss top ≡ o → AllByRecursion IsRightStep (walk_at ss o) → Named (tree_of_section files ss o)
    go None e h = tt
    go (Some s) e h =
        first (component_of 17 files ss s)
        (components_named 17 files ss folds [] 0 s (subst (λ w. is_name w ≡ true) (sym (find_is top ss s e)) refl) (found_holds EntriesFold (λ (s : Section). bytes_eq s.name top) ss s folds e) h)

-- ---- the leaves

place_small : (s : Space) (cell : ℕ) → cell < 1048576 → list_all (λ n. nat_le n 1048575) (take (dims_of s) (coordinates (place_of s cell))) ≡ true
place_small s cell h =
    let p = place_of s cell in
    let row : p.row ≤ cell = below p.row (cell / plane_count s) (div-le_self (cell / plane_count s) s.columns) in
    let column : p.column ≤ cell = below p.column (cell / plane_count s) (mod-le (cell / plane_count s) s.columns) in
    go s.planes p.row p.column p.plane (small p.row row) (small p.column column) (small p.plane (mod-le cell (plane_count s)))
  where
    below : (a b : ℕ) → a ≤ cell / plane_count s → a ≤ cell
    below a b le = let less : cell / plane_count s ≤ cell = div-le_self cell (plane_count s) in omega arith

    small : (a : ℕ) → a ≤ cell → nat_le a 1048575 ≡ true
    small a le = let less : a ≤ 1048575 = omega arith in search (rules, nat_tests)

    go : (o : Option ℕ) (a b c : ℕ) → nat_le a 1048575 ≡ true → nat_le b 1048575 ≡ true → nat_le c 1048575 ≡ true → list_all (λ n. nat_le n 1048575) (take (elim o [ None ↦ 2 | Some n ↦ 3 ]) (a ∷ b ∷ c ∷ [])) ≡ true
    go None a b c ha hb hc = both_are (nat_le a 1048575) (nat_le b 1048575 && true) ha (both_are (nat_le b 1048575) true hb refl)
    go (Some n) a b c ha hb hc = both_are (nat_le a 1048575) (nat_le b 1048575 && (nat_le c 1048575 && true)) ha (both_are (nat_le b 1048575) (nat_le c 1048575 && true) hb (both_are (nat_le c 1048575) true hc refl))

cell_is_leaf : (g : Group) (first cell : ℕ) → is_name g.name ≡ true → cell < 1048576 → is_leaf (leaf_name (cell_leaf g first cell)) ≡ true
cell_is_leaf g first cell name h =
    both_are (is_name g.name && list_all (λ n. nat_le n 1048575) (take (dims_of g.space) (coordinates (place_of g.space cell)))) _
    (both_are (is_name g.name) (list_all (λ n. nat_le n 1048575) (take (dims_of g.space) (coordinates (place_of g.space cell)))) name (place_small g.space cell h))
    (go g.space.planes (place_of g.space cell).row (place_of g.space cell).column (place_of g.space cell).plane)
  where
    go : (o : Option ℕ) (a b c : ℕ) → ((length (take (elim o [ None ↦ 2 | Some n ↦ 3 ]) (a ∷ b ∷ c ∷ [])) == 0) || (length (take (elim o [ None ↦ 2 | Some n ↦ 3 ]) (a ∷ b ∷ c ∷ [])) == 2) || (length (take (elim o [ None ↦ 2 | Some n ↦ 3 ]) (a ∷ b ∷ c ∷ [])) == 3)) ≡ true
    go None a b c = refl
    go (Some n) a b c = refl

cells_named : (g : Group) → IsNamedGroup g → (first a n : ℕ) → a + n ≤ 1048576 → All IsNamed (map (cell_leaf g first) (range_with_len a n))
cells_named g h first a zero le = All-nil IsNamed
cells_named g h first a (suc n) le =
    All-cons IsNamed (cell_leaf g first a) (map (cell_leaf g first) (range_with_len (a + 1) n))
    (record { leaf = cell_is_leaf g first a h.name (omega arith); further = h.ports; ins = distinct_named (filter_map (port_of_cell a) g.links) (ports_named a g.links h.links) })
    (cells_named g h first (a + 1) n (omega arith))

plus_none : (n : ℕ) → n ≤ 1048576 → 0 + n ≤ 1048576
plus_none n h = omega arith

mutual
  leaves_named : (t : Tree) (first : ℕ) → Named t → HasBoundedValues t → All IsNamed (leaves_from t first)
  leaves_named (coupled name ins outs children links) first h k = all_leaves_named children first h k
  leaves_named (cells g) first h k = cells_named g h first 0 (cell_count g.space) (plus_none (cell_count g.space) k.size)
  leaves_named (atomic name class settings) first h k =
      All-cons IsNamed (atomic_leaf name class settings) [] (record { leaf = both_are (is_name name && true) true (both_are (is_name name) true h refl) refl; further = refl; ins = inputs-named class }) (All-nil IsNamed)

  all_leaves_named : (ts : Trees) (first : ℕ) → AllNamed ts → HaveBoundedValues ts → All IsNamed (all_leaves_from ts first)
  all_leaves_named nil first h k = All-nil IsNamed
  all_leaves_named (cons t ts) first h k =
      All-append IsNamed (leaves_from t first) (all_leaves_from ts (first + leaf_count t)) (leaves_named t first h.0 k.0) (all_leaves_named ts (first + leaf_count t) h.1 k.1)

pub models_are_named : PassesEachPhase → ModelsAreBounded → ModelsAreNamed
models_are_named passes bounded bytes files classes drawing t e =
    let a = passes bytes files classes drawing t e in
    leaves_named t 0 (subst Named (sym a.tree) (tree_named bytes files classes a.sections (read_sections_fold bytes a.sections a.lines) a.passed)) (bounded bytes files classes drawing t e)
