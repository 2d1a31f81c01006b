-- The boxes of an accepted model have the settings of parameters that are all of their form.
use Rattle.std.proofs.Common.{◌≡◌, ℕ, zero, suc, ◌+◌, Bool, true, false, cond, Option, Some, None}
use Rattle.std.proofs.Common.{List, [], ◌∷◌, ◌++◌, map, refl, sym, ap, ◌∙◌, subst}
use Rattle.std.specs.Prelude.{⊤, codes}
use Rattle.std.specs.List.{All, AllByRecursion, filter, filter_map, flat_map, range_with_len}
use Rattle.std.specs.Option.{option_map, option_and_then}
use Rattle.std.proofs.lemmas.List.Elements.{All-nil, All-cons, All-append}
use Rattle.quantity.specs.Bytes.{Bytes}
use Rattle.source_text.specs.Lines.{Files}
use Rattle.cell_grid.specs.Space.{cell_count}
use Rattle.ma_lines.specs.Sections.{Section}
use Rattle.atomic_face.specs.declared.class.Class.{Class}
use Rattle.atomic_face.specs.Settings.{first_line_off}
use Rattle.model_tree.specs.Tree.{Group, Tree, Trees, coupled, cells, atomic, nil, cons}
use Rattle.model_tree.specs.Tree.{atomic_leaf, cell_leaf, leaf_count, leaves_from, all_leaves_from}
use Rattle.model_text.specs.declared.kind.Kind.TheVariants.{BadParameter}
use Rattle.model_text.specs.Refusals.{refusal}
use Rattle.model_text.specs.Keyed.{section_named, texts_of, Item}
use Rattle.model_text.specs.Walk.{top, is_group, is_atomic, children_of, section_of_item, Step}
use Rattle.model_text.specs.Walk.{at_section, at_item, item_in, below, walk_from, walk}
use Rattle.model_text.specs.Stock.{class_of_item, params_of, params_refused, box_refused}
use Rattle.model_text.specs.Stock.{component_refused, first_component_refused}
use Rattle.model_text.specs.Links.{links_of}
use Rattle.model_text.specs.Trees.{group_of_section, trees, component_of, first_tree, tree_of_section, tree_of_sections}
use Rattle.model_text.specs.Met.{Met}
use Rattle.model_text.specs.Accepted.{PassesEachPhase}
use Rattle.model_text.specs.BuildLaws.{PassedLinks, component_at, ItemsAreMade, WalkIsMet}
use Rattle.model_text.proofs.Parts.{item_steps, split_all, is_below, class_there}
use Rattle.run_model.proofs.Basics.{true_false, some_none, both_none, both_hold}
use Rattle.saved_runs.specs.Settled.{AreSettled, IsSettled}
use Rattle.saved_runs.specs.Accepted.{ModelsAreSettled}

-- ---- what the stock says of the items of the walk

abbrev HasRightParameters : List Section → Item → Type 0
HasRightParameters ss i = params_refused ss i ≡ None

items_right : (ss : List Section) (classes taken : List Class) (is : List Item)
    → first_component_refused ss classes taken is ≡ None → AllByRecursion (HasRightParameters ss) is
items_right ss classes taken [] e = tt
items_right ss classes taken (i ∷ is) e =
    let p = both_none (component_refused ss classes taken i) (first_component_refused ss classes
    (taken ++ filter_map class_of_item (i ∷ [])) is) e in
    let q = both_none (option_map (refusal i.line) (box_refused classes taken (class_of_item i)))
    (params_refused ss i) p.0 in
    (q.1, items_right ss classes (taken ++ filter_map class_of_item (i ∷ [])) is p.1)

abbrev IsRight : List Section → Step → Type 0
IsRight ss (at_section line deep s) = ⊤
IsRight ss (at_item around i) = is_atomic i ≡ true → HasRightParameters ss i

steps_right : (ss : List Section) (steps : List Step)
    → AllByRecursion (HasRightParameters ss) (filter is_atomic (filter_map item_in steps))
    → AllByRecursion (IsRight ss) steps
steps_right ss [] h = tt
steps_right ss (at_section line deep s ∷ steps) h = (tt, steps_right ss steps h)
steps_right ss (at_item around i ∷ steps) h = go (is_atomic i) refl (λ k. steps_right ss steps k) h
  where
    go : (b : Bool) → is_atomic i ≡ b
        → (AllByRecursion (HasRightParameters ss) (filter is_atomic (filter_map item_in steps))
        → AllByRecursion (IsRight ss) steps)
        → AllByRecursion (HasRightParameters ss)
        (cond b (i ∷ filter is_atomic (filter_map item_in steps))
        (filter is_atomic (filter_map item_in steps)))
        → (is_atomic i ≡ true → HasRightParameters ss i) × AllByRecursion (IsRight ss) steps
    go true e rest k = (λ f. k.0, rest k.1)
    go false e rest k = (λ f. absurd (true_false (sym f ∙ e)), rest k)

-- ---- trees

abbrev mutual
  SettledTree : Tree → Type 0
  SettledTree (coupled name ins outs children links) = SettledTrees children
  SettledTree (cells g) = ⊤
  SettledTree (atomic name class settings) = AreSettled class settings

  SettledTrees : Trees → Type 0
  SettledTrees nil = ⊤
  SettledTrees (cons t ts) = SettledTree t × SettledTrees ts

trees_settled : (ts : List Tree) → AllByRecursion SettledTree ts → SettledTrees (trees ts)
trees_settled [] h = tt
trees_settled (t ∷ ts) h = (h.0, trees_settled ts h.1)

none_mapped : {A B : Type 0} (f : A → B) (o : Option A) → option_map f o ≡ None → o ≡ None
none_mapped f None e = refl
none_mapped f (Some x) e = absurd (some_none e)

right_of_class : (ss : List Section) (i : Item) (c : Class) → class_of_item i ≡ Some c
    → HasRightParameters ss i → first_line_off c (params_of ss i) ≡ None
right_of_class ss i c is e =
    none_mapped (λ line. refusal line BadParameter) (first_line_off c (params_of ss i))
    (sym (ap (option_and_then (λ class. option_map (λ line. refusal line BadParameter)
    (first_line_off class (params_of ss i)))) is) ∙ e)

module _ (files : Files) (ss : List Section) (made : ItemsAreMade) where
  abbrev Walks : ℕ → Type 0
  Walks n =
      (around : List Bytes) (line : ℕ) (s : Section)
      → AllByRecursion (Met files ss) (walk_from n ss around line s)
      → AllByRecursion (IsRight ss) (walk_from n ss around line s)
      → AllByRecursion SettledTree (component_of n files ss s)

  child : (n : ℕ) → Walks n → (around : List Bytes) (i : Item)
      → AllByRecursion (Met files ss) (item_steps n ss around i)
      → AllByRecursion (IsRight ss) (item_steps n ss around i)
      → AllByRecursion SettledTree (component_at n files ss i)
  child n walks around i h k = go (section_of_item ss i) refl
    where
      go : (o : Option Section) → section_of_item ss i ≡ o
          → AllByRecursion SettledTree (component_at n files ss i)
      go None e =
          let c = class_there ss around i h.0 e in
          subst (AllByRecursion SettledTree) (sym (made.class n files ss i c.1 e c.2)) (
            record {
              parameters = params_of ss i;
              right = right_of_class ss i c.1 c.2 (k.0 c.0);
              given = refl;
            },
            tt,
          )
      go (Some t) e =
          let there = is_below ss around i h.0.0.1.not_around ∙ e in
          let met : AllByRecursion (Met files ss) (walk_from n ss around i.line t) =
          subst (λ (o : Option Section). AllByRecursion (Met files ss) (let x : List Step =
          elim o [ None ↦ [] | Some u ↦ walk_from n ss around i.line u ] in x)) there h.1 in
          let right : AllByRecursion (IsRight ss) (walk_from n ss around i.line t) =
          subst (λ (o : Option Section). AllByRecursion (IsRight ss) (let x : List Step =
          elim o [ None ↦ [] | Some u ↦ walk_from n ss around i.line u ] in x)) there k.1 in
          subst (AllByRecursion SettledTree) (sym (made.section n files ss i t e))
          (walks around i.line t met right)

  children : (n : ℕ) → Walks n → (around : List Bytes) (is : List Item)
      → AllByRecursion (Met files ss) (flat_map (item_steps n ss around) is)
      → AllByRecursion (IsRight ss) (flat_map (item_steps n ss around) is)
      → AllByRecursion SettledTree (flat_map (component_at n files ss) is)
  children n walks around [] h k = tt
  children n walks around (i ∷ is) h k =
      let p = split_all (Met files ss) (item_steps n ss around i) (flat_map (item_steps n ss around)
      is) h in
      let q = split_all (IsRight ss) (item_steps n ss around i) (flat_map (item_steps n ss around)
      is) k in
      both_hold SettledTree (component_at n files ss i) (flat_map (component_at n files ss) is)
      (child n walks around i p.0 q.0) (children n walks around is p.1 q.1)

  settle : (n : ℕ) → Walks n
  settle zero around line s h k = tt
  settle (suc n) around line s h k =
      (go (children n (settle n) (s.name ∷ around) (children_of s) h.1 k.1) (is_group s), tt)
    where
      go : AllByRecursion SettledTree (flat_map (component_at n files ss) (children_of s))
          → (b : Bool) → SettledTree (let x : Tree =
          cond b (cells (group_of_section files ss s)) (coupled s.name (texts_of (codes "in") s)
          (texts_of (codes "out") s) (trees (flat_map (component_at n files ss) (children_of s)))
          (links_of s)) in x)
      go below true = tt
      go below false = trees_settled (flat_map (component_at n files ss) (children_of s)) below

  first_settled : (ts : List Tree) → AllByRecursion SettledTree ts → SettledTree (first_tree ts)
  first_settled [] h = tt
  first_settled (t ∷ ts) h = h.0

  tree_settled : AllByRecursion (Met files ss) (walk ss) → AllByRecursion (IsRight ss) (walk ss)
      → SettledTree (tree_of_sections files ss)
  tree_settled h k = go (section_named ss top) h k
    where
      go : (o : Option Section) → AllByRecursion (Met files ss) (let x : List Step =
          elim o [ None ↦ [] | Some s ↦ walk_from 17 ss [] 0 s ] in x)
          → AllByRecursion (IsRight ss) (let x : List Step =
          elim o [ None ↦ [] | Some s ↦ walk_from 17 ss [] 0 s ] in x)
          → SettledTree (tree_of_section files ss o)
      go None h k = tt
      go (Some s) h k = first_settled (component_of 17 files ss s) (settle 17 [] 0 s h k)

-- ---- leaves

cells_settled : (g : Group) (first a n : ℕ)
    → All IsSettled (map (cell_leaf g first) (range_with_len a n))
cells_settled g first a zero = All-nil IsSettled
cells_settled g first a (suc n) =
    All-cons IsSettled (cell_leaf g first a) (map (cell_leaf g first) (range_with_len (a + 1) n)) tt
    (cells_settled g first (a + 1) n)

mutual
  leaves_settled : (t : Tree) (first : ℕ) → SettledTree t → All IsSettled (leaves_from t first)
  leaves_settled (coupled name ins outs children links) first h = all_settled children first h
  leaves_settled (cells g) first h = cells_settled g first 0 (cell_count g.space)
  leaves_settled (atomic name class settings) first h =
      All-cons IsSettled (atomic_leaf name class settings) [] h (All-nil IsSettled)

  all_settled : (ts : Trees) (first : ℕ) → SettledTrees ts
      → All IsSettled (all_leaves_from ts first)
  all_settled nil first h = All-nil IsSettled
  all_settled (cons t ts) first h =
      All-append IsSettled (leaves_from t first) (all_leaves_from ts (first + leaf_count t))
      (leaves_settled t first h.0) (all_settled ts (first + leaf_count t) h.1)

-- ---- accepted models

pub models_are_settled : PassesEachPhase → WalkIsMet → ItemsAreMade → ModelsAreSettled
models_are_settled passes met made t accepted =
    let a = passes accepted.bytes accepted.files accepted.classes accepted.drawing t accepted.found
    in
    let p = a.passed in
    let links : PassedLinks accepted.classes a.sections =
    record {
      top = p.top;
      tree = p.tree;
      keys = p.keys;
      cells = p.cells;
      spaces =
          p.spaces;
      stock = p.stock;
      rules = p.rules;
      links = p.links;
      link_limit = p.link_limit;
    } in
    let steps = met accepted.files accepted.classes a.sections links in
    let right = steps_right a.sections (walk a.sections) (items_right a.sections accepted.classes []
    _ p.stock) in
    leaves_settled t 0 (subst SettledTree (sym a.tree) (tree_settled accepted.files a.sections made
    steps right))
