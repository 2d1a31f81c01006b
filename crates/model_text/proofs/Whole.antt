-- What is counted over the tree of an accepted model is what is counted over the walk, and within the limits: accepted models are sound.
use Rattle.std.proofs.Common.{◌≡◌, ℕ, zero, suc, ◌+◌, ◌≤◌, Bool, true, false, cond, Option, Some, None, List, [], ◌∷◌, ◌++◌, map, length, refl, sym, ap, ◌∙◌, subst, arith}
use Rattle.std.proofs.lemmas.Bool.{le-leb, ltb-false}
use Rattle.std.proofs.lemmas.Bool.Decides.{nat_tests}
use Rattle.std.specs.Prelude.{◌||◌, nat_lt}
use Rattle.std.specs.List.{filter, filter_map, flat_map, sum_by}
use Rattle.std.proofs.lemmas.List.{map-append, length-map, length-append}
use Rattle.std.proofs.lemmas.List.Elements.{filter-append, filter_map-append}
use Rattle.std.proofs.lemmas.List.Sums.{sum_by-append, sum_by-cons, sum-map}
use Rattle.std.specs.Option.{is_some}
use Rattle.std.proofs.lemmas.Simd.{map-map}
use Rattle.quantity.specs.Bytes.{Bytes, has_repeat}
use Rattle.cell_grid.specs.Space.{cell_count}
use Rattle.atomic_face.specs.declared.class.Class.{Class}
use Rattle.atomic_face.specs.Settings.{settings_of}
use Rattle.source_text.specs.Lines.{Files}
use Rattle.ma_lines.specs.Sections.{Section}
use Rattle.model_tree.specs.Tree as T
use Rattle.model_tree.specs.Tree.{Group, Tree, atomic, ins_of, outs_of}
use Rattle.model_tree.specs.Paths.{path_count}
use Rattle.model_tree.specs.Sound.{Totals, totals_of_both, totals, all_totals, is_sound_part, is_sound_model}
use Rattle.model_text.specs.Refusals.{Refusal}
use Rattle.model_text.specs.Keyed.{section_named, Item}
use Rattle.model_text.specs.Walk.{top, is_group, children_of, item_name, is_atomic, section_of_item, Step, at_section, below, items_in, section_in, walk_from, walk, reached_sections, groups}
use Rattle.model_text.specs.Spaces.{space_of, first_large}
use Rattle.model_text.specs.Stock.{params_of}
use Rattle.model_text.specs.Links.{link_of, link_entries, link_count}
use Rattle.model_text.specs.Trees.{initial_of, group_of_section, atomic_of, trees, first_tree, component_of, tree_of_sections, no_files}
use Rattle.model_text.specs.Accepted.{Passed, ReadsSoundModels}
use Rattle.model_text.specs.Met.{Met}
use Rattle.model_text.specs.BuildLaws.{PassedLinks, component_at, tree_at_item, FilesAreLaid, TotalsAreWithinLimits}
use Rattle.model_text.proofs.Basics.{if_none, shorter}
use Rattle.model_text.proofs.Phases.{passes_each_phase}
use Rattle.model_text.proofs.Walked.{components_differ, atomics_fit, links_passed, walk_is_met}
use Rattle.model_text.proofs.Parts.{find_is, trees_behind, ItemTrees, AllMet, item_steps, is_below, behind, split_all, item_trees, no_children, made_group, made_coupled, class_there, components_are_sound}
use Rattle.model_text.proofs.Bare.{initials, laid_alike, same_tree, paths_stay}

-- ---- counts over steps

abbrev names_in : List Step → List Bytes
names_in steps = map item_name (items_in steps)

abbrev pub groups_in : List Step → List Section
groups_in steps = filter is_group (filter_map section_in steps)

abbrev cells_in : List Step → ℕ
cells_in steps = sum_by (λ (s : Section). cell_count (space_of s)) (groups_in steps)

abbrev links_in : List Step → ℕ
links_in steps = sum_by (λ (s : Section). length (link_entries s)) (filter_map section_in steps)

module _ (files : Files) (ss : List Section) where
  -- what is counted in a tree is that of these steps
  pub record Counts (n : ℕ) (named : List Bytes) (steps : List Step) (t : Totals) (gs : List Group) : Type 0 where
    pub names : t.names ≡ named
    pub cells : t.cells ≡ cells_in steps
    pub atomics : t.atomics ≡ length (filter is_atomic (items_in steps))
    pub links : t.links ≤ links_in steps
    pub depth : t.depth ≤ n
    pub groups : gs ≡ map (group_of_section files ss) (groups_in steps)

  abbrev CountsOf : ℕ → List Bytes → List Step → List Tree → Type 0
  CountsOf n named steps ts = Counts n named steps (totals (first_tree ts)) (T.groups (first_tree ts))

  abbrev CountsAll : ℕ → List Step → List Item → Type 0
  CountsAll n steps is =
      let us = trees (map (tree_at_item n files ss) is) in
      Counts n (names_in steps) steps (all_totals us) (T.all_groups us)

  abbrev Counting : ℕ → Type 0
  Counting n = (around : List Bytes) (line : ℕ) (s : Section) → AllMet files ss (walk_from n ss around line s)
      → let steps = walk_from n ss around line s in CountsOf n (s.name ∷ names_in steps) steps (component_of n files ss s)

  -- ---- items

  count_item : (n : ℕ) → Counting n → (around : List Bytes) (i : Item) → AllMet files ss (item_steps n ss around i)
      → let steps = item_steps n ss around i in CountsOf n (names_in steps) steps (component_at n files ss i)
  count_item n counting around i h = go (section_of_item ss i) refl
    where
      found : below ss around i ≡ section_of_item ss i
      found = is_below ss around i h.0.0.1.not_around

      go : (o : Option Section) → section_of_item ss i ≡ o → let steps = item_steps n ss around i in CountsOf n (names_in steps) steps (component_at n files ss i)
      go None e =
          let a = class_there ss around i h.0 e in
          let alone : component_at n files ss i ≡ atomic (item_name i) a.1 (settings_of a.1 (params_of ss i)) ∷ [] = ap (trees_behind n files ss i) e ∙ ap (atomic_of ss i) a.2 in
          rw (found ∙ e, alone) (record { names = refl; cells = refl; atomics = rw a.0 refl; links = omega arith; depth = omega arith; groups = refl })
      go (Some t) e =
          let c = counting around i.line t (rw (found ∙ e) at h.1) in
          let bare = behind ss i t e in
          rw (found ∙ e, ap (trees_behind n files ss i) e)
          (record { names = rw (← bare.1) c.names; cells = c.cells; atomics = rw bare.0 c.atomics; links = c.links; depth = c.depth; groups = c.groups })

  -- ---- children

  both_count : (n : ℕ) (xs ys : List Step) (a b : Totals) (gs hs : List Group) → Counts n (names_in xs) xs a gs → Counts n (names_in ys) ys b hs → Counts n (names_in (xs ++ ys)) (xs ++ ys) (totals_of_both a b) (gs ++ hs)
  both_count n xs ys a b gs hs p q =
      record {
        names = simp (filter_map-append, map-append) (λ k. p.names k ++ q.names k);
        cells = simp (filter_map-append, filter-append, sum_by-append) (λ k. p.cells k + q.cells k);
        atomics = simp (filter_map-append, filter-append, length-append) (λ k. p.atomics k + q.atomics k);
        links = simp (filter_map-append, sum_by-append) (omega (arith, p.links, q.links));
        depth = omega (arith, p.depth, q.depth);
        groups = simp (filter_map-append, filter-append, map-append) (λ k. p.groups k ++ q.groups k);
      }

  count_items : (n : ℕ) → Counting n → (around : List Bytes) (is : List Item) → AllMet files ss (flat_map (item_steps n ss around) is) → CountsAll n (flat_map (item_steps n ss around) is) is
  count_items n counting around [] h = record { names = refl; cells = refl; atomics = refl; links = omega arith; depth = omega arith; groups = refl }
  count_items n counting around (i ∷ is) h =
      let p = split_all (Met files ss) (item_steps n ss around i) (flat_map (item_steps n ss around) is) h in
      let u = tree_at_item n files ss i in
      let us = trees (map (tree_at_item n files ss) is) in
      both_count n (item_steps n ss around i) (flat_map (item_steps n ss around) is) (totals u) (all_totals us) (T.groups u) (T.all_groups us) (count_item n counting around i p.0) (count_items n counting around is p.1)

  -- ---- sections

  count_components : (n : ℕ) → Counting n
  count_components zero around line s h = absurd cc
  count_components (suc n) around line s h =
      go (is_group s) refl (item_trees n files ss (components_are_sound n files ss) (s.name ∷ around) (children_of s) h.1) (count_items n (count_components n) (s.name ∷ around) (children_of s) h.1)
    where
      rest : List Step
      rest = flat_map (item_steps n ss (s.name ∷ around)) (children_of s)

      go : (b : Bool) → is_group s ≡ b → ItemTrees n files ss (children_of s) → CountsAll n rest (children_of s)
          → CountsOf (suc n) (s.name ∷ names_in rest) (at_section line false s ∷ rest) (component_of (suc n) files ss s)
      go true g kids c =
          let none : rest ≡ [] = ap (λ is. flat_map (item_steps n ss (s.name ∷ around)) is) (no_children s g) in
          subst (λ xs. CountsOf (suc n) (s.name ∷ names_in xs) (at_section line false s ∷ xs) (component_of (suc n) files ss s)) (sym none)
          (subst (CountsOf (suc n) (s.name ∷ []) (at_section line false s ∷ [])) (sym (made_group n files ss s g)) (record { names = refl; cells = rw g (omega arith); atomics = refl; links = omega (arith, shorter (link_of s) (link_entries s)); depth = omega arith; groups = rw g refl }))
      go false g kids c =
          let none : groups_in (at_section line false s ∷ rest) ≡ groups_in rest = ap (λ b. cond b (s ∷ groups_in rest) (groups_in rest)) g in
          subst (CountsOf (suc n) (s.name ∷ names_in rest) (at_section line false s ∷ rest)) (sym (made_coupled n files ss s g kids))
          (record {
            names = ap (λ ns. s.name ∷ ns) c.names;
            cells = c.cells ∙ ap (λ gs. sum_by (λ (s : Section). cell_count (space_of s)) gs) (sym none);
            atomics = c.atomics;
            links = omega (arith, c.links, sum_by-cons (λ (s : Section). length (link_entries s)) s (filter_map section_in rest), shorter (link_of s) (link_entries s));
            depth = omega (arith, c.depth);
            groups = c.groups ∙ ap (map (group_of_section files ss)) (sym none);
          })

-- ---- the whole tree

top_there : (o : Option Section) (x : Refusal) → cond (is_some o) None (Some x) ≡ None → (s : Section) × (o ≡ Some s)
top_there o x e = grind arith

parts_are_sound : (files : Files) (classes : List Class) (ss : List Section) → PassedLinks classes ss → is_sound_part (tree_of_sections files ss) ≡ true
parts_are_sound files classes ss p =
    let s = top_there (section_named ss top) _ p.top in
    let met = walk_is_met files classes ss p in
    rw s.1 (components_are_sound 17 files ss [] 0 s.0 (rw s.1 at met)).sound

pub all_counted : (files : Files) (classes : List Class) (ss : List Section) → PassedLinks classes ss
    → let t = tree_of_sections files ss in Counts files ss 17 (top ∷ names_in (walk ss)) (walk ss) (totals t) (T.groups t)
all_counted files classes ss p =
    let s = top_there (section_named ss top) _ p.top in
    let met = walk_is_met files classes ss p in
    let c = count_components files ss 17 [] 0 s.0 (rw s.1 at met) in
    rw s.1 (subst (λ name. CountsOf files ss 17 (name ∷ names_in (walk_from 17 ss [] 0 s.0)) (walk_from 17 ss [] 0 s.0) (component_of 17 files ss s.0)) (find_is top ss s.0 s.1) c)

-- ---- the limits

cells_fit : (gs : List Section) (cells : ℕ) → first_large cells gs ≡ None → cells ≤ 1048576 → cells + sum_by (λ (s : Section). cell_count (space_of s)) gs ≤ 1048576
cells_fit [] cells e h = omega arith
cells_fit (g ∷ gs) cells e h = grind (arith, nat_tests, sum_by-cons (λ (s : Section). cell_count (space_of s)) g gs, cells_fit gs (cells + cell_count (space_of g)))

limits : (a b c : ℕ) (x : Refusal) → cond (nat_lt 16384 a || nat_lt 65536 b || nat_lt 65536 c) (Some x) None ≡ None → (a ≤ 16384) × (b ≤ 65536) × (c ≤ 65536)
limits a b c x e = grind (arith, nat_tests)

pub totals_are_within_limits : TotalsAreWithinLimits
totals_are_within_limits files classes ss p =
    let bare = tree_of_sections no_files ss in
    let n = totals (tree_of_sections files ss) in
    let l = limits (link_count ss) (length (ins_of bare)) (length (outs_of bare)) _ p.link_limit in
    let c = all_counted files classes ss p in
    record {
      sound = parts_are_sound files classes ss p;
      totals = rw (
        ap has_repeat c.names,
        components_differ ss p.tree,
        le-leb n.cells 1048576 (omega (arith, c.cells, cells_fit (groups ss) 0 p.cells (omega arith))),
        le-leb n.atomics 4096 (omega (arith, c.atomics, atomics_fit ss p.tree)),
        le-leb n.links 16384 (omega (arith, c.links, l.0, sum-map (λ (s : Section). length (link_entries s)) (reached_sections ss))),
        le-leb n.depth 17 c.depth,
      );
      ins = rw (paths_stay files ss).ins l.1;
      outs = rw (paths_stay files ss).outs l.2;
    }

sound_tree : (files : Files) (classes : List Class) (ss : List Section) → Passed classes ss → is_sound_model (tree_of_sections files ss) ≡ true
sound_tree files classes ss p =
    let t = tree_of_sections files ss in
    let l = totals_are_within_limits files classes ss (links_passed classes ss p) in
    let paths = ltb-false 65536 _ (if_none (nat_lt 65536 (path_count (tree_of_sections no_files ss))) _ None p.routes).0 in
    rw (l.sound, l.totals, le-leb (length (ins_of t)) 65536 l.ins, le-leb (length (outs_of t)) 65536 l.outs, le-leb (path_count t) 65536 (rw (paths_stay files ss).paths paths))

pub reads_sound_models : ReadsSoundModels
reads_sound_models bytes files classes drawing t e =
    let a = passes_each_phase bytes files classes drawing t e in rw a.tree (sound_tree files classes a.sections a.passed)

-- ---- initial values

pub files_are_laid : FilesAreLaid
files_are_laid files classes ss p =
    let t = tree_of_sections files ss in
    let u = tree_of_sections no_files ss in
    let in_t = (all_counted files classes ss p).groups in
    let in_u = (all_counted no_files classes ss p).groups in
    let many : length (T.groups u) ≡ length (T.groups t) = ap length in_u ∙ length-map (groups ss) (group_of_section no_files ss) ∙ sym (ap length in_t ∙ length-map (groups ss) (group_of_section files ss)) in
    let values : initials (T.groups t) ≡ map (initial_of files) (groups ss) = ap initials in_t ∙ map-map (λ (g : Group). g.initial) (group_of_section files ss) (groups ss) in
    rw (← values) (sym (laid_alike u t (sym (same_tree files ss)) many))
