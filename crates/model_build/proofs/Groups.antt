-- The groups of the tree of sections, one after another as the walk meets their sections.
use Rattle.std.proofs.Common.{◌≡◌, ℕ, zero, suc, Bool, true, false, cond, Option, Some, None, List, [], ◌∷◌, ◌++◌, map, refl, sym, ap, ◌∙◌, subst, ℤ}
use Rattle.std.specs.List.{flat_map}
use Rattle.std.proofs.lemmas.List.{map-append}
use Rattle.std.proofs.lemmas.List.Elements.{filter-append, filter_map-append}
use Rattle.std.proofs.lemmas.Option.{none-some}
use Rattle.quantity.specs.Bytes.{Bytes}
use Rattle.source_text.specs.Lines.{Files}
use Rattle.ma_lines.specs.Sections.{Section}
use Rattle.model_tree.specs.declared.component.Component.{Component, Row_of-Component, end_of-Component, more_of-Component}
use Rattle.model_tree.specs.declared.component.Component.TheVariants.{Coupled as in_tree, Coupled', Cells, Atomic}
use Rattle.model_tree.specs.Stands.{part_of, parts_of}
use Rattle.model_tree.specs.Tree as T
use Rattle.model_tree.specs.Tree.{Group}
use Rattle.model_text.specs.Keyed.{section_named, Item}
use Rattle.model_text.specs.Walk.{top, is_group, children_of, section_of_item, Step, at_section, at_item, section_in, walk_from, walk_at}
use Rattle.model_text.specs.Trees.{group_of_section, trees, component_of, first_tree, tree_of_section}
use Rattle.model_text.specs.Met.{Met}
use Rattle.model_text.specs.BuildLaws.{tree_at_item, WalkIsMet, ItemsAreMade, SectionsAreMade}
use Rattle.model_text.proofs.Parts.{AllMet, item_steps, is_below, class_there, no_children, split_all}
use Rattle.model_build.specs.Ahead.{reached_in, groups_in}
use Rattle.model_build.specs.Laws.{GroupsAreMet, GroupsAreAlike}

-- ---- whatever the settings

mutual
  alike : (c : Component) (s t : ℕ → List ℤ) → T.groups (part_of c s) ≡ T.groups (part_of c t)
  alike (Coupled' name ins outs shape children links) s t = all_alike _ children s t
  alike (Cells g) s t = refl
  alike (Atomic a) s t = refl

  all_alike : (k : _) (row : Row_of-Component k) (s t : ℕ → List ℤ) → T.all_groups (parts_of row s) ≡ T.all_groups (parts_of row t)
  all_alike k end_of-Component s t = refl
  all_alike k (more_of-Component c rest) s t = λ j. alike c s t j ++ all_alike _ rest s t j

pub groups_are_alike : GroupsAreAlike
groups_are_alike m s t = alike (in_tree m.top) s t

-- ---- items

module _ (files : Files) (ss : List Section) (items : ItemsAreMade) (sections : SectionsAreMade) where
  abbrev of_steps : List Step → List Group
  of_steps steps = map (group_of_section files ss) (groups_in steps)

  steps_join : (xs ys : List Step) → of_steps (xs ++ ys) ≡ of_steps xs ++ of_steps ys
  steps_join xs ys = rw (filter_map-append section_in xs ys, filter-append is_group (reached_in xs) (reached_in ys), map-append (group_of_section files ss) (groups_in xs) (groups_in ys))

  abbrev Grouping : ℕ → Type 0
  Grouping n = (around : List Bytes) (line : ℕ) (s : Section) → AllMet files ss (walk_from n ss around line s) → T.groups (first_tree (component_of n files ss s)) ≡ of_steps (walk_from n ss around line s)

  abbrev steps_behind : ℕ → List Bytes → Item → Option Section → List Step
  steps_behind n around i o = at_item around i ∷ elim o [ None ↦ [] | Some t ↦ walk_from n ss around i.line t ]

  item : (n : ℕ) → Grouping n → (around : List Bytes) (i : Item) → AllMet files ss (item_steps n ss around i) → T.groups (tree_at_item n files ss i) ≡ of_steps (item_steps n ss around i)
  item n grouping around i h = go (section_of_item ss i) refl
    where
      steps : (o : Option Section) → section_of_item ss i ≡ o → item_steps n ss around i ≡ steps_behind n around i o
      steps o e = ap (steps_behind n around i) (is_below ss around i h.0.0.1.not_around ∙ e)

      go : (o : Option Section) → section_of_item ss i ≡ o → T.groups (tree_at_item n files ss i) ≡ of_steps (item_steps n ss around i)
      go None e = let a = class_there ss around i h.0 e in ap (λ ts. T.groups (first_tree ts)) (items.class n files ss i a.1 e a.2) ∙ sym (ap of_steps (steps None e))
      go (Some t) e =
          let met : AllMet files ss (steps_behind n around i (Some t)) = subst (AllMet files ss) (steps (Some t) e) h in
          ap (λ ts. T.groups (first_tree ts)) (items.section n files ss i t e) ∙ grouping around i.line t met.1 ∙ sym (ap of_steps (steps (Some t) e))

  all_items : (n : ℕ) → Grouping n → (around : List Bytes) (is : List Item) → AllMet files ss (flat_map (item_steps n ss around) is) → T.all_groups (trees (map (tree_at_item n files ss) is)) ≡ of_steps (flat_map (item_steps n ss around) is)
  all_items n grouping around [] h = refl
  all_items n grouping around (i ∷ is) h =
      let p = split_all (Met files ss) (item_steps n ss around i) (flat_map (item_steps n ss around) is) h in
      (λ k. item n grouping around i p.0 k ++ all_items n grouping around is p.1 k) ∙ sym (steps_join (item_steps n ss around i) (flat_map (item_steps n ss around) is))

  grouped : (n : ℕ) → Grouping n
  grouped zero around line s h = absurd (none-some _ (sym h.0.0))
  grouped (suc n) around line s h = go (is_group s) refl (all_items n (grouped n) (s.name ∷ around) (children_of s) h.1)
    where
      rest : List Step
      rest = flat_map (item_steps n ss (s.name ∷ around)) (children_of s)

      first : (b : Bool) → is_group s ≡ b → of_steps (at_section line false s ∷ rest) ≡ map (group_of_section files ss) (cond b (s ∷ groups_in rest) (groups_in rest))
      first b g = ap (λ b. map (group_of_section files ss) (cond b (s ∷ groups_in rest) (groups_in rest))) g

      go : (b : Bool) → is_group s ≡ b → T.all_groups (trees (map (tree_at_item n files ss) (children_of s))) ≡ of_steps rest → T.groups (first_tree (component_of (suc n) files ss s)) ≡ of_steps (at_section line false s ∷ rest)
      go true g c =
          let none : groups_in rest ≡ [] = ap (λ is. groups_in (flat_map (item_steps n ss (s.name ∷ around)) is)) (no_children s g) in
          ap (λ ts. T.groups (first_tree ts)) (sections.group n files ss s g) ∙ sym (first true g ∙ ap (λ gs. map (group_of_section files ss) (s ∷ gs)) none)
      go false g c = ap (λ ts. T.groups (first_tree ts)) (sections.coupled_of n files ss around line s g h) ∙ c ∙ sym (first false g)

pub groups_are_met : WalkIsMet → ItemsAreMade → SectionsAreMade → GroupsAreMet
groups_are_met walk items sections files classes ss p = go (section_named ss top) (walk files classes ss p)
  where
    go : (o : Option Section) → AllMet files ss (walk_at ss o) → T.groups (tree_of_section files ss o) ≡ map (group_of_section files ss) (groups_in (walk_at ss o))
    go None h = refl
    go (Some s) h = grouped files ss items sections 17 [] 0 s h
