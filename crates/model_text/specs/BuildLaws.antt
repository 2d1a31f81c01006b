-- What the phases before the count of paths say: what makes the model, part by part, and what its
-- initial files leave as it is.
use Rattle.std.specs.Prelude.{◌≡◌, ℕ, suc, ◌≤◌, true, false, Some, None, List, [], ◌∷◌}
use Rattle.std.specs.Prelude.{map, length, IfSome, codes}
use Rattle.std.specs.List.{AllByRecursion}
use Rattle.quantity.specs.Bytes.{Bytes}
use Rattle.quantity.specs.declared.bounds.TheConstants.{MAX_PORTS}
use Rattle.cell_grid.specs.Watched.{CanHold}
use Rattle.atomic_face.specs.declared.class.Class.{Class}
use Rattle.atomic_face.specs.Settings.{settings_of}
use Rattle.atomic_face.specs.Once.{are_once}
use Rattle.source_text.specs.Lines.{Files}
use Rattle.ma_lines.specs.Sections.{Section}
use Rattle.model_tree.specs.Tree.{Tree, coupled, cells, atomic, leaf_count, ins_of, outs_of}
use Rattle.model_tree.specs.Pull.{sources, top_sources}
use Rattle.model_tree.specs.Paths.{path_count}
use Rattle.model_tree.specs.Sound.{totals, is_sound_part, is_within_limits}
use Rattle.model_text.specs.Keyed.{Item, texts_of}
use Rattle.model_text.specs.Walk.{is_group, children_of, item_name, section_of_item, walk, walk_from}
use Rattle.model_text.specs.Walk.{groups, atomics, top_refused, tree_refused}
use Rattle.model_text.specs.Keys.{keys_refused}
use Rattle.model_text.specs.Spaces.{space_of, cells_refused, spaces_refused}
use Rattle.model_text.specs.Stock.{class_of_item, params_of, stock_refused}
use Rattle.model_text.specs.Rules.{rules_refused}
use Rattle.model_text.specs.Links.{links_of, links_refused}
use Rattle.model_text.specs.Trees.{initial_of, group_of_section, atomic_of, trees}
use Rattle.model_text.specs.Trees.{component_of, first_tree, tree_of_sections, no_files}
use Rattle.model_text.specs.ModelOf.{link_limit_refused}
use Rattle.model_leaves.specs.Laid.{tree_with_values}
use Rattle.model_text.specs.Met.{Met}

-- the phases up to the limit of links refuse nothing
pub record PassedLinks (classes : List Class) (ss : List Section) : Type 0 where
  pub top : top_refused ss ≡ None
  pub tree : tree_refused ss ≡ None
  pub keys : keys_refused ss ≡ None
  pub cells : cells_refused ss ≡ None
  pub spaces : spaces_refused ss ≡ None
  pub stock : stock_refused classes ss ≡ None
  pub rules : rules_refused ss ≡ None
  pub links : links_refused ss ≡ None
  pub link_limit : link_limit_refused ss ≡ None

-- ---- groups

-- a space of the sizes of each group can be held
abbrev pub SpacesCanBeHeld : Type 0
SpacesCanBeHeld =
    (ss : List Section) → keys_refused ss ≡ None → cells_refused ss ≡ None →
    AllByRecursion (λ s. CanHold (space_of s).rows (space_of s).columns (space_of s).planes)
    (groups ss)

-- ---- atomic components

-- no parameter that may stand once stands again
abbrev pub ParametersStandOnce : Type 0
ParametersStandOnce =
    (ss : List Section) → keys_refused ss ≡ None
    → AllByRecursion
    (λ i. IfSome (class_of_item i) (λ class. are_once class (params_of ss i) ≡ true)) (atomics ss)

-- ---- the whole tree

-- its components are sound, and what is counted over it is within the limits
pub record IsWithinLimits (t : Tree) : Type 0 where
  pub sound : is_sound_part t ≡ true
  pub totals : is_within_limits (totals t) ≡ true
  pub ins : length (ins_of t) ≤ MAX_PORTS
  pub outs : length (outs_of t) ≤ MAX_PORTS

-- whatever its files
abbrev pub TotalsAreWithinLimits : Type 0
TotalsAreWithinLimits =
    (files : Files) (classes : List Class) (ss : List Section) → PassedLinks classes ss
    → IsWithinLimits (tree_of_sections files ss)

-- the files change no port, link or path
pub record FilesChangeNoPath (files : Files) (ss : List Section) : Type 0 where
  pub ins : ins_of (tree_of_sections files ss) ≡ ins_of (tree_of_sections no_files ss)
  pub outs : outs_of (tree_of_sections files ss) ≡ outs_of (tree_of_sections no_files ss)
  pub leaves : leaf_count (tree_of_sections files ss) ≡ leaf_count (tree_of_sections no_files ss)
  pub sources : sources (tree_of_sections files ss) ≡ sources (tree_of_sections no_files ss)
  pub top_sources : top_sources (tree_of_sections files ss)
      ≡ top_sources (tree_of_sections no_files ss)
  pub paths : path_count (tree_of_sections files ss) ≡ path_count (tree_of_sections no_files ss)

-- the tree with files is the tree without them, with the values of each group laid on it
abbrev pub FilesAreLaid : Type 0
FilesAreLaid =
    (files : Files) (classes : List Class) (ss : List Section) → PassedLinks classes ss
    → tree_of_sections files ss
    ≡ tree_with_values (map (initial_of files) (groups ss)) (tree_of_sections no_files ss)

-- whatever the files and the sections
abbrev pub PathsStay : Type 0
PathsStay = (files : Files) (ss : List Section) → FilesChangeNoPath files ss

-- ---- components, item by item

-- the component of an item: that of the section behind it, or an atomic one
abbrev pub component_at : ℕ → Files → List Section → Item → List Tree
component_at n files ss i =
    elim (section_of_item ss i)
    [ None ↦ atomic_of ss i (class_of_item i) | Some t ↦ component_of n files ss t ]

-- the same where it stands alone
abbrev pub tree_at_item : ℕ → Files → List Section → Item → Tree
tree_at_item n files ss i = first_tree (component_at n files ss i)

-- each step of the walk is that of a right section or item
abbrev pub WalkIsMet : Type 0
WalkIsMet =
    (files : Files) (classes : List Class) (ss : List Section) → PassedLinks classes ss
    → AllByRecursion (Met files ss) (walk ss)

-- an item's component is that of its section, which is bare, or an atomic one of its class
pub record ItemsAreMade : Type 0 where
  pub section : (n : ℕ) (files : Files) (ss : List Section) (i : Item) (t : Section)
      → section_of_item ss i ≡ Some t → component_at n files ss i ≡ component_of n files ss t
  pub class : (n : ℕ) (files : Files) (ss : List Section) (i : Item) (class : Class)
      → section_of_item ss i ≡ None → class_of_item i ≡ Some class
      → component_at n files ss i
      ≡ atomic (item_name i) class (settings_of class (params_of ss i)) ∷ []

-- a group's component, and a coupled one with a component for each item, where the walk from it is
-- met
pub record SectionsAreMade : Type 0 where
  pub group : (n : ℕ) (files : Files) (ss : List Section) (s : Section) → is_group s ≡ true
      → component_of (suc n) files ss s ≡ cells (group_of_section files ss s) ∷ []
  pub coupled_of : (n : ℕ) (files : Files) (ss : List Section) (around : List Bytes) (line : ℕ)
      (s : Section) → is_group s ≡ false
      → AllByRecursion (Met files ss) (walk_from (suc n) ss around line s)
      → component_of (suc n) files ss s
      ≡ coupled s.name (texts_of (codes "in") s) (texts_of (codes "out") s)
      (trees (map (tree_at_item n files ss) (children_of s))) (links_of s) ∷ []
  pub alone : (n : ℕ) (files : Files) (ss : List Section) (around : List Bytes) (line : ℕ)
      (s : Section) → AllByRecursion (Met files ss) (walk_from (suc n) ss around line s)
      → AllByRecursion (λ i. component_at n files ss i ≡ tree_at_item n files ss i ∷ [])
      (children_of s)
