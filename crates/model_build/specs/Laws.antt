-- What the laying of values leaves as it is, and what it makes.
use Rattle.std.specs.Prelude.{◌≡◌, ◌≤◌, true, List, map, length}
use Rattle.quantity.specs.declared.value.Value.{Value}
use Rattle.quantity.specs.declared.bounds.TheConstants.{MAX_PATHS}
use Rattle.source_text.specs.Lines.{Files}
use Rattle.ma_lines.specs.Sections.{Section}
use Rattle.atomic_face.specs.StockView.{Stocked}
use Rattle.atomic_face.specs.declared.class.Class.{Class}
use Rattle.model_tree.specs.declared.component.Coupled.{Coupled}
use Rattle.model_tree.specs.declared.component.Component.TheVariants.{Coupled as in_tree}
use Rattle.model_leaves.specs.declared.table.Model.{Model}
use Rattle.model_tree.specs.Tree as T
use Rattle.model_tree.specs.Tree.{Tree}
use Rattle.model_leaves.specs.Laid.{tree_with_values, Covers}
use Rattle.model_leaves.specs.Leaves.{Settings}
use Rattle.model_leaves.specs.Models.{tree_of}
use Rattle.model_tree.specs.Stands.{part_of}
use Rattle.model_tree.specs.Paths.{path_count}
use Rattle.model_tree.specs.Sound.{is_sound_model}
use Rattle.route_flat.specs.Nets.{Flat, RoutesOf}
use Rattle.model_text.specs.Walk.{groups}
use Rattle.model_text.specs.Trees as text
use Rattle.model_text.specs.Trees.{group_of_section}
use Rattle.model_text.specs.BuildLaws.{PassedLinks, IsWithinLimits}
use Rattle.model_build.specs.Blank.{blank_group, blanked}
use Rattle.model_build.specs.Boxes.{HasBoxes, BoxesStand}

-- ---- groups

-- the groups of the tree are those of the sections, in their order
abbrev pub GroupsAreMet : Type 0
GroupsAreMet =
    (files : Files) (classes : List Class) (ss : List Section) → PassedLinks classes ss
    → T.groups (text.tree_of_sections files ss) ≡ map (group_of_section files ss) (groups ss)

-- whatever the settings of boxes
abbrev pub GroupsAreAlike : Type 0
GroupsAreAlike = (m : Model) (s t : Settings) → T.groups (tree_of m s) ≡ T.groups (tree_of m t)

-- ---- values

-- a value for each group takes the place of ? as of another
pub record BlanksAreLaid : Type 0 where
  pub laying : (t : Tree) (values : List (List Value)) → length values ≡ length (T.groups t)
      → tree_with_values values (blanked t) ≡ tree_with_values values t
  pub groups_are : (t : Tree) → T.groups (blanked t) ≡ map blank_group (T.groups t)
  pub paths : (t : Tree) → path_count (blanked t) ≡ path_count t

-- routes stay those of the tree, and the paths as many
pub record LinksStay : Type 0 where
  pub routes : (t : Tree) (values : List (List Value)) (r : Flat) → RoutesOf t r
      → RoutesOf (tree_with_values values t) r
  pub paths : (t : Tree) (values : List (List Value)) → path_count (tree_with_values values t)
      ≡ path_count t

-- with a value for each cell of each group
abbrev pub LaidModelsAreSound : Type 0
LaidModelsAreSound =
    (t : Tree) (values : List (List Value)) → IsWithinLimits t → path_count t ≤ MAX_PATHS
    → length values ≡ length (T.groups t) → Covers values (T.groups t)
    → is_sound_model (tree_with_values values t) ≡ true

-- ---- boxes

-- of a component, and of each model whose tree it is, with whatever values
abbrev pub BoxesAreStanding : Type 0
BoxesAreStanding =
    (stock : List Stocked) (top : Coupled) (m : Model) (values : List (List Value))
    → HasBoxes stock top
    → ((s : Settings) → tree_of m s ≡ tree_with_values values (part_of (in_tree top) s))
    → BoxesStand stock m
