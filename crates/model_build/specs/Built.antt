-- The tree that is built of sections, before its groups have values, and the boxes of its atomic
-- components.
use Rattle.std.specs.Prelude.{◌≡◌, Option, Some, List, ℤ, map}
use Rattle.std.specs.Option.{option_map}
use Rattle.ma_lines.specs.Sections.{Section}
use Rattle.atomic_face.specs.declared.class.Class.{Class}
use Rattle.atomic_face.specs.Settings.{settings_of}
use Rattle.model_tree.specs.declared.component.Coupled.{Coupled}
use Rattle.model_tree.specs.declared.component.Component.TheVariants.{Coupled as in_tree}
use Rattle.model_tree.specs.declared.group.Atomic.{Atomic}
use Rattle.model_tree.specs.Stands.{part_of}
use Rattle.model_leaves.specs.Leaves.{Settings}
use Rattle.model_text.specs.Keyed.{Item}
use Rattle.model_text.specs.Walk.{atomics}
use Rattle.model_text.specs.Stock.{class_of_item, params_of}
use Rattle.model_text.specs.Trees.{tree_of_sections, no_files}
use Rattle.model_text.specs.BuildLaws.{PassedLinks}
use Rattle.model_build.specs.Blank.{blanked}

-- with boxes of some classes no phase up to the limit of links refuses the sections
abbrev pub PassesSome : List Section → Type 0
PassesSome ss = (classes : List Class) × PassedLinks classes ss

-- the settings that the parameters of an item give, where it has a class
abbrev pub settings_of_item : List Section → Item → Option (List ℤ)
settings_of_item ss i = option_map (λ class. settings_of class (params_of ss i)) (class_of_item i)

-- the boxes of these components have the settings that their parameters give
abbrev pub HasSettings : List Section → Settings → List Atomic → Type 0
HasSettings ss settings boxes =
    map (λ (a : Atomic). Some (settings a.at.0)) boxes ≡ map (settings_of_item ss) (atomics ss)

-- under these settings the component is the tree of the sections, with ? in each cell
abbrev pub IsBuilt : List Section → Settings → Coupled → Type 0
IsBuilt ss settings top = part_of (in_tree top) settings ≡ blanked (tree_of_sections no_files ss)
