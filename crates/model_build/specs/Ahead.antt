-- Private: the parts of a model that are still to be taken, against the steps of the walk that are
-- still to be gone.
use Rattle.std.specs.Prelude.{◌≡◌, ℕ, Option, None, Some, List, Vec, [], ◌∷◌, ◌++◌, map, codes, IfSome}
use Rattle.std.specs.declared.alloc.Global.{Global}
use Rattle.std.specs.List.{filter, filter_map, flat_map, AllByRecursion}
use Rattle.quantity.specs.declared.value.Value.TheVariants.{Undefined}
use Rattle.cell_grid.specs.Initial.{uniform_values}
use Rattle.ma_lines.specs.Sections.{Section}
use Rattle.model_tree.specs.declared.component.Component.{Component}
use Rattle.model_tree.specs.declared.component.Coupled.{Coupled}
use Rattle.model_tree.specs.declared.group.Atomic.{Atomic}
use Rattle.model_tree.specs.declared.group.CellGroup.{CellGroup}
use Rattle.model_tree.specs.declared.link.Link.{Link}
use Rattle.model_tree.specs.Tree.{Group, Tree}
use Rattle.model_tree.specs.Stands.{part_of, group_of}
use Rattle.model_leaves.specs.Leaves.{Settings}
use Rattle.model_text.specs.Keyed.{Item, texts_of}
use Rattle.quantity.specs.Bytes.{Bytes}
use Rattle.model_text.specs.Walk.{Step, is_group, is_atomic, walk_from, section_in, items_in}
use Rattle.model_text.specs.Links.{links_of}
use Rattle.model_text.specs.Trees.{component_of, first_tree, no_files}
use Rattle.model_text.specs.BuildLaws.{tree_at_item}
use Rattle.model_walk.specs.declared.met.MetComponent.{MetComponent}
use Rattle.model_walk.specs.Met.{item_steps, steps_of}
use Rattle.model_walk.specs.MetTree.{MetWith, IsMet, IsItemMet, AreMet}
use Rattle.model_text.specs.Met.{Met}
use Rattle.model_walk.specs.Placed.{Placed, plain_group, placed_of}
use Rattle.model_walk.specs.Sets.{Sets, sets_shown, sets_of}
use Rattle.model_build.specs.Blank.{blanked}
use Rattle.model_build.specs.Boxes as held
use Rattle.model_build.specs.declared.parts.Parts.{Parts}
use Rattle.model_build.specs.Built.{settings_of_item}
use Rattle.model_build.specs.Settled.{name_and_class, named_item}

-- ---- what stands ahead

-- a component has the name and the class of an item; and where settings are told, its box those that
-- the item's parameters give
abbrev pub IsOfItem : Option Settings → List Section → Atomic → Item → Type 0
IsOfItem told ss a i =
    (name_and_class a ≡ named_item i)
    × IfSome told (λ settings. Some (settings a.at.0) ≡ settings_of_item ss i)

-- there is one for each item
abbrev pub AreOfItems : Option Settings → List Section → List Atomic → List Item → Type 0
AreOfItems told ss [] [] = Unit {0}
AreOfItems told ss [] (i ∷ is) = ⊥
AreOfItems told ss (a ∷ bs) [] = ⊥
AreOfItems told ss (a ∷ bs) (i ∷ is) = IsOfItem told ss a i × AreOfItems told ss bs is

-- the lists of links that are left
abbrev pub lists_of : Parts → List (List Link)
lists_of p = map (λ (l : Vec Link Global). l.items) p.links.rest.items

-- the sections of steps
abbrev pub reached_in : List Step → List Section
reached_in steps = filter_map section_in steps

-- those of groups
abbrev pub groups_in : List Step → List Section
groups_in steps = filter is_group (reached_in steps)

-- the items of atomic components
abbrev pub atomics_in : List Step → List Item
atomics_in steps = filter is_atomic (items_in steps)

-- the parts that are left are those that these steps ask for
pub record IsAhead (told : Option Settings) (ss : List Section) (p : Parts)
    (steps : List Step) : Type 0 where
  pub groups : map plain_group p.groups.rest.items ≡ map placed_of (groups_in steps)
  pub rules : map sets_shown p.rules.rest.items ≡ map (sets_of ss) (groups_in steps)
  pub atomics : AreOfItems told ss p.atomics.rest.items (atomics_in steps)
  pub links : lists_of p ≡ map links_of (reached_in steps)

-- ---- what is taken

-- the parts of these steps are gone
abbrev pub Takes : List Section → List Step → Parts → Parts → Type 0
Takes ss steps old new =
    (told : Option Settings) (later : List Step) → IsAhead told ss old (steps ++ later)
    → IsAhead told ss new later

-- under settings that the parts have, these components are these trees, with ? in each cell
abbrev pub Shows : List Section → List Step → List Tree → Parts → List Component → Type 0
Shows ss steps ts old cs =
    (settings : Settings) (later : List Step) → IsAhead (Some settings) ss old (steps ++ later)
    → map (λ c. part_of c settings) cs ≡ map blanked ts

-- these trees are built of the parts of these steps
pub record Builds (ss : List Section) (steps : List Step) (ts : List Tree) (old : Parts)
    (cs : List Component) (new : Parts) : Type 0 where
  pub takes : Takes ss steps old new
  pub shows : Shows ss steps ts old cs

-- the atomic components of these are those that are gone
abbrev pub Boxes : Parts → List Component → Parts → Type 0
Boxes old cs new = old.atomics.rest.items ≡ flat_map held.atomics_in cs ++ new.atomics.rest.items

-- nothing is met but right sections and items
abbrev pub AllMet : List Section → List Step → Type 0
AllMet ss steps = AllByRecursion (Met no_files ss) steps

-- the parts of these steps, which meet nothing but right sections and items, stand in front
pub record StandAhead (ss : List Section) (p : Parts) (steps : List Step) : Type 0 where
  pub later : List Step
  pub parts : IsAhead None ss p (steps ++ later)
  pub met : AllMet ss steps

-- those of a section that was met so
pub record SectionAhead (m : MetWith) (p : Parts) : Type 0 where
  pub levels : ℕ
  pub sections : List Section
  pub around : List Bytes
  pub line : ℕ
  pub section : Section
  pub met : IsMet levels sections around section m
  pub stand : StandAhead sections p (walk_from levels sections around line section)

-- those of the items of these components
pub record ItemsAhead (cs : List MetComponent) (p : Parts) : Type 0 where
  pub levels : ℕ
  pub sections : List Section
  pub inside : List Bytes
  pub items : List Item
  pub met : AreMet levels sections inside items cs
  pub stand : StandAhead sections p (steps_of levels sections inside items)

-- those of the item of one component
pub record ItemAhead (c : MetComponent) (p : Parts) : Type 0 where
  pub levels : ℕ
  pub sections : List Section
  pub inside : List Bytes
  pub item : Item
  pub met : IsItemMet levels sections inside item c
  pub stand : StandAhead sections p (item_steps levels sections inside item)

-- ---- what is built

-- a section that was met so is built to the component c: its parts are taken from the front of old,
-- and new is left. It is said where the walk from that section meets nothing but what is right
abbrev pub BuildsSection : MetWith → Parts → Component → Parts → Type 0
BuildsSection m old c new =
    (levels : ℕ) (ss : List Section) (around : List Bytes) (line : ℕ) (s : Section)
    → IsMet levels ss around s m → AllMet ss (walk_from levels ss around line s) →
    Builds ss (walk_from levels ss around line s)
    (first_tree (component_of levels no_files ss s) ∷ []) old (c ∷ []) new

-- what a coupled component is made of
pub record IsMade (c : Coupled) (s : Section) (cs : List Component)
    (list : List Link) : Type 0 where
  pub name : c.name ≡ s.name
  pub ins : c.ins.items ≡ texts_of (codes "in") s
  pub outs : c.outs.items ≡ texts_of (codes "out") s
  pub children : c.children.items ≡ cs
  pub links : c.links.items ≡ list

-- the components of items
abbrev pub BuildsItems : List MetComponent → Parts → List Component → Parts → Type 0
BuildsItems ms old cs new =
    (levels : ℕ) (ss : List Section) (inside : List Bytes) (is : List Item)
    → AreMet levels ss inside is ms → AllMet ss (steps_of levels ss inside is) →
    Builds ss (steps_of levels ss inside is) (map (tree_at_item levels no_files ss) is) old cs new

-- the component of one item
abbrev pub BuildsItem : MetComponent → Parts → Component → Parts → Type 0
BuildsItem m old c new =
    (levels : ℕ) (ss : List Section) (inside : List Bytes) (i : Item)
    → IsItemMet levels ss inside i m → AllMet ss (item_steps levels ss inside i) →
    Builds ss (item_steps levels ss inside i) (tree_at_item levels no_files ss i ∷ []) old (c ∷ [])
    new

-- ---- one part

-- the first links are taken
pub record TakesLinks (old : Parts) (list : List Link) (new : Parts) : Type 0 where
  pub groups : new.groups.rest.items ≡ old.groups.rest.items
  pub rules : new.rules.rest.items ≡ old.rules.rest.items
  pub atomics : new.atomics.rest.items ≡ old.atomics.rest.items
  pub links : lists_of old ≡ list ∷ lists_of new

-- the first atomic component is taken
pub record TakesAtomic (old : Parts) (a : Atomic) (new : Parts) : Type 0 where
  pub groups : new.groups.rest.items ≡ old.groups.rest.items
  pub rules : new.rules.rest.items ≡ old.rules.rest.items
  pub atomics : old.atomics.rest.items ≡ a ∷ new.atomics.rest.items
  pub links : new.links.rest.items ≡ old.links.rest.items

-- the group of what its section says, its rules and its links, with ? in each cell
abbrev pub group_with : Placed → Sets → List Link → Group
group_with p r links =
    record {
      name = p.section.name;
      space = p.space;
      settings = p.settings;
      offsets = p.names.offsets;
      initial = uniform_values p.space Undefined;
      zones = p.zones;
      zone_rules = r.zone_rules;
      rule_sets = r.rule_sets;
      port_rules = r.port_rules;
      ins = p.ins;
      outs = p.outs;
      links = links;
      variables = p.names.variables;
      variable_values = p.variable_values;
      ports = p.names.ports;
      port_values = p.port_values;
    }

-- the first group, its rules and its links are taken
pub record TakesGroup (old : Parts) (g : CellGroup) (new : Parts) : Type 0 where
  pub placed : Placed
  pub sets : Sets
  pub list : List Link
  pub groups : map plain_group old.groups.rest.items ≡ placed
      ∷ map plain_group new.groups.rest.items
  pub rules : map sets_shown old.rules.rest.items ≡ sets ∷ map sets_shown new.rules.rest.items
  pub atomics : new.atomics.rest.items ≡ old.atomics.rest.items
  pub links : lists_of old ≡ list ∷ lists_of new
  pub made : group_of g ≡ group_with placed sets list
