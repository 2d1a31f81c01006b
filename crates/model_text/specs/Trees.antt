-- The tree of an accepted file.
use Rattle.std.specs.Prelude.{ℕ, zero, suc, Option, Some, None, List, [], ◌∷◌, map, length, replicate, if◌then◌else◌, codes}
use Rattle.std.specs.List.{filter_map, flat_map}
use Rattle.std.specs.Option.{option_map, option_and_then, unwrap_or}
use Rattle.quantity.specs.declared.value.Value.{Value}
use Rattle.quantity.specs.declared.value.Value.TheVariants.{Undefined}
use Rattle.cell_grid.specs.Region.{Region}
use Rattle.atomic_face.specs.declared.class.Class.{Class}
use Rattle.quantity.specs.declared.delay.DelayKind.{DelayKind}
use Rattle.quantity.specs.declared.delay.DelayKind.TheVariants.{Transport, Inertial}
use Rattle.model_tree.specs.declared.group.CellSettings.{CellSettings}
use Rattle.model_tree.specs.declared.group.PortRule.{PortRule}
use Rattle.model_tree.specs.Tree.{Group, Tree, Trees, coupled, cells, atomic, nil, cons}
use Rattle.quantity.specs.Bytes.{Bytes, words}
use Rattle.quantity.specs.Digits.{whole_number}
use Rattle.quantity.specs.Literals.{value_in}
use Rattle.quantity.specs.declared.bounds.TheConstants.{MAX_LEVELS}
use Rattle.source_text.specs.Lines.{Files}
use Rattle.ma_lines.specs.Sections.{Section}
use Rattle.model_text.specs.Keyed.{section_named, value_of, is_this_value, texts_of, Item}
use Rattle.model_text.specs.Walk.{top, is_group, children_of, item_name, section_of_item}
use Rattle.model_text.specs.Spaces.{space_of, offsets_of, zones_of, rows_of, PortPlace, port_places}
use Rattle.cell_grid.specs.Initial.{uniform_values, with_rows, with_map, with_cells, map_file, cells_file}
use Rattle.atomic_face.specs.Settings.{settings_of}
use Rattle.model_text.specs.Stock.{class_of_item, params_of}
use Rattle.model_text.specs.Rules.{rule_sets_of, rule_set_number}
use Rattle.model_text.specs.Links.{links_of}

-- ---- groups

-- transport, unless the group says inertial
abbrev pub delay_kind_of : Section → DelayKind
delay_kind_of s =
    if is_this_value (codes "inertial") (value_of (codes "delay") s) then Inertial else Transport

-- 100 ms, unless the group says another
abbrev pub default_delay_of : Section → ℕ
default_delay_of s =
    unwrap_or (option_and_then (whole_number 9) (value_of (codes "defaultdelaytime") s)) 100

-- what a group says of each of its cells
abbrev pub cell_settings_of : Section → CellSettings
cell_settings_of s = record { kind = delay_kind_of s; default_delay = default_delay_of s }

-- `?`, unless the group says another
abbrev pub initial_value_of : Section → Value
initial_value_of s =
    unwrap_or (option_and_then value_in (value_of (codes "initialvalue") s)) Undefined

-- the values of the map file
abbrev pub map_of : Files → Section → Option (List Value)
map_of files s =
    option_and_then (map_file (space_of s))
    (option_and_then files (value_of (codes "initialmapvalue") s))

-- the cells and values of the cells file
abbrev pub cells_of : Files → Section → Option (List (ℕ × Value))
cells_of files s =
    option_and_then (cells_file (space_of s))
    (option_and_then files (value_of (codes "initialcellsvalue") s))

-- first initialvalue, then the row entries by line, the map file and the cells file
abbrev pub initial_of : Files → Section → List Value
initial_of files s =
    with_cells
    (with_map
    (with_rows (space_of s) (uniform_values (space_of s) (initial_value_of s)) (rows_of s))
    (map_of files s)) (cells_of files s)

-- the rules of a port, where its cell is in the space
abbrev pub port_rule_of : Section → PortPlace → Option PortRule
port_rule_of s p =
    option_map
    (λ cell. record { port = p.port; cell = cell; rules = rule_set_number s p.rules }) p.cell

-- the values of a key, or ? for each of these names
abbrev pub values_of_key : Option Bytes → List Bytes → List Value
values_of_key None names = replicate (length names) Undefined
values_of_key (Some text) names = filter_map value_in (words text)

-- the names of the variables
abbrev pub variables_of : Section → List Bytes
variables_of s = texts_of (codes "statevariables") s

-- the names of the further ports
abbrev pub ports_of : Section → List Bytes
ports_of s = texts_of (codes "neighborports") s

-- the group of a section
abbrev pub group_of_section : Files → List Section → Section → Group
group_of_section files ss s =
    record {
      name = s.name;
      space = space_of s;
      settings = cell_settings_of s;
      offsets = offsets_of s;
      initial = initial_of files s;
      zones = zones_of s;
      zone_rules = map (λ (z : Region). rule_set_number s z.name) (zones_of s);
      rule_sets = rule_sets_of ss s;
      port_rules = filter_map (port_rule_of s) (port_places s);
      ins = texts_of (codes "in") s;
      outs = texts_of (codes "out") s;
      links = links_of s;
      variables = variables_of s;
      variable_values = values_of_key (value_of (codes "statevalues") s) (variables_of s);
      ports = ports_of s;
      port_values = values_of_key (value_of (codes "portvalues") s) (ports_of s);
    }

-- ---- components

-- an atomic component, where its class is there
abbrev pub atomic_of : List Section → Item → Option Class → List Tree
atomic_of ss i None = []
atomic_of ss i (Some class) = atomic (item_name i) class (settings_of class (params_of ss i)) ∷ []

-- a list of components as children
abbrev pub trees : List Tree → Trees
trees [] = nil
trees (t ∷ ts) = cons t (trees ts)

-- the component of a section that may have so many levels of sections, itself included
abbrev pub component_of : ℕ → Files → List Section → Section → List Tree
component_of zero files ss s = []
component_of (suc n) files ss s =
    (if is_group s then cells (group_of_section files ss s)
    else
    coupled s.name (texts_of (codes "in") s) (texts_of (codes "out") s)
    (trees (flat_map
    (λ (i : Item).
    elim (section_of_item ss i)
    [ None ↦ atomic_of ss i (class_of_item i) | Some t ↦ component_of n files ss t ])
    (children_of s)))
    (links_of s))
    ∷ []

-- what stands where there is no section top
abbrev pub no_tree : Tree
no_tree = coupled top [] [] nil []

-- the only component of a list
abbrev pub first_tree : List Tree → Tree
first_tree [] = no_tree
first_tree (t ∷ ts) = t

-- the component of a section that is there
abbrev pub tree_of_section : Files → List Section → Option Section → Tree
tree_of_section files ss None = no_tree
tree_of_section files ss (Some s) = first_tree (component_of MAX_LEVELS files ss s)

-- the component top of these sections, with the values that these files give
abbrev pub tree_of_sections : Files → List Section → Tree
tree_of_sections files ss = tree_of_section files ss (section_named ss top)

-- nothing is there under any name
abbrev pub no_files : Files
no_files name = None
