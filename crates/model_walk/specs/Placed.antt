-- What the section of a group says, but for its rules and links.
use Rattle.std.specs.Prelude.{Some, List, map, codes}
use Rattle.std.specs.List.{filter_map}
use Rattle.quantity.specs.Bytes.{Bytes}
use Rattle.quantity.specs.declared.value.Value.{Value}
use Rattle.rule_tree.specs.Scope.{Names}
use Rattle.rule_words.specs.Shown as syntax
use Rattle.cell_grid.specs.Space.{Space}
use Rattle.cell_grid.specs.Region.{Region}
use Rattle.cell_grid.specs.Initial.{uniform_values, with_rows}
use Rattle.ma_lines.specs.Sections.{Section}
use Rattle.ma_lines.specs.InCode.{section_of}
use Rattle.model_tree.specs.declared.group.CellSettings.{CellSettings}
use Rattle.model_text.specs.Keyed.{Item, entries_of, value_of, texts_of}
use Rattle.model_text.specs.Spaces.{space_of, zones_of, rows_of, PortPlace, port_places}
use Rattle.model_text.specs.Rules.{rule_names_of, zone_item, port_item}
use Rattle.model_text.specs.Trees.{cell_settings_of, initial_value_of, variables_of}
use Rattle.model_text.specs.Trees.{ports_of, values_of_key}
use Rattle.model_walk.specs.Shown.{item_of}
use Rattle.model_walk.specs.declared.placed.PlacedGroup.{PlacedGroup}
use Rattle.model_walk.specs.declared.placed.PlacedRule.{PlacedRule}

-- the rules that the zones of a section name
abbrev pub zone_rule_items : Section → List Item
zone_rule_items s = filter_map (zone_item s) (entries_of (codes "zone") s)

-- the rules that its ports of cells name
abbrev pub port_rule_items : Section → List Item
port_rule_items s = filter_map (port_item s) (entries_of (codes "portintransition") s)

-- a group's section, and what it says: its space, the names of its rules, what its zones and ports
-- name
pub record Placed : Type 0 where
  pub section : Section
  pub space : Space
  pub settings : CellSettings
  pub names : Names
  pub zones : List Region
  pub zone_rules : List Item
  pub port_places : List PortPlace
  pub port_rules : List Item
  pub ins : List Bytes
  pub outs : List Bytes
  pub variable_values : List Value
  pub port_values : List Value

-- what a section says
abbrev pub placed_of : Section → Placed
placed_of s =
    record {
      section = s;
      space = space_of s;
      settings = cell_settings_of s;
      names = rule_names_of s;
      zones = zones_of s;
      zone_rules = zone_rule_items s;
      port_places = port_places s;
      port_rules = port_rule_items s;
      ins = texts_of (codes "in") s;
      outs = texts_of (codes "out") s;
      variable_values = values_of_key (value_of (codes "statevalues") s) (variables_of s);
      port_values = values_of_key (value_of (codes "portvalues") s) (ports_of s);
    }

-- a port of a cell in the space
abbrev pub place_shown : PlacedRule → PortPlace
place_shown p = record { port = p.port.now; cell = Some p.cell; rules = p.rules.now }

-- the name of its rules, with the entry's line
abbrev pub rule_shown : PlacedRule → Item
rule_shown p = record { line = p.line; text = p.rules.now }

-- the plain values of a group as it is kept
abbrev pub plain_group : PlacedGroup → Placed
plain_group g =
    record {
      section = section_of g.section.now;
      space = g.grid;
      settings = g.settings;
      names = syntax.names_of g.names;
      zones = g.zones;
      zone_rules = map item_of g.zone_rules.items;
      port_places = map place_shown g.port_rules.items;
      port_rules = map rule_shown g.port_rules.items;
      ins = g.ins.items;
      outs = g.outs.items;
      variable_values = g.variable_values.items;
      port_values = g.port_values.items;
    }

-- the values before files are laid on
abbrev pub values_before_files : Section → List Value
values_before_files s =
    with_rows (space_of s) (uniform_values (space_of s) (initial_value_of s)) (rows_of s)
