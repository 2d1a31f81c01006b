-- The rule sets of a group, and which of them its zones and its ports name.
use Rattle.std.specs.Prelude.{ℕ, List, map}
use Rattle.std.specs.List.{filter_map}
use Rattle.rule_tree.specs.Expression.{Rule}
use Rattle.rule_tree.specs.InCode.{rule_of}
use Rattle.cell_grid.specs.Region.{Region}
use Rattle.ma_lines.specs.Sections.{Section}
use Rattle.model_tree.specs.declared.group.PortRule.{PortRule}
use Rattle.model_text.specs.Spaces.{zones_of, port_places}
use Rattle.model_text.specs.Rules.{rule_sets_of, rule_set_number}
use Rattle.model_text.specs.Trees.{port_rule_of}
use Rattle.model_walk.specs.declared.group_rules.GroupRules.{GroupRules}

-- as they stand in the group of a tree
pub record Sets : Type 0 where
  pub rule_sets : List (List Rule)
  pub zone_rules : List ℕ
  pub port_rules : List PortRule

-- what the sections say of a group
abbrev pub sets_of : List Section → Section → Sets
sets_of ss s =
    record {
      rule_sets = rule_sets_of ss s;
      zone_rules = map (λ (z : Region). rule_set_number s z.name) (zones_of s);
      port_rules = filter_map (port_rule_of s) (port_places s);
    }

-- the plain values of a group's rules as they are kept
abbrev pub sets_shown : GroupRules → Sets
sets_shown r =
    record {
      rule_sets = map (λ rules. map rule_of rules.items) r.rule_sets.items;
      zone_rules = r.zone_rules.items;
      port_rules = r.port_rules.items;
    }
