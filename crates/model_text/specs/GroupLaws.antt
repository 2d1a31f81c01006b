-- What the phases say of the groups of an accepted model.
use Rattle.std.specs.Prelude.{◌≡◌, ◌≤◌, ◌&&◌, nat_lt, true, false, None, List, ◌∷◌, map, length, codes}
use Rattle.std.specs.List.{list_all, filter_map, AllByRecursion}
use Rattle.quantity.specs.declared.bounds.TheConstants.{MAX_DELAY, MAX_OFFSETS}
use Rattle.quantity.specs.Bytes.{has_repeat}
use Rattle.rule_tree.specs.Phrases.{out}
use Rattle.cell_grid.specs.Space.{cell_count}
use Rattle.source_text.specs.Lines.{Files}
use Rattle.ma_lines.specs.Sections.{Section}
use Rattle.cell_grid.specs.Region.{Region}
use Rattle.model_tree.specs.declared.group.PortRule.{PortRule}
use Rattle.model_tree.specs.Sound.{is_near_offset, offsets_differ, is_sound_group}
use Rattle.model_text.specs.Keyed.{value_of}
use Rattle.model_text.specs.Walk.{groups}
use Rattle.model_text.specs.Keys.{keys_refused}
use Rattle.model_text.specs.Spaces.{space_of, offsets_of, zones_of, port_places, spaces_refused}
use Rattle.model_text.specs.Rules.{rule_set_number, rule_sets_of, rules_refused}
use Rattle.model_text.specs.Trees.{default_delay_of, initial_of, values_of_key, variables_of, ports_of, port_rule_of, group_of_section}

-- no more offsets than a group may have, near and different
pub record RightOffsets (s : Section) : Type 0 where
  pub fit : length (offsets_of s) ≤ MAX_OFFSETS
  pub near : list_all is_near_offset (offsets_of s) ≡ true
  pub differ : offsets_differ (offsets_of s) ≡ true

-- of each group, once the spaces pass
abbrev pub OffsetsAreRight : Type 0
OffsetsAreRight =
    (ss : List Section) → spaces_refused ss ≡ None → AllByRecursion RightOffsets (groups ss)

-- as many initial values as cells
abbrev pub ValuesFit : Type 0
ValuesFit = (files : Files) (s : Section) → length (initial_of files s) ≡ cell_count (space_of s)

-- at least one cell, and a default delay of at most 99:59:59:999
pub record RightSizes (s : Section) : Type 0 where
  pub cells : 1 ≤ cell_count (space_of s)
  pub delay : default_delay_of s ≤ MAX_DELAY

-- of each group, once the keys pass
abbrev pub SizesAreRight : Type 0
SizesAreRight = (ss : List Section) → keys_refused ss ≡ None → AllByRecursion RightSizes (groups ss)

-- at most 8 variables and 3 further ports of different names, none of them out, with a value for
-- each
pub record RightNames (s : Section) : Type 0 where
  pub variables : length (variables_of s) ≤ 8
  pub variable_values : length (values_of_key (value_of (codes "statevalues") s) (variables_of s))
      ≡ length (variables_of s)
  pub variables_differ : has_repeat (variables_of s) ≡ false
  pub ports : length (ports_of s) ≤ 3
  pub port_values : length (values_of_key (value_of (codes "portvalues") s) (ports_of s))
      ≡ length (ports_of s)
  pub ports_differ : has_repeat (out ∷ ports_of s) ≡ false

-- of each group, once the keys pass
abbrev pub NamesAreRight : Type 0
NamesAreRight = (ss : List Section) → keys_refused ss ≡ None → AllByRecursion RightNames (groups ss)

-- a rule set at least, a number of one for each zone, and numbers of sets and cells in range
pub record RightNumbers (ss : List Section) (s : Section) : Type 0 where
  pub sets : 1 ≤ length (rule_sets_of ss s)
  pub zones : list_all (λ k. nat_lt k (length (rule_sets_of ss s)))
      (map (λ (z : Region). rule_set_number s z.name) (zones_of s)) ≡ true
  pub ports : list_all
      (λ (p : PortRule). nat_lt p.rules (length (rule_sets_of ss s))
      && nat_lt p.cell (cell_count (space_of s))) (filter_map (port_rule_of s) (port_places s))
      ≡ true

-- of each group, once the keys and the rules pass
abbrev pub NumbersAreRight : Type 0
NumbersAreRight =
    (ss : List Section) → keys_refused ss ≡ None → rules_refused ss ≡ None
    → AllByRecursion (RightNumbers ss) (groups ss)

-- the groups of an accepted model are sound
abbrev pub GroupsAreSound : Type 0
GroupsAreSound =
    (files : Files) (ss : List Section) → keys_refused ss ≡ None → spaces_refused ss ≡ None
    → rules_refused ss ≡ None →
    AllByRecursion (λ s. is_sound_group (group_of_section files ss s) ≡ true) (groups ss)
