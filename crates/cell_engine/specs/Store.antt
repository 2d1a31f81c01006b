-- Private: when a store is ready for each step of its cells.
use Rattle.std.specs.Prelude.{◌≡◌, ℕ, ◌+◌, ◌*◌, ◌≤◌, ◌<◌, length}
use Rattle.std.specs.List.{All}
use Rattle.quantity.specs.declared.bounds.TheConstants.{MAX_DELAY, MAX_OFFSETS}
use Rattle.rule_forms.specs.Depth.{rule_depth}
use Rattle.cell_grid.specs.Space.{cell_count}
use Rattle.cell_reach.specs.Neighbourhoods.{Neighbourhood}
use Rattle.model_tree.specs.declared.group.PortRule.{PortRule}
use Rattle.cell_engine.specs.declared.desk.Desk.{Desk}
use Rattle.cell_engine.specs.Layout.{Layout}
use Rattle.cell_table.specs.Table.{Table}

-- each cell and each port rule has a rule set, and the numbers are those that a group may have
pub record IsPlan (l : Layout) (n : Neighbourhood) : Type 0 where
  pub near : n ≡ record { space = l.space; offsets = l.offsets }
  pub cells : length l.sets ≡ cell_count l.space
  pub sets : All (λ k. k < length l.rule_sets) l.sets
  pub port_rules : All (λ (r : PortRule). r.rules < length l.rule_sets) l.port_rules
  pub ports : l.ports ≤ 3
  pub variables : l.variables ≤ 8
  pub offsets : length l.offsets ≤ MAX_OFFSETS
  pub delay : l.settings.default_delay ≤ MAX_DELAY

-- the table has the layout's cells, and there is room for what a cell sees, sets and evaluates
pub record IsReady (l : Layout) (t : Table) (p r c d : ℕ) : Type 0 where
  pub width : t.width ≡ l.ports + 1
  pub variables : t.variables ≡ l.variables
  pub cells : length t.cells ≡ cell_count l.space
  pub places : p ≡ length l.offsets
  pub room : r ≡ length l.offsets * t.width
  pub changed : c ≡ l.variables
  pub depth : All (λ rules. All (λ rule. rule_depth rule ≤ d) rules) l.rule_sets

-- the same of a desk
abbrev pub IsAtDesk : Layout → Table → Desk → Type 0
IsAtDesk l t d =
    IsReady l t (length d.neighbours.items) (length d.seen.items)
    (length d.changed.items) d.stack.depth

-- a desk for so many neighbours and ports, and for what the rules of a layout set and need
pub record HasRoom (places width : ℕ) (l : Layout) (d : Desk) : Type 0 where
  pub neighbours : length d.neighbours.items ≡ places
  pub seen : length d.seen.items ≡ places * width
  pub changed : length d.changed.items ≡ l.variables
  pub depth : All (λ rules. All (λ rule. rule_depth rule ≤ d.stack.depth) rules) l.rule_sets
