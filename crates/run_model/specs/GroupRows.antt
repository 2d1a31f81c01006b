-- Runs of groups whose ports and zones have rules of their own, of cells that give at further
-- ports, and their visits.
use Rattle.std.specs.Prelude.{◌≡◌, ℕ, map, Some, None, List, [], ◌∷◌, pos}
use Rattle.quantity.specs.declared.value.Value.{Value}
use Rattle.quantity.specs.declared.value.Value.TheVariants.{Undefined}
use Rattle.quantity.specs.declared.place.Place.{Place}
use Rattle.quantity.specs.declared.truth.Tri.TheVariants.{True}
use Rattle.rule_tree.specs.declared.node.Binary.TheVariants.{Add}
use Rattle.rule_tree.specs.Expression.{Rule, number, truth, variable, port_value, two}
use Rattle.rule_tree.specs.Meaning.{whole}
use Rattle.cell_grid.specs.declared.grid.Border.TheVariants.{NoWrapped}
use Rattle.cell_grid.specs.Region.{Region}
use Rattle.atomic_face.specs.declared.class.Class.TheVariants.{Queue}
use Rattle.quantity.specs.declared.delay.DelayKind.TheVariants.{Transport}
use Rattle.model_tree.specs.declared.group.PortRule.{PortRule}
use Rattle.model_tree.specs.declared.link.End.TheVariants.{Own, Child, Cell}
use Rattle.model_tree.specs.Tree.{Group, Tree, coupled, cells, atomic, nil, cons}
use Rattle.rule_tree.specs.Phrases.{out}
use Rattle.model_tree.specs.Examples.{«in», letter, link}
use Rattle.run_model.specs.Run.{Event, Cycle, start}
use Rattle.run_model.specs.WholeRun.{run}
use Rattle.run_model.specs.Cycle.{sight_of}
use Rattle.run_model.specs.Examples.{at, box_at, cell_at, always, one_cell, event, beside, ring, later, with_port}
use Rattle.run_model.specs.Rows.{cycle_outputs, top, line, when}
use Rattle.run_model.specs.Visits.{visits}

-- ---- ports with rules of their own

-- the rules of a port, by letter and cell
abbrev pub port_rule : ℕ → ℕ → ℕ → PortRule
port_rule port cell rules = record { port = letter port; cell = cell; rules = rules }

-- a rule that gives the variable, and then sets it to the port's value
abbrev pub keeps_the_last : Rule
keeps_the_last = record (always (variable 0) (number (whole 10))) { sets = (0, port_value) ∷ [] }

-- two cells: the first has a port v, whose rule adds 1, and a port w, whose rule keeps the last
-- value; the second has a port v that keeps it too
abbrev pub two_ports : Group
two_ports =
    record (line NoWrapped Transport [] (whole 0 ∷ whole 2 ∷ []) []) {
      rule_sets =
          [] ∷ (always (two Add port_value (number (whole 1))) (number (whole 10)) ∷ [])
          ∷ (keeps_the_last ∷ []) ∷ [];
      port_rules = port_rule 118 1 2 ∷ port_rule 118 0 1 ∷ port_rule 119 0 2 ∷ [];
      ins = letter 97 ∷ letter 98 ∷ letter 99 ∷ [];
      links = link (Own (letter 97)) (Cell (letter 118) 0)
          ∷ link (Own (letter 98)) (Cell (letter 119) 0)
          ∷ link (Own (letter 99)) (Cell (letter 118) 1) ∷ [];
      variables = letter 110 ∷ [];
      variable_values = whole 0 ∷ [];
    }

-- each input of top leads to one of the ports
abbrev pub to_ports : Tree
to_ports =
    coupled (116 ∷ 111 ∷ 112 ∷ []) (letter 97 ∷ letter 98 ∷ letter 99 ∷ []) []
    (cons (cells two_ports) nil)
    (link (Own (letter 97)) (Child (letter 97) (letter 103))
    ∷ link (Own (letter 98)) (Child (letter 98) (letter 103))
    ∷ link (Own (letter 99)) (Child (letter 99) (letter 103)) ∷ [])

-- an event at an input of top, by number
abbrev pub event_to : ℕ → ℕ → ℕ → Event
event_to port t v = record { time = t; port = port; value = whole v }

-- ---- zones with rules of their own

-- a place of a row
abbrev pub column : ℕ → Place
column n = record { row = 0; column = n; plane = 0 }

-- these columns of a row
abbrev pub zone : List (ℕ × ℕ) → Region
zone ranges = record { name = []; ranges = map (λ (r : ℕ × ℕ). (column r.0, column r.1)) ranges }

-- four cells in a row, which see themselves alone
abbrev pub four_cells : Group
four_cells =
    line NoWrapped Transport (beside (pos 0) ∷ [])
    (whole 0 ∷ whole 0 ∷ whole 0 ∷ whole 0 ∷ []) []

-- four cells: the first two have rules of their own, the last has others, and the first zone that
-- holds a cell counts
abbrev pub two_zones : Tree
two_zones =
    top (record four_cells {
      zones = zone ((0, 1) ∷ []) ∷ zone ((1, 1) ∷ (3, 3) ∷ []) ∷ [];
      zone_rules = 2 ∷ 1 ∷ [];
      rule_sets =
          (when (number (whole 7)) 100 (truth True) ∷ [])
          ∷ (when (number (whole 8)) 100 (truth True) ∷ [])
          ∷ (when (number (whole 9)) 100 (truth True) ∷ []) ∷ [];
    })

-- ---- a further port beside a link

-- the cell with a further port, whose output goes on to a queue and to an output of top
abbrev pub feeding_tree : Tree
feeding_tree = from_group with_port
  where
    linked : Group → Group
    linked g =
        record g { outs = letter 111 ∷ []; links = link (Cell out 0) (Own (letter 111)) ∷ [] }

    from_group : Tree → Tree
    from_group (coupled name ins outs (cons (cells g) ts) links) =
        coupled name [] (letter 111 ∷ [])
        (cons (cells (linked g)) (cons (atomic (letter 113) Queue (pos 1000 ∷ [])) nil))
        (link (Child (letter 111) (letter 103)) (Child «in» (letter 113))
        ∷ link (Child (letter 111) (letter 103)) (Own (letter 111)) ∷ [])
    from_group t = t

-- what a cell gives at its further port is an N record, and no link carries it
abbrev pub feeding_cycles : List Cycle
feeding_cycles =
    record {
      time = 0;
      y = at 0 0 (whole 0) ∷ [];
      n = at 0 1 (whole 0) ∷ [];
      x = at 1 0 (whole 0) ∷ [];
      s = cell_at 0 (whole 0) (Some 100) ∷ box_at 1 (Some 1000) ∷ [];
      out = record { port = 0; value = whole 0 } ∷ [];
    }
    ∷ record {
      time = 100;
      y = [];
      n = at 0 1 (whole 1) ∷ [];
      x = [];
      s = cell_at 0 (whole 1) (Some 200) ∷ [];
      out = [];
    }
    ∷ record {
      time = 200;
      y = at 0 0 (whole 1) ∷ [];
      n = at 0 1 (whole 2) ∷ [];
      x = at 1 0 (whole 1) ∷ [];
      s = cell_at 0 (whole 1) None ∷ box_at 1 (Some 1000) ∷ [];
      out = record { port = 0; value = whole 1 } ∷ [];
    }
    ∷ []

-- a cell with a further port that sees one outside: ? at each port
abbrev pub seen_outside : List (List Value)
seen_outside =
    (sight_of 0 (start with_port []).leaf_states
    (record (one_cell [] []) {
      offsets = beside (pos 1) ∷ [];
      ports = letter 112 ∷ [];
      port_values = whole 0 ∷ [];
    }) 0 0).neighbours

-- ---- what their runs are

-- what the runs of these groups are
pub record GroupsRun : Type 0 where
  pub ports : map cycle_outputs
      (run to_ports
      (event_to 0 10 3 ∷ event_to 1 40 5 ∷ event_to 1 60 6 ∷ event_to 2 80 9 ∷ []) 200
      10000).cycles ≡
      (0, (0, whole 0) ∷ (1, whole 2) ∷ []) ∷ (10, []) ∷ (20, (0, whole 4) ∷ []) ∷ (40, [])
      ∷ (50, (0, whole 0) ∷ [])
      ∷ (60, []) ∷ (70, (0, whole 5) ∷ []) ∷ (80, []) ∷ (90, (1, whole 0) ∷ []) ∷ []
  pub zones : map cycle_outputs (run two_zones [] 100 10000).cycles ≡
      (0, (0, whole 0) ∷ (1, whole 0) ∷ (2, whole 0) ∷ (3, whole 0) ∷ [])
      ∷ (100, (0, whole 9) ∷ (1, whole 9) ∷ (2, whole 7) ∷ (3, whole 8) ∷ []) ∷ []
  pub further_port : (run feeding_tree [] 999 10000).cycles ≡ feeding_cycles
  pub outside : seen_outside ≡ (Undefined ∷ Undefined ∷ []) ∷ []

-- leaves, Y and N records, and for each S record the most offsets and 2
pub record VisitsAreCounted : Type 0 where
  pub ring : visits ring (run ring [] 100 10000) ≡ 38
  pub stopping : visits later (run later (event 10 1 ∷ event 60 2 ∷ event 120 3 ∷ []) 200 10000)
      ≡ 13
  pub with_n : visits with_port (run with_port [] 1000 10000) ≡ 15
