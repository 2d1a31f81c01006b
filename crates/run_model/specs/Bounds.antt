-- The values of a run are bounded, and its times are small: so each record has a line of a log.
use Rattle.std.specs.Prelude.{ℕ, ◌≤◌, List, length, ℤ, IfSome, ⊤}
use Rattle.std.specs.List.{All}
use Rattle.quantity.specs.declared.bounds.TheConstants.{MAX_CELLS, MAX_OFFSETS}
use Rattle.quantity.specs.TimeBounds.{IsDelay, IsTime}
use Rattle.quantity.specs.declared.value.Value.{Value}
use Rattle.quantity.specs.Roots.{IsBounded}
use Rattle.rule_tree.specs.Expression as E
use Rattle.rule_tree.specs.Expression.{Expr, Exprs, Rule}
use Rattle.cell_grid.specs.Space.{cell_count}
use Rattle.atomic_face.specs.declared.class.Class.{Class}
use Rattle.model_tree.specs.Tree.{Group, Tree, Trees, coupled, cells, atomic, nil, cons}
use Rattle.run_model.specs.BoundsTable.{bounds_of}
use Rattle.run_model.specs.CellStep.{PortState, CellState}
use Rattle.run_model.specs.Cycle.{LeafState, box_state, cell_state}
use Rattle.run_model.specs.Run.{Event, PortRecord, StateRecord, OutRecord, Cycle, RunState, Verdict, start}
use Rattle.run_model.specs.Runs.{Runs}

-- ---- models

abbrev mutual
  pub HasBoundedNumbers : Expr → Type 0
  HasBoundedNumbers (E.number v) = IsBounded v
  HasBoundedNumbers (E.truth t) = ⊤
  HasBoundedNumbers (E.neighbour k p) = ⊤
  HasBoundedNumbers (E.variable k) = ⊤
  HasBoundedNumbers E.now = ⊤
  HasBoundedNumbers E.port_value = ⊤
  HasBoundedNumbers (E.counted c) = ⊤
  HasBoundedNumbers (E.one u a) = HasBoundedNumbers a
  HasBoundedNumbers (E.two b a c) = HasBoundedNumbers a × HasBoundedNumbers c
  HasBoundedNumbers (E.call f args) = HaveBoundedNumbers args

  pub HaveBoundedNumbers : Exprs → Type 0
  HaveBoundedNumbers E.nil = ⊤
  HaveBoundedNumbers (E.cons a rest) = HasBoundedNumbers a × HaveBoundedNumbers rest

-- an expression for a port or a variable
abbrev pub IsBoundedPart : ℕ × Expr → Type 0
IsBoundedPart p = HasBoundedNumbers p.1

-- every number of the rule is bounded
pub record IsBoundedRule (r : Rule) : Type 0 where
  pub gives : All IsBoundedPart r.gives
  pub delay : HasBoundedNumbers r.delay
  pub sets : All IsBoundedPart r.sets

-- its values, rules, delay and sizes are bounded
pub record IsBoundedGroup (g : Group) : Type 0 where
  pub initial : All IsBounded g.initial
  pub port_values : All IsBounded g.port_values
  pub variable_values : All IsBounded g.variable_values
  pub rules : All (All IsBoundedRule) g.rule_sets
  pub default_delay : IsDelay g.settings.default_delay
  pub offsets : length g.offsets ≤ MAX_OFFSETS
  pub size : cell_count g.space ≤ MAX_CELLS

-- the times and values of a box
abbrev pub AreBoundedSettings : Class → List ℤ → Type 0
AreBoundedSettings class = (bounds_of class).bounded_settings

-- the values of a model are bounded: those of its groups, and the settings of its boxes
abbrev mutual
  pub HasBoundedValues : Tree → Type 0
  HasBoundedValues (coupled name ins outs children links) = HaveBoundedValues children
  HasBoundedValues (cells g) = IsBoundedGroup g
  HasBoundedValues (atomic name class settings) = AreBoundedSettings class settings

  pub HaveBoundedValues : Trees → Type 0
  HaveBoundedValues nil = ⊤
  HaveBoundedValues (cons t ts) = HasBoundedValues t × HaveBoundedValues ts

-- its value is bounded
abbrev pub IsBoundedEvent : Event → Type 0
IsBoundedEvent e = IsBounded e.value

-- ---- states

-- a time and a value
abbrev pub IsBoundedPair : ℕ × Value → Type 0
IsBoundedPair p = IsTime p.0 × IsBounded p.1

-- values and pairs
pub record IsBoundedPort (p : PortState) : Type 0 where
  pub emitted : IsBounded p.emitted
  pub computed : IsBounded p.computed
  pub pairs : All IsBoundedPair p.pairs

-- ports and variables
pub record IsBoundedCell (c : CellState) : Type 0 where
  pub ports : All IsBoundedPort c.ports
  pub variables : All IsBounded c.variables

-- the times and values of its state
abbrev pub IsBoundedBox : Class → List ℤ → Type 0
IsBoundedBox class = (bounds_of class).bounded_state

-- a box or a cell
abbrev pub IsBoundedLeaf : LeafState → Type 0
IsBoundedLeaf (box_state b) = AreBoundedSettings b.kind b.settings × IsBoundedBox b.kind b.state
IsBoundedLeaf (cell_state c) = IsBoundedCell c

-- leaves and events
pub record IsBoundedState (s : RunState) : Type 0 where
  pub leaves : All IsBoundedLeaf s.leaf_states
  pub events : All IsBoundedEvent s.events

-- ---- cycles

-- its value
abbrev pub IsBoundedPortRecord : PortRecord → Type 0
IsBoundedPortRecord r = IsBounded r.value

-- its value and its next time
abbrev pub IsBoundedStateRecord : StateRecord → Type 0
IsBoundedStateRecord r = IfSome r.value IsBounded × IfSome r.next IsTime

-- its value
abbrev pub IsBoundedOutRecord : OutRecord → Type 0
IsBoundedOutRecord r = IsBounded r.value

-- a time up to the end, and bounded records
pub record IsBoundedCycle (end : ℕ) (c : Cycle) : Type 0 where
  pub time : c.time ≤ end
  pub y : All IsBoundedPortRecord c.y
  pub n : All IsBoundedPortRecord c.n
  pub x : All IsBoundedPortRecord c.x
  pub s : All IsBoundedStateRecord c.s
  pub out : All IsBoundedOutRecord c.out

-- ---- the laws

-- of a bounded model with bounded events
abbrev pub StartIsBounded : Type 0
StartIsBounded =
    (tree : Tree) (events : List Event) → HasBoundedValues tree → All IsBoundedEvent events
    → IsBoundedState (start tree events)

-- from a bounded state, up to an end of at most 99:59:59:999
abbrev pub RunsAreBounded : Type 0
RunsAreBounded =
    (tree : Tree) (end limit : ℕ) (s l : RunState) (cs : List Cycle) (v : Verdict)
    → HasBoundedValues tree → IsDelay end → IsBoundedState s → Runs tree end limit s cs v l
    → All (IsBoundedCycle end) cs × IsBoundedState l
