-- Private: the parts of a cell's step.
use Rattle.std.specs.Prelude.{◌≡◌, IsTrue, OnOk, ℕ, ◌+◌, ◌<◌, ◌≤◌, ◌&&◌, ◌==◌, Bool, true, Option, Some, None, List, [], map, replicate, slice_index_or, slice_set, IfSome, if◌then◌else◌, ℤ, pos, ◌+ℤ◌, ◌≤ℤ◌, ◌<ℤ◌}
use Rattle.std.specs.List.{All, flat_map, list_all}
use Rattle.std.specs.Str.{bytes_eq}
use Rattle.std.specs.declared.result.Result.{Result}
use Rattle.std.specs.declared.result.Result.TheVariants.{Ok}
use Rattle.quantity.specs.declared.delay.DelayKind.{DelayKind}
use Rattle.quantity.specs.declared.value.Value.{Value}
use Rattle.quantity.specs.declared.value.Value.TheVariants.{Undefined}
use Rattle.rule_tree.specs.Expression.{Expr, Rule}
use Rattle.rule_tree.specs.Meaning.{Sight}
use Rattle.rule_tree.specs.Scope.{differ}
use Rattle.rule_tree.specs.Ports.{by_port}
use Rattle.rule_tree.specs.Chosen.{outcome_of_rules}
use Rattle.rule_forms.specs.Depth.{rule_depth}
use Rattle.rule_forms.specs.declared.given.Given.{Given}
use Rattle.rule_eval.specs.Evaluated.{only}
use Rattle.rule_eval.specs.declared.lent.Lent.{Lent}
use Rattle.rule_eval.specs.declared.lent.Lent.TheVariants.{Known, Alone, Placed}
use Rattle.rule_eval.specs.declared.view.View.{View}
use Rattle.cell_grid.specs.Space.{place_of, dims_of}
use Rattle.cell_reach.specs.Neighbourhoods.{Neighbourhood, further, neighbours}
use Rattle.model_tree.specs.declared.group.PortRule.{PortRule}
use Rattle.model_tree.specs.Tree.{Word, Group}
use Rattle.model_tree.specs.Pull.{cell_ports}
use Rattle.model_tree.specs.Sound.{is_sound_group}
use Rattle.run_model.specs.declared.stop.LeafStop.{LeafStop}
use Rattle.run_model.specs.CellStep.{CellState, Stepped, and_took, by_rules, cell_rules, took}
use Rattle.cell_table.specs.Table.{Table}
use Rattle.cell_table.specs.Told.{cell_at, values_emitted}
use Rattle.cell_engine.specs.Layout.{Layout, StandsFor}
use Rattle.cell_engine.specs.Cells.{Computes}

-- ---- what a cell sees

-- what a neighbour gave at each of its ports, and `?` for one outside the space
abbrev pub given_by : Table → Option ℕ → List Value
given_by t None = replicate t.width Undefined
given_by t (Some n) = values_emitted (cell_at t.cells n)

-- each is a cell, or none
abbrev pub AreCells : ℕ → List (Option ℕ) → Type 0
AreCells count ns = All (λ (o : Option ℕ). IfSome o (λ n. n < count)) ns

-- the neighbourhood that is kept
abbrev pub near : Layout → Neighbourhood
near l = record { space = l.space; offsets = l.offsets }

-- what a neighbour gave at its port out, where there is no other
abbrev pub out_of : List Value → Option ℕ → Value
out_of values None = Undefined
out_of values (Some n) = slice_index_or values n Undefined

-- a number so far on from a cell's is below
abbrev pub IsBelow : ℕ → ℕ → ℤ → Type 0
IsBelow count cell d = (pos 0 ≤ℤ (pos cell +ℤ d)) × ((pos cell +ℤ d) <ℤ pos count)

-- what the cell gave whose number is so far on
abbrev pub out_further : List Value → ℕ → ℤ → Value
out_further values cell d = slice_index_or values (further cell d) Undefined

-- what a cell sees of the cells of a table, but for its variables
abbrev pub sees : Layout → ℕ → Table → ℕ → Sight
sees l t tb i =
    record {
      time = t;
      place = place_of l.space i;
      dims = dims_of l.space;
      neighbours = map (given_by tb) (neighbours (near l) i);
      port = Undefined;
      variables = [];
    }

-- the same with a value at the port that rules are for
abbrev pub at_port : Value → Sight → Sight
at_port v s = record s { port = v }

-- a view of what a cell sees
pub record LooksAt (v : View) (t : ℕ) (l : Layout) (tb : Table) (i : ℕ)
    (at_own : Value) : Type 0 where
  pub time : v.time ≡ t
  pub place : v.place ≡ place_of l.space i
  pub dims : v.dims ≡ dims_of l.space
  pub seen : v.neighbours.now ≡ flat_map (given_by tb) (neighbours (near l) i)
  pub ports : v.ports + 1 ≡ tb.width
  pub port : v.port ≡ at_own
  pub variables : v.variables.now ≡ (cell_at tb.cells i).variables

-- ---- what a cell takes

-- these values at different ports are given port by port
pub record AreGiven (gs : List (ℕ × Value)) (values : List (Option Value)) : Type 0 where
  pub values_are : values ≡ by_port gs
  pub apart : differ (map (λ (g : ℕ × Value). g.0) gs) ≡ true

-- the rules that a cell goes by
abbrev pub rules_at : Layout → ℕ → List Rule
rules_at l i = slice_index_or l.rule_sets (slice_index_or l.sets i 0) []

-- a rule gives at different ports
abbrev pub gives_apart : Rule → Bool
gives_apart r = differ (map (λ (g : ℕ × Expr). g.0) r.gives)

-- a cell after the first true rule over what it sees
abbrev pub step_by_rules : DelayKind → Sight → List Rule → CellState → Stepped
step_by_rules kind sight rules c =
    and_took kind sight.time c (outcome_of_rules rules (record sight { variables = c.variables }))

-- a cell goes by rules that give at different ports, over this sight
abbrev pub GoesBy : {U : Type 0} → Layout → Sight → List Rule → ℕ → Table → Table
    → Result U LeafStop → Type 0
GoesBy l sight rules i old new result =
    IsTrue (list_all gives_apart rules)
    → Computes i old.cells new.cells (step_by_rules l.settings.kind sight rules (cell_at old.cells i)) result

-- a cell goes by its own rules
abbrev pub GoesByOwn : {U : Type 0} → Layout → ℕ → ℕ → Table → Table
    → Result U LeafStop → Type 0
GoesByOwn l t i old new result = GoesBy l (sees l t old i) (rules_at l i) i old new result

-- a cell takes values that are given at different ports, and has these variables then
abbrev pub TakesGiven : {U : Type 0} → ℕ → DelayKind → ℕ → List (Option Value) → List Value
    → List CellState → List CellState → Result U LeafStop → Type 0
TakesGiven i kind at given variables old new result =
    (gs : List (ℕ × Value)) → AreGiven gs given
    → OnOk result (new ≡ slice_set old i (record {
      ports = took kind at gs (cell_at old i).ports;
      variables = variables;
    }))

-- what is given where it stands: in a rule's text, alone, or in the place for it
abbrev pub given_found : Lent → Given → Given
given_found (Known known) placed = known.now.given
given_found (Alone v) placed = only v
given_found Placed placed = placed

-- the variables then: those after the sets, where the values stand in their place
abbrev pub variables_found : Lent → List Value → List Value → List Value
variables_found (Known known) after before = before
variables_found (Alone v) after before = before
variables_found Placed after before = after

-- all rules are evaluated with so many answers on the stack
abbrev pub NeedAtMost : ℕ → List (List Rule) → Type 0
NeedAtMost depth sets =
    All (λ (rules : List Rule). All (λ (rule : Rule). rule_depth rule ≤ depth) rules) sets

-- ---- the group

-- a cell after its rules, where it is woken
abbrev pub woken_at : Group → ℕ → Bool → Sight → ℕ → CellState → Stepped
woken_at g t woken sight i c = if woken then by_rules g t sight (cell_rules g i) c else Ok c

-- a rule is one for this port of this cell
abbrev pub is_for : ℕ → Word → PortRule → Bool
is_for cell port r = bytes_eq r.port port && (r.cell == cell)

-- a sound group of which this is kept, and the names of a cell's ports
pub record IsOfGroup (g : Group) (l : Layout) (ports : List Word) (i : ℕ) : Type 0 where
  pub stands : StandsFor g l
  pub sound : is_sound_group g ≡ true
  pub ports_are : ports ≡ cell_ports g i

-- what a cell becomes by each sound group of which this is kept, over what it sees of a table
abbrev pub StepsBy : {U : Type 0} → Layout → ℕ → ℕ → Table → Table
    → (Group → Sight → CellState → Stepped) → Result U LeafStop → Type 0
StepsBy l t i old new step result =
    (g : Group) → StandsFor g l → IsTrue (is_sound_group g)
    → Computes i old.cells new.cells (step g (sees l t old i) (cell_at old.cells i)) result

-- the same where these are the names of the cell's ports
abbrev pub StepsAtPorts : {U : Type 0} → Layout → List Word → ℕ → ℕ → Table → Table
    → (Group → Sight → CellState → Stepped) → Result U LeafStop → Type 0
StepsAtPorts l ports t i old new step result =
    (g : Group) → IsOfGroup g l ports i
    → Computes i old.cells new.cells (step g (sees l t old i) (cell_at old.cells i)) result
