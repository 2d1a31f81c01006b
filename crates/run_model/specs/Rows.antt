-- Runs of small models: of cells that see each other twice, of one-sided and of absent neighbours,
-- of both kinds of delay, and runs that stop.
use Rattle.std.specs.Prelude.{◌≡◌, ℕ, ◌*◌, ◌^◌, map, length, Some, None, List, [], ◌∷◌, pos, negsuc}
use Rattle.quantity.specs.declared.value.Value.{Value}
use Rattle.quantity.specs.declared.value.Value.TheVariants.{Undefined}
use Rattle.quantity.specs.declared.value.Compare.TheVariants.{Equal, Greater}
use Rattle.quantity.specs.declared.truth.Tri.TheVariants.{True}
use Rattle.quantity.specs.declared.place.Offset.{Offset}
use Rattle.rule_tree.specs.declared.node.Unary.TheVariants.{Not}
use Rattle.rule_tree.specs.declared.node.Binary.TheVariants.{Mul, Sub, Cmp}
use Rattle.rule_tree.specs.declared.node.Count.TheVariants.{Ones, Undefs}
use Rattle.rule_tree.specs.declared.function.Function.TheVariants.{CellPos, IsUndefined}
use Rattle.rule_tree.specs.declared.outcome.RuleStop.TheVariants.{NoTrueRule, Overflow}
use Rattle.rule_tree.specs.Expression as E
use Rattle.rule_tree.specs.Expression.{Rule, Expr, number, truth, neighbour, variable, one, two, call, counted}
use Rattle.rule_tree.specs.Meaning.{whole}
use Rattle.cell_grid.specs.declared.grid.Border.{Border}
use Rattle.cell_grid.specs.declared.grid.Border.TheVariants.{Wrapped, NoWrapped}
use Rattle.atomic_face.specs.declared.class.Class.TheVariants.{Generator, Counter}
use Rattle.quantity.specs.declared.delay.DelayKind.{DelayKind}
use Rattle.quantity.specs.declared.delay.DelayKind.TheVariants.{Transport, Inertial}
use Rattle.model_tree.specs.declared.link.End.TheVariants.{Own, Child}
use Rattle.model_tree.specs.Tree.{Group, Tree, coupled, cells, atomic, nil, cons}
use Rattle.rule_tree.specs.Phrases.{out}
use Rattle.model_tree.specs.Examples.{«in», letter, default_settings, link}
use Rattle.run_model.specs.Run.{StateRecord, Cycle, stop}
use Rattle.run_model.specs.WholeRun.{run}
use Rattle.run_model.specs.Examples.{at, box_at, cell_at, always, one_cell, event, with_input, plain, later, alone, beside}
use Rattle.run_model.specs.Life.{around, leaf_and_value}

-- what each cycle gives at the ports out, by leaf
abbrev pub cycle_outputs : Cycle → ℕ × List (ℕ × Value)
cycle_outputs c = (c.time, map leaf_and_value c.y)

-- the same with the leaves that moved
abbrev pub cycle_moves : Cycle → ℕ × List (ℕ × Value) × List StateRecord
cycle_moves c = (c.time, map leaf_and_value c.y, c.s)

-- ---- models

abbrev pub top : Group → Tree
top g = coupled (116 ∷ 111 ∷ 112 ∷ []) [] [] (cons (cells g) nil) []

-- a row of cells with these values
abbrev pub line : Border → DelayKind → List Offset → List Value → List Rule → Group
line border kind offsets values rules =
    record (one_cell (rules ∷ []) []) {
      space = record { rows = 1; columns = length values; planes = None; border = border };
      settings = record default_settings { kind = kind };
      offsets = offsets;
      initial = values;
      links = [];
    }

abbrev pub sides : List Offset
sides = beside (negsuc 0) ∷ beside (pos 1) ∷ []

abbrev pub when : Expr → ℕ → Expr → Rule
when v d condition =
    record { gives = (0, v) ∷ []; delay = number (whole d); condition = condition; sets = [] }

abbrev pub is : Expr → ℕ → Expr
is e n = two (Cmp Equal) e (number (whole n))

-- two cells in a ring of two: each sees the other on both sides
abbrev pub two_in_a_ring : Tree
two_in_a_ring =
    top (line Wrapped Transport sides (whole 0 ∷ whole 1 ∷ [])
    (when (number (whole 1)) 100 (is (counted Ones) 2) ∷ when (number (whole 0)) 100 (truth True)
    ∷ []))

-- each cell takes the value at its right, where there is a cell
abbrev pub from_the_right : Tree
from_the_right =
    top (line NoWrapped Transport (beside (pos 1) ∷ []) (whole 0 ∷ whole 0 ∷ whole 1 ∷ [])
    (when (neighbour 0 0) 100 (one Not (call IsUndefined (E.cons (neighbour 0 0) E.nil)))
    ∷ when (number (whole 0)) 100 (truth True) ∷ []))

-- in a square of four every cell counts what is outside
abbrev pub corners : Tree
corners =
    top (record
    (line NoWrapped Transport around (whole 0 ∷ whole 0 ∷ whole 0 ∷ whole 0 ∷ [])
    (when (counted Undefs) 100 (truth True) ∷ [])) {
      space = record { rows = 2; columns = 2; planes = None; border = NoWrapped };
    })

-- the ends give 1 after 10 and after 30 ms, and the middle counts them
abbrev pub ends_and_middle : DelayKind → Tree
ends_and_middle kind =
    top (line NoWrapped kind sides (whole 0 ∷ whole 0 ∷ whole 0 ∷ [])
    (when (number (whole 1)) 10 (is (call CellPos (E.cons (number (whole 1)) E.nil)) 0)
    ∷ when (number (whole 1)) 30 (is (call CellPos (E.cons (number (whole 1)) E.nil)) 2)
    ∷ when (counted Ones) 100 (truth True) ∷ []))

-- a cell with an input, as `plain`, that keeps just its last pair
abbrev pub inertial : Tree
inertial =
    with_input
    (record (one_cell ((always (number (whole 0)) (number (whole 100)) ∷ []) ∷ []) []) {
      settings = record default_settings { kind = Inertial };
    })

abbrev pub one_rule : Rule → Tree
one_rule r = top (line NoWrapped Transport (beside (pos 0) ∷ []) (whole 0 ∷ []) (r ∷ []))

-- a cell that gives its variable and counts it down, and then 9
abbrev pub counts_down : Tree
counts_down =
    top (record (line NoWrapped Transport (beside (pos 0) ∷ []) (whole 0 ∷ [])
    (record (when (variable 0) 100 (two (Cmp Greater) (variable 0) (number (whole 0)))) {
      sets =
          (0, two Sub (variable 0) (number (whole 1))) ∷ [];
    }
    ∷ when (number (whole 9)) 100 (truth True)
    ∷ [])) { variables = letter 110 ∷ []; variable_values = whole 3 ∷ [] })

-- a comparison with ? is never true
abbrev pub above_undefined : Tree
above_undefined =
    one_rule (when (number (whole 1)) 100 (two (Cmp Greater) (neighbour 0 0) (number Undefined)))

abbrev pub product : ℕ → ℕ → Tree
product a b = one_rule (when (two Mul (number (whole a)) (number (whole b))) 100 (truth True))

-- a counter that passes the bound at the second value of a generator
abbrev pub counter_overflows : Tree
counter_overflows =
    coupled (116 ∷ 111 ∷ 112 ∷ []) [] (letter 111 ∷ [])
    (cons (atomic (letter 103) Generator (pos 0 ∷ pos 10 ∷ pos 100000 ∷ pos 0 ∷ negsuc 0 ∷ []))
    (cons (atomic (letter 99) Counter (pos 0 ∷ pos 0 ∷ pos (6000000000 * 100000) ∷ [])) nil))
    (link (Child out (letter 103)) (Child «in» (letter 99))
    ∷ link (Child out (letter 99)) (Own (letter 111)) ∷ [])

abbrev pub counted_cycles : List Cycle
counted_cycles =
    record {
      time = 0;
      y = at 0 0 (whole 1) ∷ [];
      n = [];
      x = at 1 0 (whole 1) ∷ [];
      s = box_at 0 (Some 10) ∷ box_at 1 (Some 0) ∷ [];
      out = [];
    }
    ∷ record {
      time = 0;
      y = at 1 0 (whole 6000000000) ∷ [];
      n = [];
      x = [];
      s = box_at 1 None ∷ [];
      out = record { port = 0; value = whole 6000000000 } ∷ [];
    }
    ∷ []

-- ---- what their runs are

pub record CellsRun : Type 0 where
  pub ring_of_two : map cycle_moves (run two_in_a_ring [] 100 10000).cycles ≡ (
    0,
    (0, whole 0) ∷ (1, whole 1) ∷ [],
    cell_at 0 (whole 1) (Some 100)
        ∷ cell_at 1 (whole 0) (Some 100) ∷ [],
  )
      ∷ (
        100,
        (0, whole 1) ∷ (1, whole 0) ∷ [],
        cell_at 0 (whole 0) (Some 200)
            ∷ cell_at 1 (whole 1) (Some 200) ∷ [],
      ) ∷ []
  pub one_sided : map cycle_moves (run from_the_right [] 200 10000).cycles ≡ (
    0,
    (0, whole 0) ∷ (1, whole 0) ∷ (2, whole 1) ∷ [],
    cell_at 0 (whole 0) None
        ∷ cell_at 1 (whole 1) (Some 100) ∷ cell_at 2 (whole 1) None ∷ [],
  )
      ∷ (100, (1, whole 1) ∷ [], cell_at 0 (whole 1) (Some 200) ∷ cell_at 1 (whole 1) None ∷ [])
      ∷ (200, (0, whole 1) ∷ [], cell_at 0 (whole 1) None ∷ []) ∷ []
  pub outside : map cycle_outputs (run corners [] 100 10000).cycles ≡
      (0, (0, whole 0) ∷ (1, whole 0) ∷ (2, whole 0) ∷ (3, whole 0) ∷ [])
      ∷ (100, (0, whole 5) ∷ (1, whole 5) ∷ (2, whole 5) ∷ (3, whole 5) ∷ []) ∷ []
  pub keeps_the_last : map cycle_outputs (run (ends_and_middle Inertial) [] 200 10000).cycles ≡
      (0, (0, whole 0) ∷ (1, whole 0) ∷ (2, whole 0) ∷ []) ∷ (10, (0, whole 1) ∷ [])
      ∷ (30, (2, whole 1) ∷ []) ∷ (130, (1, whole 2) ∷ []) ∷ []
  pub keeps_all : map cycle_outputs (run (ends_and_middle Transport) [] 200 10000).cycles ≡
      (0, (0, whole 0) ∷ (1, whole 0) ∷ (2, whole 0) ∷ []) ∷ (10, (0, whole 1) ∷ [])
      ∷ (30, (2, whole 1) ∷ []) ∷ (110, (1, whole 1) ∷ []) ∷ (130, (1, whole 2) ∷ []) ∷ []
  pub counted_down : map cycle_outputs (run counts_down [] 1000 10000).cycles ≡
      (0, (0, whole 0) ∷ []) ∷ (100, (0, whole 3) ∷ []) ∷ (200, (0, whole 2) ∷ [])
      ∷ (300, (0, whole 1) ∷ []) ∷ (400, (0, whole 9) ∷ []) ∷ []

pub record InputsRun : Type 0 where
  pub transport : map cycle_outputs (run plain (event 10 1 ∷ event 50 0 ∷ []) 200 10000).cycles ≡
      (0, (0, whole 0) ∷ []) ∷ (10, []) ∷ (50, []) ∷ (110, (0, whole 1) ∷ [])
      ∷ (150, (0, whole 0) ∷ []) ∷ []
  pub preempted : map cycle_outputs (run inertial (event 10 1 ∷ event 50 0 ∷ []) 200 10000).cycles ≡
      (0, (0, whole 0) ∷ []) ∷ (10, []) ∷ (50, []) ∷ (150, (0, whole 0) ∷ []) ∷ []
  pub by_time : map cycle_outputs (run later (event 10 1 ∷ event 60 2 ∷ []) 200 10000).cycles ≡
      (0, (0, whole 0) ∷ []) ∷ (10, []) ∷ (60, []) ∷ (110, (0, whole 2) ∷ []) ∷ []

-- a cycle that stops adds nothing
pub record RunsStop : Type 0 where
  pub bad_delay : map cycle_outputs
      (run later (event 10 1 ∷ event 60 2 ∷ event 120 3 ∷ []) 200 10000).cycles ≡
      (0, (0, whole 0) ∷ []) ∷ (10, []) ∷ (60, []) ∷ (110, (0, whole 2) ∷ []) ∷ []
  pub too_many : map cycle_outputs (run alone [] 100 5).cycles ≡
      (0, (0, whole 0) ∷ []) ∷ (0, (0, whole 1) ∷ []) ∷ (0, (0, whole 0) ∷ [])
      ∷ (0, (0, whole 1) ∷ []) ∷ (0, (0, whole 0) ∷ []) ∷ []
  pub no_true_rule : (run above_undefined [] 100 10000).verdict ≡ stop 0 0 NoTrueRule
  pub no_true_rule_adds : (run above_undefined [] 100 10000).cycles ≡ []
  pub overflow : (run (product 100000 100001) [] 100 10000).verdict ≡ stop 0 0 Overflow
  pub overflow_adds : (run (product 100000 100001) [] 100 10000).cycles ≡ []
  pub largest : map cycle_outputs (run (product 100000 100000) [] 100 10000).cycles
      ≡ (0, (0, whole 0) ∷ []) ∷ (100, (0, whole (10 ^ 10)) ∷ []) ∷ []
  pub counter : (run counter_overflows [] 1000 10000).verdict ≡ stop 1 10 Overflow
  pub counter_adds : (run counter_overflows [] 1000 10000).cycles ≡ counted_cycles
