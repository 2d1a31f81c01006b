-- Steps of one cell with an input: what comes in while another value waits.
use Rattle.std.specs.Prelude.{◌≡◌, ℕ, false, Some, List, [], ◌∷◌}
use Rattle.std.specs.declared.result.Result.TheVariants.{Ok}
use Rattle.quantity.specs.declared.value.Value.{Value}
use Rattle.quantity.specs.declared.value.Value.TheVariants.{Undefined}
use Rattle.rule_tree.specs.Meaning.{Sight, whole}
use Rattle.atomic_face.specs.Classes.{Bag}
use Rattle.quantity.specs.declared.delay.DelayKind.{DelayKind}
use Rattle.quantity.specs.declared.delay.DelayKind.TheVariants.{Transport, Inertial}
use Rattle.model_tree.specs.Tree.{Group}
use Rattle.model_tree.specs.Pull.{cell_ports}
use Rattle.model_tree.specs.Examples.{letter, default_settings}
use Rattle.run_model.specs.CellStep.{CellState, Stepped, initial_cell, cell_next, cell_emitted, cell_output, cell_moved}
use Rattle.run_model.specs.Examples.{one_cell}

-- one cell whose port is named v, without a rule of its own
abbrev pub group : DelayKind → Group
group kind = record (one_cell ([] ∷ []) []) {
  settings = record default_settings { kind = kind };
}

-- a sight without neighbours
abbrev pub nothing_seen : Sight
nothing_seen =
    record {
      time = 10;
      place = record { row = 0; column = 0; plane = 0 };
      dims = 2;
      neighbours = [];
      port = Undefined;
      variables = [];
    }

-- these values at the first port
abbrev pub inputs : List Value → Bag
inputs [] = []
inputs (v ∷ vs) = (record { 0 = 0 }, v) ∷ inputs vs

-- what becomes at 10 of a cell that starts with 0 and isn't woken
abbrev pub after_inputs : DelayKind → List Value → Stepped
after_inputs kind vs =
    cell_moved (group kind) 0 10 false nothing_seen (inputs vs)
    (initial_cell (group kind) (whole 0))

-- a cell with one port that has given nothing
abbrev pub a_cell : Value → List (ℕ × Value) → CellState
a_cell computed pairs =
    record {
      ports = record { emitted = Undefined; computed = computed; pairs = pairs } ∷ [];
      variables = [];
    }

-- steps of cells, computed
pub record CellsStep : Type 0 where
  pub ports : cell_ports (group Transport) 0 ≡ letter 118 ∷ []
  pub start : initial_cell (group Transport) (whole 0) ≡ a_cell (whole 0) ((0, whole 0) ∷ [])
  pub still_waits : after_inputs Transport (whole 1 ∷ [])
      ≡ Ok (a_cell (whole 1) ((0, whole 0) ∷ (110, whole 1) ∷ []))
  pub next : cell_next (a_cell (whole 1) ((0, whole 0) ∷ (110, whole 1) ∷ [])) ≡ Some 0
  pub last_input : after_inputs Transport (whole 1 ∷ whole 2 ∷ [])
      ≡ Ok (a_cell (whole 2) ((0, whole 0) ∷ (110, whole 2) ∷ []))
  pub preempts : after_inputs Inertial (whole 1 ∷ []) ≡ Ok (a_cell (whole 1) ((110, whole 1) ∷ []))
  pub same_value : after_inputs Inertial (whole 0 ∷ []) ≡ Ok (a_cell (whole 0) ((0, whole 0) ∷ []))
  pub emits : cell_emitted 0 (a_cell (whole 1) ((0, whole 0) ∷ (110, whole 1) ∷ [])) ≡
      record {
        ports =
            record { emitted = whole 0; computed = whole 1; pairs = (110, whole 1) ∷ [] } ∷ [];
        variables = [];
      }
  pub gives : cell_output 0 (a_cell (whole 1) ((0, whole 0) ∷ (110, whole 1) ∷ []))
      ≡ (record { 0 = 0 }, whole 0) ∷ []
  pub gives_nothing : cell_output 10 (a_cell (whole 1) ((0, whole 0) ∷ (110, whole 1) ∷ [])) ≡ []
