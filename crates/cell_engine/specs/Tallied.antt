-- Private: how many neighbours show what words count, kept for each cell.
use Rattle.std.specs.Prelude.{◌≡◌, ℕ, ◌<◌, ◌++◌, Option, Some, None, List, map, take, drop, length, slice_set, slice_index_or}
use Rattle.std.specs.List.{All}
use Rattle.quantity.specs.declared.value.Value.{Value}
use Rattle.quantity.specs.declared.value.Value.TheVariants.{Undefined}
use Rattle.rule_eval.specs.declared.tally.Tally.{Tally}
use Rattle.rule_eval.specs.Tallies.{IsTally, moved_tally}
use Rattle.run_model.specs.CellStep.{CellState}
use Rattle.cell_grid.specs.Space.{cell_count}
use Rattle.cell_reach.specs.Neighbourhoods.{Neighbourhood, neighbours}
use Rattle.cell_table.specs.Table.{Table}
use Rattle.cell_table.specs.Told.{values_emitted}
use Rattle.cell_engine.specs.Step.{out_of}

-- what a cell shows: what it gave last at its port out
abbrev pub last_value_shown : CellState → Value
last_value_shown c = slice_index_or (values_emitted c) 0 Undefined

-- what each cell shows
abbrev pub outs_of : Table → List Value
outs_of t = map last_value_shown t.cells

-- what stands past the last tally
abbrev pub no_tally : Tally
no_tally = record { ones = 0; zeros = 0; undefs = 0 }

-- each cell's tally is that of what its neighbours show
abbrev pub AreTallies : Neighbourhood → List Value → List Tally → Type 0
AreTallies n es ts =
    (x : ℕ) → x < length ts
    → IsTally (slice_index_or ts x no_tally) (map (out_of es) (neighbours n x))

-- there are none, or one for each cell
pub record AreKept (n : Neighbourhood) (es : List Value) (ts : List Tally) : Type 0 where
  pub whole : 0 < length ts → length ts ≡ cell_count n.space
  pub each : AreTallies n es ts

-- the tally of a cell is moved, if one is
abbrev pub moved_at : Option ℕ → Tally → Tally → List Tally → List Tally
moved_at None was is ts = ts
moved_at (Some x) was is ts =
    slice_set ts x (moved_tally (slice_index_or ts x no_tally) was is)

-- ---- while what one cell shows changes

-- what is seen by the new values before offset k, and by the old ones from there on
abbrev pub midway : List Value → List Value → ℕ → List (Option ℕ) → List Value
midway old new k ms = map (out_of new) (take k ms) ++ map (out_of old) (drop k ms)

-- each cell's tally is that of what is seen so
abbrev pub AreMidway : Neighbourhood → List Value → List Value → ℕ → List Tally → Type 0
AreMidway n old new k ts =
    (x : ℕ) → x < length ts
    → IsTally (slice_index_or ts x no_tally) (midway old new k (neighbours n x))

-- ---- the start

-- each of so many neighbours shows `?`
pub record IsUnseen (places : ℕ) (t : Tally) : Type 0 where
  pub ones : t.ones ≡ 0
  pub zeros : t.zeros ≡ 0
  pub undefs : t.undefs ≡ places

-- there are none, or one for each of so many cells
pub record AreUnseen (places cells : ℕ) (ts : List Tally) : Type 0 where
  pub whole : 0 < length ts → length ts ≡ cells
  pub each : All (IsUnseen places) ts
