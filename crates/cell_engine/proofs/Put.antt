-- A store in which a cell was put.
use Rattle.std.proofs.Common.{◌≡◌, ℕ, refl, sym, ◌∙◌, ap, subst, Ok, Err}
use Rattle.std.specs.Prelude.{OnOk, OnErr}
use Rattle.std.specs.declared.result.Result.{Result}
use Rattle.run_model.specs.CellStep.{CellState}
use Rattle.cell_table.specs.Told.{no_cell}
use Rattle.cell_table.specs.Table.{Table, HasShape, changed_cell}
use Rattle.cell_table.proofs.Changes.{changed-set, length-changed}
use Rattle.cell_engine.specs.Layout.{Layout}
use Rattle.cell_engine.specs.Cells.{Cells, with_cell_state}
use Rattle.cell_engine.specs.Store.{IsReady}
use Rattle.cell_engine.proofs.Ready.{ready_after}

module _ {U E : Type 0} (i : ℕ) (c : CellState) (t u : Table) (r : Result U E) where
  -- the table keeps its numbers
  put_shape : (q : Result U E) → OnOk q (u ≡ changed_cell i (λ _. c) t) → OnErr q (u ≡ t) → HasShape t u
  put_shape (Ok x) ok err =
      subst (λ (w : Table). HasShape t w) (sym ok) (record { width = refl; variables = refl; cells = length-changed i (λ (_ : CellState). c) t.cells })
  put_shape (Err e) ok err = subst (λ (w : Table). HasShape t w) (sym err) (record { width = refl; variables = refl; cells = refl })

  pub put_ready : (l : Layout) (p m k d : ℕ) → OnOk r (u ≡ changed_cell i (λ _. c) t) → OnErr r (u ≡ t) → IsReady l t p m k d → IsReady l u p m k d
  put_ready l p m k d ok err ready =
      let s = put_shape r ok err in
      ready_after l t u p m k d s.width s.variables s.cells ready

-- the store has the cell
pub put_ok : {U E : Type 0} (i : ℕ) (c : CellState) (l : Layout) (t u : Table) (s : Cells) (r : Result U E) → record { layout = l; cells = t.cells } ≡ s → OnOk r (u ≡ changed_cell i (λ _. c) t)
    → OnOk r (record { layout = l; cells = u.cells } ≡ with_cell_state s i c)
put_ok i c l t u s (Ok x) is ok =
    let cells = ap (λ (w : Table). w.cells) ok ∙ changed-set i (λ (_ : CellState). c) no_cell t.cells in
    (λ k. record { layout = l; cells = cells k }) ∙ ap (λ (w : Cells). with_cell_state w i c) is
put_ok i c l t u s (Err e) is ok = tt

-- the store stays
pub put_err : {U E : Type 0} (l : Layout) (t u : Table) (s : Cells) (r : Result U E) → record { layout = l; cells = t.cells } ≡ s → OnErr r (u ≡ t) → OnErr r (record { layout = l; cells = u.cells } ≡ s)
put_err l t u s (Ok x) is err = tt
put_err l t u s (Err e) is err = (λ k. record { layout = l; cells = (ap (λ (w : Table). w.cells) err) k }) ∙ is
