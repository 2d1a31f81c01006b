-- A store stays ready where its table keeps its numbers.
use Rattle.std.proofs.Common.{◌≡◌, ℕ, ◌*◌, length, sym, ◌∙◌, ap, subst}
use Rattle.cell_engine.specs.Layout.{Layout}
use Rattle.cell_table.specs.Table.{Table, HasShape}
use Rattle.cell_engine.specs.Step.{NeedAtMost}
use Rattle.cell_engine.specs.Store.{IsReady}

pub ready_after : (l : Layout) (t u : Table) (p r c d : ℕ) → u.width ≡ t.width → u.variables ≡ t.variables → length u.cells ≡ length t.cells → IsReady l t p r c d → IsReady l u p r c d
ready_after l t u p r c d w v n h =
    record {
      width = w ∙ h.width;
      variables = v ∙ h.variables;
      cells = n ∙ h.cells;
      places = h.places;
      room = h.room ∙ ap (λ k. length l.offsets * k) (sym w);
      changed = h.changed;
      depth = h.depth;
    }

-- so does one whose desk keeps its room too
pub desk_after : (l : Layout) (t u : Table) (p r c d p' r' c' d' : ℕ) → HasShape t u → p' ≡ p → r' ≡ length l.offsets * t.width → c' ≡ c → d' ≡ d → IsReady l t p r c d → IsReady l u p' r' c' d'
desk_after l t u p r c d p' r' c' d' shape places room changed deep h =
    record {
      width = shape.width ∙ h.width;
      variables = shape.variables ∙ h.variables;
      cells = shape.cells ∙ h.cells;
      places = places ∙ h.places;
      room = room ∙ ap (λ k. length l.offsets * k) (sym shape.width);
      changed = changed ∙ h.changed;
      depth = subst (λ m. NeedAtMost m l.rule_sets) (sym deep) h.depth;
    }
