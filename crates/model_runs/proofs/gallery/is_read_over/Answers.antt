use Rattle.std.proofs.Common.{sym, subst}
use Rattle.std.specs.Prelude.{IsTrue, not}
use Rattle.std.specs.List.{list_all}
use Rattle.atomic_face.specs.StockView.{Stocked}
use Rattle.model_runs.proofs.GalleryBoxes.{none_taken}
use Rattle.model_runs.proofs.gallery.is_read_over.Goals as goal

pub read_model-requires : goal.read_model-requires
read_model-requires g c = record {
  free = subst (λ stock. IsTrue (list_all (λ (s : Stocked). not s.taken) stock)) (sym c.in_ok-stock.ensures)
      (none_taken (λ m. g.M.AtomicModel.held m) c.args.boxes.items);
}
