-- A model that is ready is what a run without events starts from.
use Rattle.std.proofs.Common.{◌≡◌, arith, ℕ, ℤ, Option, None, List, [], map, sym, ap, ◌∙◌, subst}
use Rattle.std.specs.Prelude.{IsTrue, unwrap_or, replicate}
use Rattle.std.proofs.lemmas.Option.{slice_get-map, unwrap_or-slice_get}
use Rattle.atomic_face.specs.StockView.{Stocked}
use Rattle.model_leaves.specs.declared.table.Model.{Model}
use Rattle.model_tree.specs.Tree.{Tree, leaf_count}
use Rattle.model_leaves.specs.Models.{tree_of}
use Rattle.model_tree.specs.Sound.{is_sound_model}
use Rattle.model_leaves.specs.Boxes.{settings_of_stock}
use Rattle.run_leaves.specs.Seated as S
use Rattle.run_leaves.specs.Seated.{settings_at}
use Rattle.route_flat.specs.declared.routes.Routes.{Routes}
use Rattle.flat_run.specs.Changes.{tree_with, StartsFrom}
use Rattle.model_read.specs.Read.{IsReady}

same_settings : (stock : List Stocked) (n : ℕ) → settings_at (S.settings_in stock) n ≡ settings_of_stock stock n
same_settings stock n =
    let words = λ (s : Stocked). s.box.settings in
    sym (unwrap_or-slice_get (map words stock) n []) ∙ ap (λ o. unwrap_or o []) (slice_get-map words stock n)

same_tree : (m : Model) (stock : List Stocked) → tree_with m stock ≡ tree_of m (settings_of_stock stock)
same_tree m stock = ap (tree_of m) (λ i n. same_settings stock n i)

pub starts : (stock : List Stocked) (m : Model) (routes : Routes) (leaves : ℕ) (waiting : List (Option ℕ)) → IsReady stock m routes
    → ((settings : ℕ → List ℤ) → leaves ≡ leaf_count (tree_of m settings)) → waiting ≡ replicate leaves None → StartsFrom m stock routes [] waiting
starts stock m routes leaves waiting ready counted waits =
    let same = sym (same_tree m stock) in
    record {
      sound = subst (λ (t : Tree). IsTrue (is_sound_model t)) same ready.sound;
      routes_are = ready.routes_are (settings_at (S.settings_in stock));
      waits = waits ∙ ap (λ n. replicate n None) (counted (settings_at (S.settings_in stock)));
      boxes = ready.boxes;
      at_inputs = λ k d below. absurd (omega (arith, below));
    }
