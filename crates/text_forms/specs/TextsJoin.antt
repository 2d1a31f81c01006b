-- The texts of cycles that follow each other are those of the first and then those of the others.
use Rattle.std.specs.Prelude.{◌≡◌, ℕ, ◌<◌, ◌≤◌, List, ◌++◌}
use Rattle.std.specs.List.{All}
use Rattle.quantity.specs.declared.value.Value.{Value}
use Rattle.model_tree.specs.Tree.{Tree}
use Rattle.run_model.specs.Run.{Cycle}
use Rattle.text_forms.specs.Lines.{log_bytes, out_bytes}
use Rattle.text_forms.specs.Frames.{Picture, value_drawn, shown_in, frames_of}

-- frames after an instant begin with the values of the cells at its end
abbrev pub FramesJoin : Type 0
FramesJoin =
    (p : Picture) (first : ℕ) (start : ℕ → Value) (time : ℕ) (cs ds : List Cycle)
    → All (λ (c : Cycle). c.time ≤ time) cs → All (λ (c : Cycle). time < c.time) ds
    → frames_of p first start (cs ++ ds)
    ≡ frames_of p first start cs ++ frames_of p first
    (value_drawn start (shown_in p.space first cs) time) ds

-- texts of cycles one after another are the texts of all
pub record TextsJoin : Type 0 where
  pub log : (tree : Tree) (letters : List ℕ) (cs ds : List Cycle)
      → log_bytes tree letters (cs ++ ds) ≡ log_bytes tree letters cs ++ log_bytes tree letters ds
  pub out : (tree : Tree) (cs ds : List Cycle)
      → out_bytes tree (cs ++ ds) ≡ out_bytes tree cs ++ out_bytes tree ds
  pub frames : FramesJoin
