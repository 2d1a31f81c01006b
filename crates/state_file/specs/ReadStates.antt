-- The states that a text gives, and the model that it is read for.
use Rattle.std.specs.Prelude.{◌≡◌, ℕ, IsTrue}
use Rattle.std.specs.declared.result.Result.TheVariants.{Ok}
use Rattle.quantity.specs.Bytes.{Bytes}
use Rattle.model_tree.specs.Tree.{Tree}
use Rattle.model_tree.specs.Sound.{is_sound_model}
use Rattle.run_model.specs.Fitting.{FitsTree}
use Rattle.text_forms.specs.StateOf.{Saved, state_of}

-- they fit the leaves of a sound model
abbrev pub ReadStatesFit : Type 0
ReadStatesFit =
    (bytes : Bytes) (tree : Tree) (end : ℕ) (saved : Saved) → IsTrue (is_sound_model tree)
    → state_of bytes tree end ≡ Ok saved → FitsTree tree saved.states
