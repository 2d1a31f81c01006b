-- What is written is read back, and nothing else is read.
use Rattle.std.specs.Prelude.{◌≡◌, ℕ, ◌≤◌, IsTrue, Some, List, length, Ok}
use Rattle.std.specs.List.{AllZip}
use Rattle.model_tree.specs.Tree.{Tree, leaves}
use Rattle.run_model.specs.Cycle.{LeafState}
use Rattle.quantity.specs.declared.bounds.TheConstants.{MAX_DELAY, MAX_LOG_BYTES}
use Rattle.quantity.specs.Bytes.{Bytes}
use Rattle.text_forms.specs.LogLine.{LogLine, is_line, line_text, read_line}
use Rattle.text_forms.specs.StateOfLeaf.{IsStateOf, has_names}
use Rattle.text_forms.specs.StateText.{text_of_state}
use Rattle.text_forms.specs.StateOf.{Saved, state_of}

-- what is written is read as it was
pub record ReadsWhatIsWritten : Type 0 where
  pub line : (l : LogLine) → IsTrue (is_line l) → read_line (line_text l) ≡ Some l
  pub state : (tree : Tree) (t end : ℕ) (states : List LeafState) → IsTrue (has_names tree)
      → t ≤ end → end ≤ MAX_DELAY
      → AllZip (IsStateOf t) (leaves tree) states
      → length (text_of_state tree t states) ≤ MAX_LOG_BYTES
      → state_of (text_of_state tree t states) tree end ≡ Ok (record { time = t; states = states })

-- no other text is read so
pub record ReadsNothingElse : Type 0 where
  pub line : (text : Bytes) (l : LogLine) → read_line text ≡ Some l
      → (text ≡ line_text l) × IsTrue (is_line l)
  pub state : (tree : Tree) (end : ℕ) (bytes : Bytes) (s : Saved) → state_of bytes tree end ≡ Ok s
      → bytes ≡ text_of_state tree s.time s.states
