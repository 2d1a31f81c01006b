-- What is written and drawn: a piece of a file, and a cycle whose records are held.
use Rattle.std.specs.Prelude.{◌≡◌, ℕ, Option, Result}
use Rattle.std.specs.Option.{option_map}
use Rattle.quantity.specs.Bytes.{Bytes}
use Rattle.model_leaves.specs.declared.table.Model.{Model}
use Rattle.model_leaves.specs.Leaves.{OfTree}
use Rattle.run_model.specs.Run.{Cycle}
use Rattle.text_forms.specs.declared.records.Records.{Records}
use Rattle.text_forms.specs.Held.{Holds}
use Rattle.text_forms.specs.Chosen.{letters_of}
use Rattle.room_edge.specs.Outside.{Outside}
use Rattle.asked_words.specs.declared.asked.Asked.{Asked}
use Rattle.run_loop.specs.declared.outputs.Output.{Output}
use Rattle.run_loop.specs.declared.outputs.Unwritten.{Unwritten}
use Rattle.run_loop.specs.AskedFiles.{names_of}
use Rattle.run_loop.specs.Order.{one_piece}
use Rattle.run_loop.specs.Pieces.{lines_of, cycle_pieces}
use Rattle.run_loop.specs.Showing.{Showing, after_cycle}
use Rattle.run_loop.specs.Written.{Writes}

-- one piece alone
abbrev pub WritesPiece : {T : Type 0} → Asked → Output → Bytes → Outside → Outside
    → Result T Unwritten → Type 0
WritesPiece a file bytes old new result =
    Writes (names_of a) (one_piece file bytes) old new result

-- the pieces of a cycle at this time, whose records these are, over what was drawn before
abbrev pub WritesHeld : {T : Type 0} → Asked → Model → Records → ℕ → Option Showing
    → Outside → Outside → Result T Unwritten → Type 0
WritesHeld a model records at drawn old new result =
    (c : Cycle) → Holds records c → c.time ≡ at → OfTree model (λ tree.
    Writes (names_of a) (cycle_pieces tree (letters_of a.given.letters) drawn c) old new result)

-- the lines that a cycle with these records has in a file
abbrev pub WritesLines : {T : Type 0} → Asked → Model → Records → Output
    → Outside → Outside → Result T Unwritten → Type 0
WritesLines a model records file old new result =
    (c : Cycle) → Holds records c → OfTree model (λ tree.
    Writes (names_of a) (one_piece file (lines_of tree (letters_of a.given.letters) c file))
    old new result)

-- what is drawn after a cycle at this time with these records
abbrev pub DrawsHeld : Records → ℕ → Option Showing → Option Showing → Type 0
DrawsHeld records at old new =
    (c : Cycle) → Holds records c → c.time ≡ at → new ≡ option_map (after_cycle c) old
