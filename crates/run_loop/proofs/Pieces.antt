-- The pieces of cycles, those of a cycle more, and those behind.
use Rattle.std.proofs.Common.{◌≡◌, ℕ, Option, List, [], ◌∷◌, ◌++◌, refl, ap, ◌∙◌}
use Rattle.std.specs.Option.{option_map}
use Rattle.std.proofs.lemmas.List.{append-nil}
use Rattle.model_tree.specs.Tree.{Tree}
use Rattle.run_model.specs.Run.{Cycle}
use Rattle.run_loop.specs.Order.{Piece}
use Rattle.run_loop.specs.Pieces.{cycle_pieces, drawn_after, cycles_pieces}
use Rattle.run_loop.specs.Showing.{Showing, after_cycle}

pub after_split : (ds cs : List Cycle) (w : Option Showing) → drawn_after (ds ++ cs) w ≡ drawn_after cs (drawn_after ds w)
after_split [] cs w = refl
after_split (d ∷ ds) cs w = after_split ds cs (option_map (after_cycle d) w)

pub pieces_split : (tree : Tree) (letters : List ℕ) (w : Option Showing) (ds cs : List Cycle) → cycles_pieces tree letters w (ds ++ cs) ≡ cycles_pieces tree letters w ds ++ cycles_pieces tree letters (drawn_after ds w) cs
pieces_split tree letters w [] cs = refl
pieces_split tree letters w (d ∷ ds) cs = ap (λ (ps : List Piece). cycle_pieces tree letters w d ++ ps) (pieces_split tree letters (option_map (after_cycle d) w) ds cs)

-- a cycle more
pub pieces_next : (tree : Tree) (letters : List ℕ) (w : Option Showing) (ds : List Cycle) (c : Cycle) → cycles_pieces tree letters w (ds ++ c ∷ []) ≡ cycles_pieces tree letters w ds ++ cycle_pieces tree letters (drawn_after ds w) c
pieces_next tree letters w ds c =
    pieces_split tree letters w ds (c ∷ []) ∙ ap (λ (ps : List Piece). cycles_pieces tree letters w ds ++ ps) (append-nil (cycle_pieces tree letters (drawn_after ds w) c))
