-- The settings of the boxes of a stock: as a list, and by their numbers.
use Rattle.std.proofs.Common.{◌≡◌, ℕ, zero, suc, List, [], ◌∷◌, refl, ap}
use Rattle.atomic_face.specs.StockView.{Stocked}
use Rattle.model_leaves.specs.declared.table.Model.{Model}
use Rattle.model_leaves.specs.Models.{tree_of}
use Rattle.model_leaves.specs.Boxes as boxes
use Rattle.run_leaves.specs.Seated.{settings_in, settings_at, tree_at}

at-number : (stock : List Stocked) (n : ℕ) → settings_at (settings_in stock) n ≡ boxes.settings_of_stock stock n
at-number [] n = refl
at-number (s ∷ ss) zero = refl
at-number (s ∷ ss) (suc n) = at-number ss n

-- they are the same settings
pub same-settings : (stock : List Stocked) → settings_at (settings_in stock) ≡ boxes.settings_of_stock stock
same-settings stock = λ i n. at-number stock n i

-- and the same tree
pub same-tree : (m : Model) (stock : List Stocked) → tree_at m (settings_in stock) ≡ tree_of m (boxes.settings_of_stock stock)
same-tree m stock = ap (tree_of m) (same-settings stock)
