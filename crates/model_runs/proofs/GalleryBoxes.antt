-- Boxes that were handed in.
use Rattle.std.proofs.Common.{◌≡◌, true, false, List, [], ◌∷◌, map, refl}
use Rattle.std.specs.Prelude.{not}
use Rattle.std.specs.List.{list_all}
use Rattle.atomic_face.specs.Held.{Held}
use Rattle.atomic_face.specs.StockView.{Stocked}

-- none of them is taken
pub none_taken : {X : Type 0} (held : X → Held) (boxes : List X) → list_all (λ (s : Stocked). not s.taken) (map (λ m. record { box = held m; taken = false }) boxes) ≡ true
none_taken held [] = refl
none_taken held (m ∷ boxes) = none_taken held boxes
