-- Boxes that were handed in.
use Rattle.std.proofs.Common.{◌≡◌, true, false, List, [], ◌∷◌, map, refl, ap}
use Rattle.std.specs.Prelude.{not}
use Rattle.std.specs.List.{list_all}
use Rattle.atomic_face.specs.Held.{Held}
use Rattle.atomic_face.specs.StockView.{Stocked}
use Rattle.model_build.specs.Settled.{classes_of}
use Rattle.cdpp_top.specs.Boxes.{classes_by}

abbrev pub handed : {X : Type 0} → (X → Held) → List X → List Stocked
handed held boxes = map (λ m. record { box = held m; taken = false }) boxes

-- none of them is taken
pub none_taken : {X : Type 0} (held : X → Held) (boxes : List X) → list_all (λ (s : Stocked). not s.taken) (handed held boxes) ≡ true
none_taken held [] = refl
none_taken held (m ∷ boxes) = none_taken held boxes

-- their classes are those of the stock
pub classes_are : {X : Type 0} (held : X → Held) (boxes : List X) → classes_of (handed held boxes) ≡ classes_by held boxes
classes_are held [] = refl
classes_are held (m ∷ boxes) = ap (λ cs. (held m).kind ∷ cs) (classes_are held boxes)
