-- A list in pieces.
use Rattle.std.specs.Prelude.{◌≡◌, ◌<◌, ◌+◌, ℕ, Some, List, [], ◌∷◌, ◌++◌, Vec, length, take, slice_get}
use Rattle.std.specs.declared.alloc.Global.{Global}
use Rattle.tree_mail.specs.declared.place.Place.{Place}

-- the items of all pieces, one piece behind another
abbrev pub items_of_pieces : {T : Type 0} → List (Vec T Global) → List T
items_of_pieces [] = []
items_of_pieces (p ∷ ps) = p.items ++ items_of_pieces ps

-- the place of an item in its piece is this one, where it is so far from the first item of all
pub record IsPlaceOf {T : Type 0} (pieces : List (Vec T Global)) (number : ℕ) (at : Place)
    : Type 0 where
  pub piece : Vec T Global
  pub there : slice_get pieces at.piece ≡ Some piece
  pub within : at.within < length piece.items
  pub number_is : number ≡ length (items_of_pieces (take at.piece pieces)) + at.within
