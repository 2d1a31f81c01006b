-- The name of a leaf that a value of the program stands for.
use Rattle.std.specs.Prelude.{◌≡◌, ℕ, ◌-◌, ◌≤◌, List, take, drop, replicate}
use Rattle.quantity.specs.declared.place.Place.{Place}
use Rattle.rule_tree.specs.Meaning.{coordinates}
use Rattle.text_forms.specs.LogLine as forms
use Rattle.drawlog_top.specs.declared.leaf_name.LeafName.{LeafName}
use Rattle.drawlog_top.specs.declared.leaf_name.At.{At}

-- so many coordinates
abbrev pub at_of : At → List ℕ
at_of a = take a.dims (coordinates a.place)

-- the name, with as many coordinates as there are
abbrev pub named_leaf : LeafName → forms.LeafName
named_leaf l = record { name = l.name.now; at = take l.dims (coordinates l.place) }

-- a place has so many coordinates, at most three: those that follow are 0
pub record HasCoordinates (place : Place) (dims : ℕ) : Type 0 where
  pub few : dims ≤ 3
  pub rest_is : drop dims (coordinates place) ≡ replicate (3 - dims) 0

-- `dims` is the number of the coordinates that the leaf's name has, and `place` is theirs alone
abbrev pub HasWholePlace : LeafName → Type 0
HasWholePlace l = HasCoordinates l.place l.dims
