-- A map from names to bytes, as a folder, and a list of names.
use Rattle.std.specs.Prelude.{◌≡◌, ℕ, List, map, Vec, String, is_some}
use Rattle.std.specs.List.{list_any}
use Rattle.std.specs.Str.{bytes_eq}
use Rattle.std.specs.declared.alloc.Global.{Global}
use Rattle.std.specs.Option.{option_map}
use Rattle.std.specs.String.{string_bytes}
use Rattle.std.specs.BTreeMap.{BTreeMap, get_by_text}
use Rattle.room_edge.specs.Outside.{Files}

-- files in memory as a folder of the definitions
abbrev pub folder_of : BTreeMap (String Global) (Vec ℕ Global) → Files
folder_of files = λ name. option_map (λ v. v.items) (get_by_text files name)

-- names as bytes
abbrev pub names_of : Vec (String Global) Global → List (List ℕ)
names_of names = map string_bytes names.items

-- the names are those of the folder's files
abbrev pub Lists : Files → List (List ℕ) → Type 0
Lists files names = (name : List ℕ) → is_some (files name) ≡ list_any (λ n. bytes_eq n name) names
