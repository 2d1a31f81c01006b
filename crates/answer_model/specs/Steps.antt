-- How the calls of a room add to what was done.
use Rattle.std.specs.Prelude.{◌≡◌, Bool, true, [], ◌∷◌, ◌++◌, if◌then◌else◌}
use Rattle.std.specs.List.{list_any}
use Rattle.std.specs.Str.{bytes_eq}
use Rattle.model_tree.specs.Tree.{Word}
use Rattle.quantity.specs.Bytes.{Bytes}
use Rattle.room_edge.specs.Outside.{Outside, puts, streams}
use Rattle.room_edge.specs.Only.{OnlyInput, OnlyMade, OnlyShown, OnlyComplained, adds}
use Rattle.answer_model.specs.Answer.{MadeFiles}
use Rattle.answer_model.specs.Outcome.{Did, HasMore}

-- a file of this name is among these
abbrev pub is_made : Word → MadeFiles → Bool
is_made name files = list_any (λ (f : Word × Bytes). bytes_eq f.0 name) files

-- the last file of this name has these bytes more
abbrev pub files_with_more : Word → Bytes → MadeFiles → MadeFiles
files_with_more name bytes [] = []
files_with_more name bytes (f ∷ fs) =
    if is_made name fs then f ∷ files_with_more name bytes fs
    else if bytes_eq f.0 name then (f.0, f.1 ++ bytes) ∷ fs else f ∷ fs

-- a call that did nothing outside
abbrev pub did_nothing : Did
did_nothing = record { tried = []; made = []; shown = []; complained = [] }

-- and then looked for a file
abbrev pub and_tried : Word → Did → Did
and_tried name d = record d { tried = d.tried ++ name ∷ [] }

-- and then made a file
abbrev pub and_created : Word → Did → Did
and_created name d = record d { made = d.made ++ (name, []) ∷ [] }

-- and then wrote bytes to the end of a file
abbrev pub and_appended : Word → Bytes → Did → Did
and_appended name bytes d = record d { made = files_with_more name bytes d.made }

-- and then wrote to standard output
abbrev pub and_showed : Bytes → Did → Did
and_showed bytes d = record d { shown = d.shown ++ bytes }

-- and then wrote to standard error
abbrev pub and_complained : Bytes → Did → Did
and_complained bytes d = record d { complained = d.complained ++ bytes }

-- ---- each call, as a room says what it does

-- one step looks for a file
abbrev pub Tried : Word → Outside → Outside → Type 0
Tried name old new = (new.tried ≡ old.tried ++ name ∷ []) × OnlyInput old new

-- one step reads
abbrev pub Read : Outside → Outside → Type 0
Read old new = (new.tried ≡ old.tried) × OnlyInput old new

-- one step makes a file
abbrev pub Created : Word → Outside → Outside → Type 0
Created name old new =
    (new.made ≡ puts old.made name []) × (new.created ≡ old.created ++ name ∷ []) × OnlyMade old new

-- one step writes bytes to the end of a file
abbrev pub Appended : Word → Bytes → Outside → Outside → Type 0
Appended name bytes old new =
    (new.made ≡ adds old.made name bytes) × (new.created ≡ old.created) × OnlyMade old new

-- one step writes to standard output
abbrev pub Showed : Bytes → Outside → Outside → Type 0
Showed bytes old new = (new.shown ≡ streams old.shown bytes) × OnlyShown old new

-- one step writes to standard error
abbrev pub Complained : Bytes → Outside → Outside → Type 0
Complained bytes old new = (new.complained ≡ streams old.complained bytes) × OnlyComplained old new

-- one call more adds what it does: where there was more outside by just what was done so far, there
-- is more by just that and what the call does
pub record StepsAdd : Type 0 where
  pub nothing : (now : Outside) → HasMore did_nothing now now
  pub trying : (d : Did) (old now new : Outside) (name : Word) → HasMore d old now
      → Tried name now new → HasMore (and_tried name d) old new
  pub reading : (d : Did) (old now new : Outside) → HasMore d old now → Read now new
      → HasMore d old new
  pub creating : (d : Did) (old now new : Outside) (name : Word) → HasMore d old now
      → Created name now new → HasMore (and_created name d) old new
  pub appending : (d : Did) (old now new : Outside) (name : Word) (bytes : Bytes)
      → is_made name d.made ≡ true → HasMore d old now → Appended name bytes now new
      → HasMore (and_appended name bytes d) old new
  pub showing : (d : Did) (old now new : Outside) (bytes : Bytes) → HasMore d old now
      → Showed bytes now new → HasMore (and_showed bytes d) old new
  pub complaining : (d : Did) (old now new : Outside) (bytes : Bytes) → HasMore d old now
      → Complained bytes now new → HasMore (and_complained bytes d) old new
