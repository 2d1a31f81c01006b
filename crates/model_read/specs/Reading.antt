-- What the reading of files comes to, one after another: which names were looked for, what was
-- counted, and what stops it.
use Rattle.std.specs.Prelude.{◌≡◌, ℕ, ◌++◌, Option, Some, None, List, [], ◌∷◌, IfSome, ⊤}
use Rattle.std.specs.declared.result.Result.{Result}
use Rattle.std.specs.declared.result.Result.TheVariants.{Ok, Err}
use Rattle.quantity.specs.Bytes.{Bytes}
use Rattle.room_edge.specs.Outside.{Outside}
use Rattle.room_edge.specs.Only.{OnlyInput}
use Rattle.room_edge.specs.Faults.{Rose}
use Rattle.room_edge.specs.FaultCounts.{KeepsMisses, KeepsReadFaults}
use Rattle.model_text.specs.Refusals.{refusal}
use Rattle.model_text.specs.InitialFiles.{InitialFile, FileStop, absent, off, first_file_stop, names_looked_for}
use Rattle.model_read.specs.declared.refusal.ModelRefusal.{ModelRefusal}
use Rattle.model_read.specs.declared.refusal.ModelRefusal.TheVariants as why

-- ---- names

-- a beginning of a list
abbrev pub Begins : {A : Type 0} → List A → List A → Type 0
Begins {A} part whole = (rest : List A) × (whole ≡ part ++ rest)

-- all that are looked for; where a read failed those up to its file's name, and a beginning where
-- memory ran out
abbrev pub Tried : {T : Type 0} → Result T ModelRefusal → List Bytes → List Bytes → List Bytes
    → Type 0
Tried (Ok x) looked old new = new ≡ old ++ looked
Tried (Err (why.Missing name)) looked old new = new ≡ old ++ looked
Tried (Err (why.Refused line kind)) looked old new = new ≡ old ++ looked
Tried (Err (why.ReadFault name)) looked old new =
    (part : List Bytes) × Begins (part ++ name ∷ []) looked × (new ≡ old ++ (part ++ name ∷ []))
Tried (Err why.Memory) looked old new =
    (part : List Bytes) × Begins part looked × (new ≡ old ++ part)

-- the name of a file that is missing, or can't be read, is the last that was tried
abbrev pub IsLastTried : {T : Type 0} → Result T ModelRefusal → List Bytes → Type 0
IsLastTried (Ok x) tried = ⊤
IsLastTried (Err (why.Missing name)) tried = (front : List Bytes) × (tried ≡ front ++ name ∷ [])
IsLastTried (Err (why.ReadFault name)) tried = (front : List Bytes) × (tried ≡ front ++ name ∷ [])
IsLastTried (Err (why.Refused line kind)) tried = ⊤
IsLastTried (Err why.Memory) tried = ⊤

-- ---- counts

-- a miss and a fault of reading are answered just where they are counted
abbrev pub Counted : {T : Type 0} → Result T ModelRefusal → Outside → Outside → Type 0
Counted (Ok x) old new = (new.misses ≡ old.misses) × (new.read_faults ≡ old.read_faults)
Counted (Err (why.Missing name)) old new =
    Rose old.misses new.misses × (new.read_faults ≡ old.read_faults)
Counted (Err (why.ReadFault name)) old new =
    (new.misses ≡ old.misses) × Rose old.read_faults new.read_faults
Counted (Err (why.Refused line kind)) old new =
    (new.misses ≡ old.misses) × (new.read_faults ≡ old.read_faults)
Counted (Err why.Memory) old new = (new.misses ≡ old.misses) × (new.read_faults ≡ old.read_faults)

-- ---- files

-- the first file that stops is the one that is answered
abbrev pub StopsAs : {T : Type 0} → Result T ModelRefusal → Option FileStop → Type 0
StopsAs (Ok x) stop = stop ≡ None
StopsAs (Err (why.Missing name)) stop = stop ≡ Some (absent name)
StopsAs (Err (why.Refused line kind)) stop = stop ≡ Some (off (refusal line kind))
StopsAs (Err (why.ReadFault name)) stop = ⊤
StopsAs (Err why.Memory) stop = ⊤

-- these files were read, up to the first that stops the reading
pub record ReadsFiles {T : Type 0} (files : List InitialFile) (result : Result T ModelRefusal)
    (old new : Outside) : Type 0 where
  pub stops : IfSome old.files (λ folder. StopsAs result (first_file_stop folder files))
  pub tried : IfSome old.files (λ folder.
      Tried result (names_looked_for folder files) old.tried new.tried)
  pub last : IsLastTried result new.tried
  pub counted : Counted result old new
  -- no count falls
  pub misses : KeepsMisses old new
  pub faults : KeepsReadFaults old new
  pub only : OnlyInput old new
