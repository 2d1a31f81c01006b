-- What whole reads and writes give.
use Rattle.std.specs.Prelude.{◌≡◌, ℕ, ◌+◌, ◌≤◌, List, [], ◌∷◌, ◌++◌, ◌⊎◌, length, drop, ◌<◌, take}
use Rattle.std.specs.Prelude.{IfSome, IsErrOf, Option, Some, None, Result, Ok, Err, Vec, IsTrue, ⊤}
use Rattle.std.specs.declared.alloc.Global.{Global}
use Rattle.room_edge.specs.Outside.{Outside, Files}
use Rattle.room_edge.specs.Only.{OnlyRest}
use Rattle.room_edge.specs.Faults.{Rose, WriteFaultCounted}
use Rattle.room_edge.specs.FaultCounts.{ComplaintFaultCounted}
use Rattle.room_edge.specs.declared.room.OpenError.{OpenError}
use Rattle.room_edge.specs.declared.room.OpenError.TheVariants as open_error
use Rattle.room_edge.specs.declared.whole.ReadWhole.{ReadWhole}
use Rattle.room_edge.specs.declared.whole.ReadWhole.TheVariants as read
use Rattle.room_edge.specs.declared.whole.WriteAll.{WriteAll}
use Rattle.room_edge.specs.declared.whole.WriteAll.TheVariants as write

-- what is read of a file of a told folder: of one past the limit just one byte more than that
abbrev pub IsReadOf : Files → List ℕ → ℕ → Result (Vec ℕ Global) ReadWhole → Type 0
IsReadOf files name limit (Ok bytes) =
    (files name ≡ Some bytes.items) × (length bytes.items ≤ limit)
IsReadOf files name limit (Err read.Missing) = files name ≡ None
IsReadOf files name limit (Err (read.TooLong n)) =
    (bytes : List ℕ) × (files name ≡ Some bytes) × (n ≡ limit + 1) × (n ≤ length bytes)
IsReadOf files name limit (Err read.ReadFault) = ⊤
IsReadOf files name limit (Err read.Memory) = ⊤

-- what is left of the input: nothing after a whole file, and all but n bytes of one that is too
-- long
abbrev pub IsLeftOf : {T : Type 0} → Files → List ℕ → Result T ReadWhole → Option (List ℕ) → Type 0
IsLeftOf files name (Ok _) rest = rest ≡ Some []
IsLeftOf files name (Err (read.TooLong n)) rest =
    (bytes : List ℕ) × (files name ≡ Some bytes) × (rest ≡ Some (drop n bytes))
IsLeftOf files name (Err read.Missing) rest = ⊤
IsLeftOf files name (Err read.ReadFault) rest = ⊤
IsLeftOf files name (Err read.Memory) rest = ⊤

-- whether an input is open afterwards: one that was open stays so
abbrev pub KeepsOpen : {T : Type 0} → Result T ReadWhole → Outside → Outside → Type 0
KeepsOpen (Ok _) old new = IsTrue new.opened
KeepsOpen (Err (read.TooLong _)) old new = IsTrue new.opened
KeepsOpen (Err read.Missing) old new = (new.opened ≡ old.opened) × (new.rest ≡ old.rest)
KeepsOpen (Err read.ReadFault) old new = IsTrue old.opened → IsTrue new.opened
KeepsOpen (Err read.Memory) old new = IsTrue old.opened → IsTrue new.opened

-- how many bytes were written
abbrev pub count_written : {T : Type 0} → Result T WriteAll → ℕ → ℕ
count_written (Ok _) all = all
count_written (Err (write.WriteFault n)) all = n
count_written (Err (write.Memory n)) all = n

-- the bytes that were written, the first ones
abbrev pub bytes_written : {T : Type 0} → Result T WriteAll → List ℕ → List ℕ
bytes_written result bytes = take (count_written result (length bytes)) bytes

-- a fault of writing is counted, and came before the last byte
abbrev pub FaultIsCounted : {T : Type 0} → Result T WriteAll → List ℕ → Outside → Outside → Type 0
FaultIsCounted result bytes old new =
    (n : ℕ) → IsErrOf result (write.WriteFault n)
    → (n < length bytes) × WriteFaultCounted old new

-- a fault of complaining is counted as one of writing too, and came before the last byte
abbrev pub ComplaintIsCounted : {T : Type 0} → Result T WriteAll → List ℕ → Outside → Outside
    → Type 0
ComplaintIsCounted result bytes old new =
    (n : ℕ) → IsErrOf result (write.WriteFault n)
    → (n < length bytes) × WriteFaultCounted old new × ComplaintFaultCounted old new

-- the name was looked for, or memory ran out before
abbrev pub Tries : {T : Type 0} → Result T ReadWhole → List ℕ → List (List ℕ) → List (List ℕ)
    → Type 0
Tries (Ok _) name old new = new ≡ old ++ name ∷ []
Tries (Err read.Missing) name old new = new ≡ old ++ name ∷ []
Tries (Err read.ReadFault) name old new = new ≡ old ++ name ∷ []
Tries (Err (read.TooLong _)) name old new = new ≡ old ++ name ∷ []
Tries (Err read.Memory) name old new = (new ≡ old) ⊎ (new ≡ old ++ name ∷ [])

-- the misses rise just where the file is missing
abbrev pub CountsMissOfWhole : {T : Type 0} → Result T ReadWhole → ℕ → ℕ → Type 0
CountsMissOfWhole (Ok _) old new = new ≡ old
CountsMissOfWhole (Err read.Missing) old new = Rose old new
CountsMissOfWhole (Err read.ReadFault) old new = new ≡ old
CountsMissOfWhole (Err (read.TooLong _)) old new = new ≡ old
CountsMissOfWhole (Err read.Memory) old new = new ≡ old

-- the faults of reading rise just where the answer is one
abbrev pub CountsFaultOfWhole : {T : Type 0} → Result T ReadWhole → ℕ → ℕ → Type 0
CountsFaultOfWhole (Ok _) old new = new ≡ old
CountsFaultOfWhole (Err read.Missing) old new = new ≡ old
CountsFaultOfWhole (Err read.ReadFault) old new = Rose old new
CountsFaultOfWhole (Err (read.TooLong _)) old new = new ≡ old
CountsFaultOfWhole (Err read.Memory) old new = new ≡ old

-- the faults of writing rise just where the answer is one
abbrev pub CountsFaultOfAll : {T : Type 0} → Result T WriteAll → ℕ → ℕ → Type 0
CountsFaultOfAll (Ok _) old new = new ≡ old
CountsFaultOfAll (Err (write.WriteFault _)) old new = Rose old new
CountsFaultOfAll (Err (write.Memory _)) old new = new ≡ old

-- ---- a file that is read whole, in steps: only private clauses name these

-- why a file is not read that could not be opened
abbrev pub unopened_as : OpenError → ReadWhole
unopened_as open_error.Missing = read.Missing
unopened_as open_error.Failed = read.ReadFault
unopened_as open_error.Memory = read.Memory

-- what was taken of what was left: all, or one byte more than the limit
abbrev pub IsRestOf : {T : Type 0} → Result T ReadWhole → List ℕ → List ℕ → Option (List ℕ) → Type 0
IsRestOf (Ok _) rest taken left = (rest ≡ taken) × (left ≡ Some [])
IsRestOf (Err (read.TooLong n)) rest taken left = (n ≤ length rest) × (left ≡ Some (drop n rest))
IsRestOf (Err read.Missing) rest taken left = ⊤
IsRestOf (Err read.ReadFault) rest taken left = ⊤
IsRestOf (Err read.Memory) rest taken left = ⊤

-- how much was taken of an opened input: no more than the limit, or one byte more
abbrev pub IsWithin : {T : Type 0} → Result T ReadWhole → ℕ → List ℕ → Type 0
IsWithin (Ok _) limit taken = length taken ≤ limit
IsWithin (Err (read.TooLong n)) limit taken = n ≡ limit + 1
IsWithin (Err read.Missing) limit taken = ⊥
IsWithin (Err read.ReadFault) limit taken = ⊤
IsWithin (Err read.Memory) limit taken = ⊤

-- what is left of an opened input is taken
pub record ReadsRest {T : Type 0} (result : Result T ReadWhole) (limit : ℕ) (taken : List ℕ)
    (old new : Outside) : Type 0 where
  pub bytes : IfSome old.rest (λ rest. IsRestOf result rest taken new.rest)
  pub within : IsWithin result limit taken
  pub counted : CountsFaultOfWhole result old.read_faults new.read_faults
  pub faults : old.read_faults ≤ new.read_faults
  pub only : OnlyRest old new
