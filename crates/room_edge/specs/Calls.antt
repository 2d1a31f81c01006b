-- What each call of a room does, by its answer.
use Rattle.std.specs.Prelude.{◌≡◌, ℕ, ◌<◌, ◌≤◌, ◌↔◌, List, [], ◌∷◌, ◌++◌, length, take, drop, Some, Result, Ok, Err, IsTrue, IsNone, IfSome, IsSomeAnd, IfOk, OnOk, OnErr, IsErrOf}
use Rattle.room_edge.specs.Outside.{Outside, puts, streams}
use Rattle.room_edge.specs.Only.{OnlyInput, OnlyRest, OnlyMade, OnlyShown, OnlyComplained, adds}
use Rattle.room_edge.specs.Faults.{Rose}
use Rattle.room_edge.specs.Tried.{tried_after}
use Rattle.room_edge.specs.declared.room.OpenError.{OpenError}
use Rattle.room_edge.specs.declared.room.OpenError.TheVariants as open_error
use Rattle.room_edge.specs.declared.room.ReadFailed.{ReadFailed}
use Rattle.room_edge.specs.declared.room.WriteError.{WriteError}
use Rattle.room_edge.specs.declared.room.WriteError.TheVariants as write_error

-- the misses rise just where the file is missing
abbrev pub CountsMiss : {T : Type 0} → Result T OpenError → ℕ → ℕ → Type 0
CountsMiss (Ok _) old new = new ≡ old
CountsMiss (Err open_error.Missing) old new = Rose old new
CountsMiss (Err open_error.Failed) old new = new ≡ old
CountsMiss (Err open_error.Memory) old new = new ≡ old

-- the faults of reading rise just where a file cannot be opened
abbrev pub CountsOpenFault : {T : Type 0} → Result T OpenError → ℕ → ℕ → Type 0
CountsOpenFault (Ok _) old new = new ≡ old
CountsOpenFault (Err open_error.Missing) old new = new ≡ old
CountsOpenFault (Err open_error.Failed) old new = Rose old new
CountsOpenFault (Err open_error.Memory) old new = new ≡ old

-- the faults of writing rise just where nothing could be written
abbrev pub CountsWriteFault : {T : Type 0} → Result T WriteError → ℕ → ℕ → Type 0
CountsWriteFault (Ok _) old new = new ≡ old
CountsWriteFault (Err write_error.Failed) old new = Rose old new
CountsWriteFault (Err write_error.Memory) old new = new ≡ old

-- a call that opens a file
pub record Opens {T : Type 0} (result : Result T OpenError) (name : List ℕ)
    (old new : Outside) : Type 0 where
  pub opened : OnOk result (IsTrue new.opened)
  -- where the files are told, one of that name stands there, and all of it is to be read
  pub rest : OnOk result (IfSome old.files
      (λ files. IsSomeAnd (files name) (λ bytes. new.rest ≡ Some bytes)))
  pub err : OnErr result ((new.opened ≡ old.opened) × (new.rest ≡ old.rest))
  -- where the files are told, none of that name stands there
  pub absent : IsErrOf result open_error.Missing → IfSome old.files (λ files. IsNone (files name))
  pub tried : new.tried ≡ tried_after result name old.tried
  pub missing : CountsMiss result old.misses new.misses
  pub failed : CountsOpenFault result old.read_faults new.read_faults
  -- no count falls
  pub misses : old.misses ≤ new.misses
  pub faults : old.read_faults ≤ new.read_faults
  pub only : OnlyInput old new

-- a call that takes bytes from the front of what is left of the input
pub record Reads (result : Result ℕ ReadFailed) (into : List ℕ) (old new : Outside) : Type 0 where
  pub bound : IfOk result (λ n. n ≤ length into)
  pub bytes : IfOk result (λ n. IfSome old.rest
      (λ rest. (n ≤ length rest) × (take n into ≡ take n rest) × (new.rest ≡ Some (drop n rest))))
  -- none is taken just at the end
  pub end : IfOk result (λ n. IfSome old.rest (λ rest. (n ≡ 0) ↔ (rest ≡ [])))
  pub err : OnErr result (new.rest ≡ old.rest)
  pub ok : OnOk result (new.read_faults ≡ old.read_faults)
  pub failed : OnErr result (Rose old.read_faults new.read_faults)
  pub faults : old.read_faults ≤ new.read_faults
  pub only : OnlyRest old new

-- a call that makes a file, and empties one that stands there
pub record Creates {T : Type 0} (result : Result T WriteError) (name : List ℕ)
    (old new : Outside) : Type 0 where
  pub created : OnOk result (new.created ≡ old.created ++ name ∷ [])
  pub made : OnOk result (new.made ≡ puts old.made name [])
  pub err : OnErr result ((new.created ≡ old.created) × (new.made ≡ old.made))
  pub failed : CountsWriteFault result old.write_faults new.write_faults
  pub faults : old.write_faults ≤ new.write_faults
  pub only : OnlyMade old new

-- so many bytes were taken of a piece: at least one, where there is one
pub record Takes (result : Result ℕ WriteError) (bytes : List ℕ) : Type 0 where
  pub bound : IfOk result (λ n. n ≤ length bytes)
  pub some : IfOk result (λ n. 0 < length bytes → 0 < n)

-- a call that adds the front of a piece to a file
pub record Appends (result : Result ℕ WriteError) (name bytes : List ℕ)
    (old new : Outside) : Type 0 where
  pub takes : Takes result bytes
  pub made : IfOk result (λ n. new.made ≡ adds old.made name (take n bytes))
  pub err : OnErr result (new.made ≡ old.made)
  pub created : new.created ≡ old.created
  pub failed : CountsWriteFault result old.write_faults new.write_faults
  pub faults : old.write_faults ≤ new.write_faults
  pub only : OnlyMade old new

-- a call that adds the front of a piece to standard output
pub record Shows (result : Result ℕ WriteError) (bytes : List ℕ) (old new : Outside) : Type 0 where
  pub takes : Takes result bytes
  pub shown : IfOk result (λ n. new.shown ≡ streams old.shown (take n bytes))
  pub err : OnErr result (new.shown ≡ old.shown)
  pub failed : CountsWriteFault result old.write_faults new.write_faults
  pub faults : old.write_faults ≤ new.write_faults
  pub only : OnlyShown old new

-- a call that adds the front of a piece to standard error: a fault of it is one of writing too
pub record Complains (result : Result ℕ WriteError) (bytes : List ℕ)
    (old new : Outside) : Type 0 where
  pub takes : Takes result bytes
  pub complained : IfOk result (λ n. new.complained ≡ streams old.complained (take n bytes))
  pub err : OnErr result (new.complained ≡ old.complained)
  pub failed : CountsWriteFault result old.write_faults new.write_faults
  pub complain_failed : CountsWriteFault result old.complain_faults new.complain_faults
  pub faults : old.write_faults ≤ new.write_faults
  pub complain_faults : old.complain_faults ≤ new.complain_faults
  pub only : OnlyComplained old new
