-- Private: what a call over the real outside comes to, by the answer of the system.
use Rattle.std.specs.Prelude.{◌≡◌, ℕ, ◌||◌, ◌==◌, nat_lt, Option, Some, None, Result, Ok, Err, IsOk, if◌then◌else◌}
use Rattle.std.specs.declared.io.Error.{Error}
use Rattle.std.specs.declared.io.ErrorKind.{ErrorKind}
use Rattle.std.specs.declared.io.ErrorKind.TheVariants.{NotFound, OutOfMemory}
use Rattle.std.specs.IoError.{error_kind}
use Rattle.room_edge.specs.FaultCounts.{next_count}
use Rattle.room_edge.specs.declared.room.OpenError.{OpenError}
use Rattle.room_edge.specs.declared.room.OpenError.TheVariants as open_error
use Rattle.room_edge.specs.declared.room.ReadFailed.{ReadFailed}
use Rattle.room_edge.specs.declared.room.WriteError.{WriteError}
use Rattle.room_edge.specs.declared.room.WriteError.TheVariants as write_error

-- ---- a name

-- a name that is not found is missing, want of memory is told as such, and all else is a fault
abbrev pub cause_of : ErrorKind → OpenError
cause_of NotFound = open_error.Missing
cause_of OutOfMemory = open_error.Memory
cause_of kind = open_error.Failed

-- a file that was asked for is open, or there is a reason why not
abbrev pub OpensAs : {F T : Type 0} → Result F Error → Result T OpenError → Type 0
OpensAs (Ok file) result = IsOk result
OpensAs (Err error) result = result ≡ Err (cause_of (error_kind error))

-- a file that is to be made has no reason of its own to be missing
abbrev pub write_cause : OpenError → WriteError
write_cause open_error.Missing = write_error.Failed
write_cause open_error.Failed = write_error.Failed
write_cause open_error.Memory = write_error.Memory

-- a file is made, or there is a reason why not
abbrev pub CreatesAs : {F T : Type 0} → Result F Error → Result T WriteError → Type 0
CreatesAs (Ok file) result = IsOk result
CreatesAs (Err error) result = result ≡ Err (write_cause (cause_of (error_kind error)))

-- the input afterwards: the new file where one was opened, and else the one before
abbrev pub input_after : {F T : Type 0} → Result T OpenError → Result F Error → Option F → Option F
input_after (Ok _) (Ok file) old = Some file
input_after (Ok _) (Err error) old = old
input_after (Err error) answer old = old

-- ---- bytes

-- so many bytes were read, or the read failed
abbrev pub read_as : Result ℕ Error → Result ℕ ReadFailed
read_as (Ok n) = Ok n
read_as (Err error) = Err (record {})

-- so many bytes were taken of a piece of this length, or the write failed: it took nothing, where
-- there was something
abbrev pub written_as : Result ℕ Error → ℕ → Result ℕ WriteError
written_as (Ok n) length = if nat_lt 0 n || (length == 0) then Ok n else Err write_error.Failed
written_as (Err error) length = Err write_error.Failed

-- all of a text was taken, or the write failed; bytes that are no text are never given to the
-- system
abbrev pub complained_as : {T : Type 0} → Option (Result T Error) → ℕ → Result ℕ WriteError
complained_as (Some (Ok _)) length = Ok length
complained_as (Some (Err error)) length = Err write_error.Failed
complained_as None length = Err write_error.Failed

-- ---- counts

-- the misses counted once opening has answered so
abbrev pub misses_after : {T : Type 0} → Result T OpenError → ℕ → ℕ
misses_after (Ok _) n = n
misses_after (Err open_error.Missing) n = next_count n
misses_after (Err open_error.Failed) n = n
misses_after (Err open_error.Memory) n = n

-- the faults counted once opening has answered so
abbrev pub open_faults_after : {T : Type 0} → Result T OpenError → ℕ → ℕ
open_faults_after (Ok _) n = n
open_faults_after (Err open_error.Missing) n = n
open_faults_after (Err open_error.Failed) n = next_count n
open_faults_after (Err open_error.Memory) n = n

-- the read faults counted once reading has answered so
abbrev pub read_faults_after : {T : Type 0} → Result T ReadFailed → ℕ → ℕ
read_faults_after (Ok _) n = n
read_faults_after (Err _) n = next_count n

-- the write faults counted once writing has answered so
abbrev pub write_faults_after : {T : Type 0} → Result T WriteError → ℕ → ℕ
write_faults_after (Ok _) n = n
write_faults_after (Err write_error.Failed) n = next_count n
write_faults_after (Err write_error.Memory) n = n
