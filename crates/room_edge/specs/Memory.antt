-- What a room in memory tells whose calls may be made to fail.
use Rattle.std.specs.Prelude.{◌≡◌, ℕ, List, Any}
use Rattle.room_edge.specs.Outside.{Outside}
use Rattle.room_edge.specs.FaultCounts.{next_count}
use Rattle.room_edge.specs.Sure.{sure_outside, sure_piece}
use Rattle.room_edge.specs.Plan.{number_of, with_call}
use Rattle.room_edge.specs.declared.memory.Calls.{Calls}
use Rattle.room_edge.specs.declared.memory.RoomCall.{RoomCall}
use Rattle.room_edge.specs.declared.memory.MemoryRoom.{MemoryRoom}

-- what a room in memory that counts its faults shows of itself
abbrev pub memory_outside : MemoryRoom → Outside
memory_outside r = record (sure_outside r.sure) {
  read_faults = r.read_faults;
  write_faults = r.write_faults;
  complain_faults = r.complain_faults;
}

-- how many bytes it moves at once
abbrev pub memory_piece : MemoryRoom → ℕ
memory_piece r = sure_piece r.sure

-- the calls that are to fail, each by its kind and number
abbrev pub failing_calls : MemoryRoom → List (RoomCall × ℕ)
failing_calls r = r.fails.items

-- how often each call was made
abbrev pub calls_made : MemoryRoom → Calls
calls_made r = r.calls

-- a call of that kind, made next, fails
abbrev pub IsDue : MemoryRoom → RoomCall → Type 0
IsDue r call = Any (λ f. (f.0 ≡ call) × (f.1 ≡ next_count (number_of r.calls call))) r.fails.items

-- the room's size of pieces and its list of failing calls stay, and one call of that kind is
-- counted
pub record Counts (call : RoomCall) (old new : MemoryRoom) : Type 0 where
  pub piece : memory_piece new ≡ memory_piece old
  pub failing : failing_calls new ≡ failing_calls old
  pub made : calls_made new ≡ with_call (calls_made old) call
