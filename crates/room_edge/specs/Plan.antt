-- How often each call of a room was made.
use Rattle.std.specs.Prelude.{ℕ}
use Rattle.room_edge.specs.FaultCounts.{next_count}
use Rattle.room_edge.specs.declared.memory.Calls.{Calls}
use Rattle.room_edge.specs.declared.memory.RoomCall.{RoomCall}
use Rattle.room_edge.specs.declared.memory.RoomCall.TheVariants.{Open, Read, Create, Append, Show, Complain}

-- how many calls of that kind were made
abbrev pub number_of : Calls → RoomCall → ℕ
number_of calls Open = calls.opens
number_of calls Read = calls.reads
number_of calls Create = calls.creates
number_of calls Append = calls.appends
number_of calls Show = calls.shows
number_of calls Complain = calls.complains

-- one more of that kind
abbrev pub with_call : Calls → RoomCall → Calls
with_call calls Open = record calls { opens = next_count calls.opens }
with_call calls Read = record calls { reads = next_count calls.reads }
with_call calls Create = record calls { creates = next_count calls.creates }
with_call calls Append = record calls { appends = next_count calls.appends }
with_call calls Show = record calls { shows = next_count calls.shows }
with_call calls Complain = record calls { complains = next_count calls.complains }
