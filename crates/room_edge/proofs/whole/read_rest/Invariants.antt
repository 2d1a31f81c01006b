use Rattle.std.proofs.Common.{◌≡◌, ◌<◌, ◌≤◌, ◌-◌, length, IsTrue, vec_len}
use Rattle.room_edge.specs.Only.{OnlyRest}
use Rattle.room_edge.proofs.Reading.{Left}
use Rattle.room_edge.proofs.whole.read_rest.Given as goal

abbrev pub invariant-loop-n : goal.invariant-loop-n
invariant-loop-n g l =
    let was = g.R.Room.outside l.fn.room in
    let now = g.R.Room.outside l.room in
    record {
      asked : 0 < length l.piece.items;
      short : length l.bytes.items ≤ l.limit;
      opened : IsTrue now.opened;
      rest : Left was.rest l.bytes.items now.rest;
      counts_faults : now.read_faults ≡ was.read_faults;
      only : OnlyRest was now;
    }

abbrev pub decreases-loop-n : goal.decreases-loop-n
decreases-loop-n g l = l.limit - vec_len l.bytes
