use Rattle.std.proofs.Common.{◌≡◌, ◌≤◌, ◌-◌, length, take}
use Rattle.room_edge.specs.Only.{OnlyMade, adds}
use Rattle.room_edge.proofs.whole.write_all.Given as goal

abbrev pub invariant-loop-done : goal.invariant-loop-done
invariant-loop-done g l =
    let was = g.R.Room.outside l.fn.room in
    let now = g.R.Room.outside l.room in
    record {
      within : l.done ≤ length l.bytes;
      made : now.made ≡ adds was.made l.name (take l.done l.bytes);
      created : now.created ≡ was.created;
      counts_faults : now.write_faults ≡ was.write_faults;
      only : OnlyMade was now;
    }

abbrev pub decreases-loop-done : goal.decreases-loop-done
decreases-loop-done g l = length l.bytes - l.done
