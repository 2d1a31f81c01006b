use Rattle.std.proofs.Common.{◌≡◌, ◌≤◌, ◌-◌, length, take}
use Rattle.room_edge.specs.Only.{OnlyShown}
use Rattle.room_edge.specs.Outside.{streams}
use Rattle.room_edge.proofs.whole.show_all.Given as goal

abbrev pub invariant-loop-done : goal.invariant-loop-done
invariant-loop-done g l =
    let was = g.R.Room.outside l.fn.room in
    let now = g.R.Room.outside l.room in
    record {
      within : l.done ≤ length l.bytes;
      shown : now.shown ≡ streams was.shown (take l.done l.bytes);
      counts_faults : now.write_faults ≡ was.write_faults;
      only : OnlyShown was now;
    }

abbrev pub decreases-loop-done : goal.decreases-loop-done
decreases-loop-done g l = length l.bytes - l.done
