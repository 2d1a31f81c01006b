-- Counts of faults that go on or stay.
use Rattle.std.specs.Prelude.{ℕ, ◌+◌, ◌-◌, ◌^◌, ◌≤◌, min}
use Rattle.room_edge.specs.Outside.{Outside}
use Rattle.room_edge.specs.Faults.{Rose}

-- a count, one higher
abbrev pub next_count : ℕ → ℕ
next_count n = min (n + 1) (2 ^ 64 - 1)

-- a complaint that failed
abbrev pub ComplaintFaultCounted : Outside → Outside → Type 0
ComplaintFaultCounted old new = Rose old.complain_faults new.complain_faults

-- no miss is forgotten, and no fault
abbrev pub KeepsMisses : Outside → Outside → Type 0
KeepsMisses old new = old.misses ≤ new.misses

-- no read fault counted before is lost
abbrev pub KeepsReadFaults : Outside → Outside → Type 0
KeepsReadFaults old new = old.read_faults ≤ new.read_faults

-- no write fault counted before is lost
abbrev pub KeepsWriteFaults : Outside → Outside → Type 0
KeepsWriteFaults old new = old.write_faults ≤ new.write_faults

-- no failed complaint counted before is lost
abbrev pub KeepsComplaintFaults : Outside → Outside → Type 0
KeepsComplaintFaults old new = old.complain_faults ≤ new.complain_faults
