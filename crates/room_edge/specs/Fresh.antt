-- What a room tells before its first call.
use Rattle.std.specs.Prelude.{[], false, Some, None}
use Rattle.room_edge.specs.Outside.{Outside}

-- a room that tells all, and has nothing
abbrev pub nothing_there : Outside
nothing_there = record {
  files = Some (λ _. None);
  made = Some (λ _. None);
  shown = Some [];
  complained = Some [];
  rest = Some [];
  read_faults = 0;
  write_faults = 0;
  complain_faults = 0;
  misses = 0;
  tried = [];
  created = [];
  opened = false;
}

-- a room that tells nothing of what is outside
abbrev pub nothing_told : Outside
nothing_told = record {
  files = None;
  made = None;
  shown = None;
  complained = None;
  rest = None;
  read_faults = 0;
  write_faults = 0;
  complain_faults = 0;
  misses = 0;
  tried = [];
  created = [];
  opened = false;
}
