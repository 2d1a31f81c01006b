-- What a room over the real outside tells: its counts and its names.
use Rattle.std.specs.Prelude.{ℕ, List, map, Bool, None}
use Rattle.std.specs.String.{string_bytes}
use Rattle.room_edge.specs.Outside.{Outside}
use Rattle.room_edge.specs.declared.tally.MadeFile.{MadeFile}
use Rattle.room_edge.specs.declared.tally.Tally.{Tally}

-- the names that were looked for in the real folder
abbrev pub tried_names : Tally → List (List ℕ)
tried_names tally = map string_bytes tally.tried.items

-- the names of files that were created
abbrev pub created_names : {F : Type 0} → List (MadeFile F) → List (List ℕ)
created_names made = map (λ m. string_bytes m.name) made

-- of a room with these counts, these created files, and an input that is open or not
abbrev pub real_outside : Tally → List (List ℕ) → Bool → Outside
real_outside tally created opened = record {
  files = None;
  made = None;
  shown = None;
  complained = None;
  rest = None;
  read_faults = tally.read_faults;
  write_faults = tally.write_faults;
  complain_faults = tally.complain_faults;
  misses = tally.misses;
  tried = tried_names tally;
  created = created;
  opened = opened;
}

-- a call over the real outside, whatever files were created before, and whether or not an input is
-- open
abbrev pub OverReal : (Outside → Outside → Type 0) → Tally → Tally → Type 0
OverReal call old new =
    (created : List (List ℕ)) (opened : Bool)
    → call (real_outside old created opened) (real_outside new created opened)
