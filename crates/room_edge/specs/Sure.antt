-- What a room in memory tells: all of it. No call of its fails.
use Rattle.std.specs.Prelude.{ℕ, drop, Some}
use Rattle.room_edge.specs.Outside.{Outside}
use Rattle.room_edge.specs.Folder.{folder_of, names_of}
use Rattle.room_edge.specs.declared.sure.SureRoom.{SureRoom}

-- what a sure room shows of itself
abbrev pub sure_outside : SureRoom → Outside
sure_outside r = record {
  files = Some (folder_of r.files);
  made = Some (folder_of r.made);
  shown = Some r.shown.items;
  complained = Some r.complained.items;
  rest = Some (drop r.taken r.input.items);
  read_faults = 0;
  write_faults = 0;
  complain_faults = 0;
  misses = r.misses;
  tried = names_of r.tried;
  created = names_of r.created;
  opened = r.opened;
}

-- how many bytes a call of the room takes or gives at most
abbrev pub sure_piece : SureRoom → ℕ
sure_piece r = r.piece
