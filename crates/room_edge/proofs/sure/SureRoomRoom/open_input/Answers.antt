use Rattle.std.proofs.Common.{arith, refl, rules}
use Rattle.room_edge.proofs.sure.SureRoomRoom.open_input.Goals as goal

pub returns-in-None-found-clause-room : goal.returns-in-None-found-clause-room
returns-in-None-found-clause-room c = record {
  opened = tt;
  rest = tt;
  err = (refl, refl);
  absent = search rules;
  tried = search rules;
  missing = omega arith;
  failed = refl;
  misses = omega arith;
  faults = omega arith;
  only = search rules;
}
