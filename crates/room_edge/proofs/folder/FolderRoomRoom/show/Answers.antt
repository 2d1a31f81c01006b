use Rattle.std.proofs.Common.{refl}
use Rattle.room_edge.proofs.folder.FolderRoomRoom.show.Goals as goal

pub returns : goal.returns
returns g c = c.after_write.ensures.shows _ refl _ _
