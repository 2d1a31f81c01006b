use Rattle.std.proofs.Common.{refl}
use Rattle.room_edge.proofs.folder.FolderRoomRoom.complain.Goals as goal

pub returns : goal.returns
returns g c = c.after_complaint.ensures.room _ refl _ _
