use Rattle.room_edge.proofs.folder.FolderRoomRoom.open_input.Goals as goal

pub returns : goal.returns
returns g c = c.after_open.ensures.room _
