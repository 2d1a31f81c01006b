use Rattle.std.proofs.Common.{ℕ, false, true, Option, Vec, sym, ap}
use Rattle.std.specs.declared.alloc.Global.{Global}
use Rattle.std.specs.Prelude.{is_some}
use Rattle.std.specs.Option.{option_map}
use Rattle.room_edge.specs.Folder.{folder_of, names_of}
use Rattle.room_edge.proofs.Listed.{some_listed}
use Rattle.room_edge.proofs.sure.SureRoom.made.Goals as goal

pub returns-in-None-clause-some : goal.returns-in-None-clause-some
returns-in-None-clause-some c =
    let room = c.args.self.now in
    some_listed (folder_of room.made) (names_of room.created) c.args.name.now false (ap (λ (o : Option (Vec ℕ Global)). is_some (option_map (λ (v : Vec ℕ Global). v.items) o)) (sym c.in-None.ensures.value)) room.listed

pub returns-in-Some-clause-some : goal.returns-in-Some-clause-some
returns-in-Some-clause-some c =
    let room = c.args.self.now in
    some_listed (folder_of room.made) (names_of room.created) c.args.name.now true (ap (λ (o : Option (Vec ℕ Global)). is_some (option_map (λ (v : Vec ℕ Global). v.items) o)) (sym c.in-Some.ensures.value)) room.listed
