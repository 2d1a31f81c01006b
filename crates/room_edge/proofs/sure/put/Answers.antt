use Rattle.std.proofs.Common.{ap, ◌∙◌, rules}
use Rattle.std.specs.String.{string_bytes}
use Rattle.room_edge.specs.Outside.{with_file}
use Rattle.room_edge.specs.Folder.{folder_of}
use Rattle.room_edge.proofs.Folders.{folder-put}
use Rattle.room_edge.proofs.sure.put.Goals as goal

pub returns-in-Ok-clause-ok : goal.returns-in-Ok-clause-ok
returns-in-Ok-clause-ok c =
    let key = string_bytes c.in_ok-key.key in
    folder-put key c.args.files.now c.insert.new.self c.in_ok-value.value c.in-Ok.ensures.updates
    ∙ ap (λ l. with_file key l (folder_of c.args.files.now)) (search rules)
    ∙ ap (λ n. with_file n c.args.bytes.now (folder_of c.args.files.now)) c.in_ok-key.ensures.ok
