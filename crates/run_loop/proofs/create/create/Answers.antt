use Rattle.std.proofs.Common.{◌∙◌, ap, sym}
use Rattle.asked_words.specs.Shown.{text_of_name}
use Rattle.run_loop.specs.AskedFiles.{names_of}
use Rattle.run_loop.specs.Texts.{name_at}
use Rattle.run_loop.proofs.Making.{made_file}
use Rattle.run_loop.proofs.create.create.Goals as goal

pub returns-in-Ok : goal.returns-in-Ok
returns-in-Ok g c =
    let old = g.R.Room.outside c.args.room.now in
    let new = g.R.Room.outside c.create.new.self in
    let e = c.in-Ok.ensures in
    made_file (name_at (names_of c.args.asked.now) c.args.file) c.in-Some.name.now old new (sym c.name_of.ensures ∙ ap text_of_name c.in-Some.is) e.made e.created e.only e.failed
