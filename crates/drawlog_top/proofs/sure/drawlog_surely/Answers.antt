use Rattle.std.proofs.Common.{◌≡◌, ◌⊎◌, map, arith}
use Rattle.std.specs.String.{string_bytes}
use Rattle.std.proofs.lemmas.Option.{IfSome_then}
use Rattle.room_edge.specs.Sure.{sure_outside}
use Rattle.answer_model.specs.Drawlog.{drawing_answer}
use Rattle.answer_model.specs.declared.status.Status.TheVariants.{NoMemory}
use Rattle.answer_model.specs.Headline.{Writes}
use Rattle.answer_model.proofs.Endings.{endings_follow}
use Rattle.drawlog_top.proofs.sure.drawlog_surely.Goals as goal

pub returns : goal.returns
returns c =
    let words = map string_bytes c.args.words.now in
    let old = sure_outside c.args.room.now in
    let new = sure_outside c.drawlog.new.room in
    IfSome_then old.files {Q = λ files. (c.drawlog.result ≡ NoMemory) ⊎ Writes (drawing_answer words files) old new c.drawlog.result} c.drawlog.ensures.ends
    (λ files o. endings_follow.surely (drawing_answer words files) old new c.drawlog.result o (λ rose. absurd (omega (arith, rose))) (λ rose. absurd (omega (arith, rose))))
