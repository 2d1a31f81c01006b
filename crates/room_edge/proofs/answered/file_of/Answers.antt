use Rattle.std.proofs.Common.{◌≡◌, ◌∙◌, ap, sym}
use Rattle.room_edge.specs.Answered.{cause_of}
use Rattle.room_edge.proofs.Causes.{opens_as, other_kind}
use Rattle.room_edge.proofs.answered.file_of.Goals as goal
use Rattle.room_edge.proofs.answered.file_of.Goals.{in-NotFound, in-OutOfMemory, in_default}

pub returns-after-kind-clause-says : goal.returns-after-kind-clause-says
returns-after-kind-clause-says g c =
    let cause : c.match-kind.result ≡ cause_of c.kind.result = elim c.match-kind.branch [
      | in-NotFound w ↦ w.result-is ∙ ap cause_of (sym w.in-NotFound.is)
      | in-OutOfMemory w ↦ w.result-is ∙ ap cause_of (sym w.in-OutOfMemory.is)
      | in_default w ↦ w.result-is ∙ other_kind c.kind.result w.in_default.not-NotFound w.in_default.not-OutOfMemory
    ] in
    opens_as _ c.args.answer c.in-Err.error c.kind.result c.match-kind.result c.in-Err.is c.kind.ensures cause
