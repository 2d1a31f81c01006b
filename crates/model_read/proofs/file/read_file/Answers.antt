use Rattle.std.proofs.Common.{◌≡◌, [], ◌∷◌, sym, ap, ◌∙◌, subst}
use Rattle.model_read.specs.Reading.{ReadsFiles}
use Rattle.model_read.specs.WholeFile.{any_file, answer_to_read}
use Rattle.model_read.proofs.WholeFile.{whole_reads}
use Rattle.model_read.proofs.file.read_file.Goals as goal

pub returns-clause-read : goal.returns-clause-read
returns-clause-read g c =
    let is : c.answer.result ≡ answer_to_read c.args.line c.args.name.now c.read_whole-read.result =
    c.answer.ensures ∙ ap (λ n. answer_to_read c.args.line n c.read_whole-read.result) (c.in_ok-kept.ensures ∙ c.as_bytes.ensures.value) in
    let e = c.read_whole-read.ensures in
    let old = g.R.Room.outside c.args.room.now in
    let new = g.R.Room.outside c.read_whole-read.new.room in
    subst (λ r. ReadsFiles (any_file c.args.line c.args.name.now ∷ []) r old new) (sym is)
    (whole_reads c.args.line c.args.name.now c.read_whole-read.result old new e.bytes e.tried e.counts_misses e.counts_faults e.misses e.faults e.only)
