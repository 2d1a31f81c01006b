use Rattle.std.proofs.Common.{Err, sym, ap, subst, ◌∙◌}
use Rattle.model_text.specs.ModelOf.{model_in, model_of, after_lines}
use Rattle.model_build.specs.Settled.{classes_of}
use Rattle.model_read.specs.Read.{drawing_of, Reads}
use Rattle.model_read.proofs.Stopping.{line_stops}
use Rattle.model_read.proofs.Tells.{reads_by}
use Rattle.model_read.proofs.UpToLimit.{of_lines}
use Rattle.model_read.proofs.read.read_bytes.Goals as goal

pub read_sections-requires-clause-plain : goal.read_sections-requires-clause-plain
read_sections-requires-clause-plain g c = c.texts_are_plain.ensures c.args.bytes.now c.in-Ok.sections (sym (c.in-Ok.ensures (λ e. cc)))

pub returns-in-Ok : goal.returns-in-Ok
returns-in-Ok g c =
    let bytes = c.args.bytes.now in
    let classes = classes_of c.args.stock.now in
    let d = drawing_of c.args.frames in
    reads_by (λ files. model_in c.in-Ok.sections files classes d) (λ files. model_of bytes files classes d) d c.read_sections.new.stock c.read_sections.result
    (g.R.Room.outside c.args.room.now) (g.R.Room.outside c.read_sections.new.room)
    (λ files. ap (λ r. after_lines r files classes d) (c.in-Ok.ensures (λ e. cc)) ∙ sym (of_lines bytes files classes d c.requires.short))
    c.read_sections.ensures

pub returns-in-Err : goal.returns-in-Err
returns-in-Err g c =
    let bytes = c.args.bytes.now in
    let classes = classes_of c.args.stock.now in
    let d = drawing_of c.args.frames in
    let old = g.R.Room.outside c.args.room.now in
    subst (λ r. Reads (λ files. model_of bytes files classes d) d c.args.stock.now (Err r) old old) (sym c.line_refusal.ensures)
    (line_stops bytes classes d c.args.stock.now old c.requires.short c.in-Err.why c.in-Err.ensures)
