use Rattle.std.proofs.Common.{◌≡◌, Err, ℕ, Vec, Global, sym, subst, rules}
use Rattle.model_text.specs.ModelOf.{model_of}
use Rattle.model_build.specs.Settled.{classes_of}
use Rattle.model_read.specs.Read.{drawing_of, Reads}
use Rattle.model_read.specs.Whole.{of_name}
use Rattle.model_read.proofs.Named.{named_stop, named_bytes}
use Rattle.model_read.proofs.read.read_named.Goals as goal

pub returns-in_err-bytes : goal.returns-in_err-bytes
returns-in_err-bytes g c =
    let classes = classes_of c.args.stock.now in
    let d = drawing_of c.args.frames in
    let old = g.R.Room.outside c.args.room.now in
    let new = g.R.Room.outside c.read_file.new.room in
    let w = c.in_err-bytes.field-0.0 in
    let is : c.from_residual.result ≡ Err w = search rules in
    subst (λ r. Reads (of_name c.args.name.now classes d) d c.args.stock.now r old new) (sym is)
    (named_stop (Vec ℕ Global) c.args.name.now classes d c.args.stock.now w old new c.in_err-bytes.ensures.read)

pub returns : goal.returns
returns g c =
    let classes = classes_of c.args.stock.now in
    let d = drawing_of c.args.frames in
    let old = g.R.Room.outside c.args.room.now in
    let mid = g.R.Room.outside c.read_file.new.room in
    let new = g.R.Room.outside c.read_bytes.new.room in
    named_bytes (Vec ℕ Global) c.in_ok-bytes.bytes c.args.name.now classes d c.read_bytes.new.stock c.in_ok-bytes.bytes.items c.read_bytes.result old mid new
    c.in_ok-bytes.ensures.read c.in_ok-bytes.ensures.bytes
    (subst (λ bytes. Reads (λ files. model_of bytes files classes d) d c.read_bytes.new.stock c.read_bytes.result mid new) c.deref.ensures.value c.read_bytes.ensures)
