use Rattle.std.proofs.Common.{◌≡◌, ℕ, [], ◌∷◌, Ok, Err, Vec, Global, IfSome, IfOk, Some, sym, ap, ◌∙◌, subst, rules}
use Rattle.std.specs.Option.{option_map, option_and_then, is_some}
use Rattle.std.specs.Result.{result_ok}
use Rattle.quantity.specs.Bytes.{Bytes}
use Rattle.cell_grid.specs.Initial.{cells_file, with_cells}
use Rattle.cell_grid.specs.declared.initial.Initial.{Initial}
use Rattle.model_text.specs.InitialFiles.{file_at}
use Rattle.model_read.specs.Reading.{ReadsFiles}
use Rattle.model_read.specs.WholeFile.{any_file}
use Rattle.model_read.proofs.OneFile.{unread, formed, is_laid, laid_right}
use Rattle.model_read.proofs.lay.lay_cells_file.Goals as goal

pub returns-in_err-bytes-clause-read : goal.returns-in_err-bytes-clause-read
returns-in_err-bytes-clause-read g c =
    let e = c.args.entry.now in
    let is_right = λ (bytes : Bytes). is_some (cells_file c.args.grid.now bytes) in
    let old = g.R.Room.outside c.args.room.now in
    let new = g.R.Room.outside c.read_file.new.room in
    let w = c.in_err-bytes.field-0.0 in
    let is : c.from_residual.result ≡ Err w = search rules in
    let name : c.plain_text-name.result.now ≡ e.value = search rules in
    subst (λ r. ReadsFiles (file_at is_right e ∷ []) r old new) (sym is)
    (unread {T = Vec ℕ Global} {U = Initial} e.line e.value is_right w old new
    (subst (λ n. ReadsFiles {T = Vec ℕ Global} (any_file e.line n ∷ []) (Err w) old new) name c.in_err-bytes.ensures.read))

pub returns-clause-read : goal.returns-clause-read
returns-clause-read g c =
    let e = c.args.entry.now in
    let grid = c.args.grid.now in
    let is_right = λ (bytes : Bytes). is_some (cells_file grid bytes) in
    let old = g.R.Room.outside c.args.room.now in
    let new = g.R.Room.outside c.read_file.new.room in
    let bytes = c.in_ok-bytes.bytes in
    let name : c.plain_text-name.result.now ≡ e.value = search rules in
    subst (λ r. ReadsFiles (file_at is_right e ∷ []) r old new) (sym c.laid.ensures)
    (formed bytes e.line e.value is_right bytes.items c.cells_file.result old new
    (subst (λ n. IfSome old.files (λ folder. folder n ≡ Some bytes.items)) name c.in_ok-bytes.ensures.bytes) c.in_ok-bytes.ensures.short
    (is_laid (λ file. with_cells c.args.before (Some file)) c.cells_file.result _ c.cells_file.ensures.value ∙ ap is_right c.deref.ensures.value)
    (subst (λ n. ReadsFiles (any_file e.line n ∷ []) (Ok bytes) old new) name c.in_ok-bytes.ensures.read))

pub returns-clause-values : goal.returns-clause-values
returns-clause-values g c =
    let e = c.args.entry.now in
    let grid = c.args.grid.now in
    let old = g.R.Room.outside c.args.room.now in
    let bytes = c.in_ok-bytes.bytes in
    let name : c.plain_text-name.result.now ≡ e.value = search rules in
    subst (λ r. IfSome old.files (λ files. IfOk r (λ values. values ≡ with_cells c.args.before (option_and_then (cells_file grid) (files e.value))))) (sym c.laid.ensures)
    (laid_right e.line e.value bytes.items (with_cells c.args.before) (cells_file grid) c.cells_file.result old.files
    (subst (λ n. IfSome old.files (λ folder. folder n ≡ Some bytes.items)) name c.in_ok-bytes.ensures.bytes)
    (subst (λ b. result_ok c.cells_file.result ≡ option_map (λ file. with_cells c.args.before (Some file)) (cells_file grid b)) c.deref.ensures.value c.cells_file.ensures.value))
