use Rattle.std.proofs.Common.{◌≡◌, ◌++◌, Err, length, sym, ap, ◌∙◌, subst, rules}
use Rattle.ma_lines.specs.InCode.{section_of}
use Rattle.cell_grid.specs.Space.{cell_count}
use Rattle.model_text.specs.Trees.{no_files}
use Rattle.model_text.specs.InitialFiles.{files_of_group}
use Rattle.cell_grid.specs.declared.initial.Initial.{Initial}
use Rattle.model_read.specs.Reading.{ReadsFiles}
use Rattle.model_read.proofs.Readings.{reads_on, reads_no_further}
use Rattle.model_read.proofs.GroupFiles.{map_files, cells_files, files_of, without_files}
use Rattle.model_read.proofs.lay.group_values.Goals as goal

pub lay_map-requires-clause-length : goal.lay_map-requires-clause-length
lay_map-requires-clause-length g c =
    let s = section_of c.args.group.now.section.now in
    ap length c.requires.before ∙ sym (ap length (without_files s)) ∙ c.accepted_groups_have_a_value_for_each_cell.ensures no_files s ∙ ap cell_count (sym c.requires.group.space)

pub returns-in_err-mapped-clause-read : goal.returns-in_err-mapped-clause-read
returns-in_err-mapped-clause-read g c =
    let s = section_of c.args.group.now.section.now in
    let grid = c.args.group.now.grid in
    let old = g.R.Room.outside c.args.room.now in
    let new = g.R.Room.outside c.lay_map.new.room in
    let is : c.from_residual.result ≡ Err c.in_err-mapped.field-0.0 = search rules in
    subst (λ r. ReadsFiles (files_of_group s) r old new) (sym is)
    (subst (λ fs. ReadsFiles {T = Initial} fs (Err c.in_err-mapped.field-0.0) old new) (files_of grid s c.requires.group.space)
    (reads_no_further c.in_err-mapped.field-0.0 (map_files grid s) (cells_files grid s) old new c.in_err-mapped.ensures.read))

pub returns-clause-read : goal.returns-clause-read
returns-clause-read g c =
    let s = section_of c.args.group.now.section.now in
    let grid = c.args.group.now.grid in
    let old = g.R.Room.outside c.args.room.now in
    let mid = g.R.Room.outside c.lay_map.new.room in
    let new = g.R.Room.outside c.lay_cells.new.room in
    subst (λ fs. ReadsFiles fs c.lay_cells.result old new) (files_of grid s c.requires.group.space)
    (reads_on c.in_ok-mapped.mapped c.lay_cells.result (map_files grid s) (cells_files grid s) old mid new c.in_ok-mapped.ensures.read c.lay_cells.ensures.read)
