use Rattle.std.proofs.Common.{◌≡◌, Option, Ok, IfSome, IfOk, map, refl, sym, subst}
use Rattle.std.specs.Option.{option_map, option_and_then, option_to_list, is_some}
use Rattle.std.specs.Prelude.{codes}
use Rattle.ma_lines.specs.InCode.{section_of}
use Rattle.ma_lines.specs.declared.section.Entry.{Entry}
use Rattle.source_text.specs.Lines.{Files}
use Rattle.cell_grid.specs.declared.initial.Initial.{Initial}
use Rattle.quantity.specs.Bytes.{Bytes}
use Rattle.cell_grid.specs.Initial.{cells_file, with_cells}
use Rattle.model_text.specs.InitialFiles.{file_at}
use Rattle.model_text.specs.Keyed.{first_entry}
use Rattle.model_read.specs.Reading.{ReadsFiles}
use Rattle.model_read.proofs.Readings.{told, reads_none}
use Rattle.model_read.proofs.Plain.{found_plain}
use Rattle.model_read.proofs.lay.lay_cells.Goals as goal

pub lay_cells_file-requires-clause-plain : goal.lay_cells_file-requires-clause-plain
lay_cells_file-requires-clause-plain g c = found_plain (codes "initialcellsvalue") (section_of c.args.section.now) c.in-Some.entry.now c.requires.plain (sym c.in-Some.ensures)

pub returns-in-None-clause-read : goal.returns-in-None-clause-read
returns-in-None-clause-read g c =
    let is_right = λ (bytes : Bytes). is_some (cells_file c.args.grid.now bytes) in
    let old = g.R.Room.outside c.args.room.now in
    subst (λ o. ReadsFiles (map (file_at is_right) (option_to_list o)) (Ok c.args.before) old old) c.in-None.ensures (reads_none c.args.before old)

pub returns-in-None-clause-values : goal.returns-in-None-clause-values
returns-in-None-clause-values g c =
    let before = c.args.before in
    let right = λ (files : Files) (o : Option Entry). before ≡ with_cells before (option_and_then (cells_file c.args.grid.now) (option_and_then files (option_map (λ (e : Entry). e.value) o))) in
    told (g.R.Room.outside c.args.room.now).files (λ files. right files (first_entry (codes "initialcellsvalue") (section_of c.args.section.now))) (λ files. subst (right files) c.in-None.ensures refl)

pub returns-in-Some-clause-read : goal.returns-in-Some-clause-read
returns-in-Some-clause-read g c =
    let is_right = λ (bytes : Bytes). is_some (cells_file c.args.grid.now bytes) in
    let old = g.R.Room.outside c.args.room.now in
    let new = g.R.Room.outside c.lay_cells_file.new.room in
    subst (λ o. ReadsFiles (map (file_at is_right) (option_to_list o)) c.lay_cells_file.result old new) c.in-Some.ensures c.lay_cells_file.ensures.read

pub returns-in-Some-clause-values : goal.returns-in-Some-clause-values
returns-in-Some-clause-values g c =
    let right = λ (files : Files) (o : Option Entry) (values : Initial). values ≡ with_cells c.args.before (option_and_then (cells_file c.args.grid.now) (option_and_then files (option_map (λ (e : Entry). e.value) o))) in
    subst (λ o. IfSome (g.R.Room.outside c.args.room.now).files (λ files. IfOk c.lay_cells_file.result (right files o))) c.in-Some.ensures c.lay_cells_file.ensures.values
