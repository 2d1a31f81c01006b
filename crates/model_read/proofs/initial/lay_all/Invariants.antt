use Rattle.std.proofs.Common.{◌≡◌, List, map, length, take, drop, Ok, IfSome}
use Rattle.std.specs.List.{flat_map}
use Rattle.cell_grid.specs.Space.{cell_count}
use Rattle.model_text.specs.Spaces.{space_of}
use Rattle.model_text.specs.Trees.{initial_of}
use Rattle.model_text.specs.InitialFiles.{files_of_group}
use Rattle.model_walk.specs.Placed.{values_before_files}
use Rattle.model_read.specs.Reading.{ReadsFiles}
use Rattle.model_read.specs.Spaces.{sections_in}
use Rattle.model_read.proofs.initial.lay_all.Given as goal

abbrev pub invariant-loop-group : goal.invariant-loop-group
invariant-loop-group g l =
    let was = g.R.Room.outside l.fn.room in
    let now = g.R.Room.outside l.room in
    let done = sections_in (take l.group-index l.groups) in
    record {
      left : l.left.items ≡ map values_before_files (sections_in (drop l.group-index l.groups));
      read : ReadsFiles {T = Unit {0}} (flat_map files_of_group done) (Ok tt) was now;
      values : IfSome was.files (λ files. l.laid.items ≡ map (initial_of files) done);
      sizes : map (λ v. length v) l.laid.items ≡ map (λ s. cell_count (space_of s)) done;
    }
