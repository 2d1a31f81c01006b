use Rattle.std.proofs.Common.{◌≡◌, map, drop}
use Rattle.std.specs.Prelude.{◌&&◌}
use Rattle.std.specs.List.{list_all}
use Rattle.cell_grid.specs.Places.{is_offset}
use Rattle.model_spaces.specs.Gathered as spec
use Rattle.model_spaces.proofs.Entries.{numbers_at}
use Rattle.model_spaces.proofs.offsets.add_tuples.Given as goal

abbrev pub invariant-loop-named : goal.invariant-loop-named
invariant-loop-named l = record {
  found : spec.offsets_with_all l.found.items (spec.offsets_among l.grid (map numbers_at (drop l.named-index l.tuples)))
      ≡ spec.offsets_with_all l.initial.found.items (spec.offsets_among l.grid (map numbers_at l.tuples));
  all : (l.all && list_all (is_offset l.grid) (map numbers_at (drop l.named-index l.tuples))) ≡ list_all (is_offset l.grid) (map numbers_at l.tuples);
}
