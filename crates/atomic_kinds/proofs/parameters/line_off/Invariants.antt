use Rattle.std.proofs.Common.{◌≡◌, drop}
use Rattle.std.specs.Prelude.{pos}
use Rattle.atomic_face.specs.Parameters.{parameter, lines_off_of}
use Rattle.atomic_face.specs.Settings.{least_line}
use Rattle.quantity.specs.Times.{earlier}
use Rattle.atomic_kinds.specs.Parameters.{word_in}
use Rattle.atomic_kinds.proofs.parameters.line_off.Given as goal

abbrev pub invariant-loop-entry : goal.invariant-loop-entry
invariant-loop-entry l =
    earlier l.first (least_line (lines_off_of (drop l.entry-index l.params.entries.items) (parameter l.key (word_in l.form) (pos 0)))) ≡ least_line (lines_off_of l.params.entries.items (parameter l.key (word_in l.form) (pos 0)))
