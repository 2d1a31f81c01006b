use Rattle.std.proofs.Common.{◌≡◌, drop}
use Rattle.std.specs.Prelude.{codes}
use Rattle.std.specs.List.{flat_map}
use Rattle.std.specs.Option.{is_some}
use Rattle.atomic_face.specs.Settings.{least_line}
use Rattle.atomic_face.specs.TableSettings.{line_unless, number_of_name, with_key}
use Rattle.source_text.specs.Shown.{texts}
use Rattle.quantity.specs.Times.{earlier}
use Rattle.state_tables.proofs.read.entries.initial_off.Given as goal

abbrev pub invariant-loop-entry : goal.invariant-loop-entry
invariant-loop-entry l =
    earlier l.first (least_line (flat_map (λ e. line_unless (is_some (number_of_name (texts l.names) e.value)) e) (with_key (codes "initial") (drop l.entry-index l.entries)))) ≡ least_line (flat_map (λ e. line_unless (is_some (number_of_name (texts l.names) e.value)) e) (with_key (codes "initial") l.entries))
