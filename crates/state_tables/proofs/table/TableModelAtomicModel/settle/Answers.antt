use Rattle.std.proofs.Common.{ap, ◌∙◌}
use Rattle.atomic_face.specs.declared.class.Class.TheVariants.{Table}
use Rattle.atomic_face.specs.BoxCalls.{box_at_start}
use Rattle.state_tables.proofs.table.TableModelAtomicModel.settle.Goals as goal

pub returns : goal.returns
returns c =
    (rw c.deref.ensures.value at c.in_ok-read_settings.ensures.right, c.with-fresh.ensures ∙ ap (box_at_start Table) (rw c.deref.ensures.value at c.in_ok-read_settings.ensures.settings))
