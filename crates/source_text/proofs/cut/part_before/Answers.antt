use Rattle.std.proofs.Common.{sym, ◌∙◌}
use Rattle.quantity.specs.Bytes.{is_byte}
use Rattle.source_text.proofs.Cuts.{one_part, parts_at}
use Rattle.source_text.proofs.cut.part_before.Goals as goal

pub returns-in_err-place-clause-parts : goal.returns-in_err-place-clause-parts
returns-in_err-place-clause-parts c = rw c.from_residual.ensures (one_part (is_byte c.args.byte) c.args.text.now (sym c.first_place.ensures ∙ c.in_err-place.was))

pub returns-clause-parts : goal.returns-clause-parts
returns-clause-parts c = parts_at (is_byte c.args.byte) c.args.text.now c.in_ok-place.place (sym c.first_place.ensures ∙ c.in_ok-place.was)
