use Rattle.std.proofs.Common.{◌∙◌}
use Rattle.std.specs.List.{each_same}
use Rattle.run_inputs.proofs.Told.{refused_parts}
use Rattle.run_inputs.proofs.lines.refused_line.Goals as goal

pub returns : goal.returns
returns c =
    refused_parts c.args.what.now c.args.number c.args.why.now _ _ _ _ _ c.as_slice.ensures (c.as_bytes.ensures.value ∙ c.in_ok-number.ensures.ok) c.as_slice-2.ensures c.as_slice-3.ensures
    (each_same _ _ c.in_ok-line.ensures.ok)
