use Rattle.std.proofs.Common.{ap, ◌∙◌}
use Rattle.std.specs.Str.{bytes_eq}
use Rattle.source_text.specs.Lines.{in_lower_case}
use Rattle.event_list.proofs.LowerCase.{same_name}
use Rattle.event_list.proofs.line.is_called.Goals as goal

pub returns : goal.returns
returns c =
    same_name c.eq_ignore_ascii_case.result c.args.name.now c.as_bytes.result.now c.as_bytes.ensures.name c.eq_ignore_ascii_case.ensures.test
    ∙ ap (bytes_eq (in_lower_case c.args.name.now)) c.as_bytes.ensures.bytes
