use Rattle.model_read.proofs.Plain.{plain_utf8}
use Rattle.model_read.proofs.file.plain_text.Goals as goal

pub unreachable-requires : goal.unreachable-requires
unreachable-requires c = c.in-Err.ensures.cases.0 (plain_utf8 c.args.text.now c.requires)
