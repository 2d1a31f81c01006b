use Rattle.std.proofs.Common.{◌∙◌, codes}
use Rattle.model_walk.proofs.Read.{read_under}
use Rattle.model_spaces.proofs.ports.port_rule.Goals as goal

pub returns : goal.returns
returns c = c.port_rule.ensures ∙ read_under c.args.section.now.name (codes "portintransition") c.args.read.now c.requires.is_read c.requires.key
