use Rattle.model_read.proofs.Valued.{blank_covers, blank_count}
use Rattle.model_read.proofs.ends.lay_values.Goals as goal

pub lay-requires-clause-number : goal.lay-requires-clause-number
lay-requires-clause-number c =
    blank_count c.args.sections.now c.requires.passed.0 c.requires.passed.1 c.groups_are_met.ensures c.args.values.items c.requires.sizes c.blanks_are_laid.ensures c.groups_are_alike.ensures c.args.model.now c.requires.blank

pub lay-requires-clause-sizes : goal.lay-requires-clause-sizes
lay-requires-clause-sizes c =
    blank_covers c.args.sections.now c.requires.passed.0 c.requires.passed.1 c.groups_are_met.ensures c.args.values.items c.requires.sizes c.blanks_are_laid.ensures c.groups_are_alike.ensures c.args.model.now c.requires.blank
