use Rattle.quantity.proofs.Pairs.{pair_at}
use Rattle.quantity.proofs.short_text.two_digits.Goals as goal

pub returns-clause-tens : goal.returns-clause-tens
returns-clause-tens c = (pair_at c.args.number c.requires).0

pub returns-clause-ones : goal.returns-clause-ones
returns-clause-ones c = (pair_at c.args.number c.requires).1
