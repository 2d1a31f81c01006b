use Rattle.delay_lines.specs.Lists.{list_of}
use Rattle.cell_table.proofs.Least.{pair_there}
use Rattle.cell_table.proofs.table.first_at.Goals as goal

pub returns-then-ms : goal.returns-then-ms
returns-then-ms c =
    pair_there c.args.t c.ms.result c.ms-2.result c.in_ok-pair.pair (list_of c.args.delays.now c.args.port) c.in_ok-pair.ensures.pair c.ms.ensures.value c.ms-2.ensures.value c.if-ms.true
