use Rattle.std.proofs.Common.{arith}
use Rattle.cell_table.proofs.Waits.{list_more}
use Rattle.cell_table.proofs.save.write_list.Goals as goal

pub loop-pair-preserved : goal.loop-pair-preserved
loop-pair-preserved c =
    let here = c.loop-pair.invariant in
    record {
      lists = list_more c.args.pairs.now c.args.delays.now.lists c.loop-pair.delays.lists c.add_pair.new.delays.lists c.args.port c.loop-pair.pair-index c.pair-item.result c.requires.rising c.loop-pair-test.true c.pair-item.is c.requires.exists here.lists c.add_pair.ensures.list;
      spare = omega (arith, here.spare, c.add_pair.ensures.spare);
    }
