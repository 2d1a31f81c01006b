use Rattle.std.proofs.Common.{length, drop, ◌∙◌, arith}
use Rattle.std.proofs.lemmas.List.{take_at}
use Rattle.cell_reach.proofs.Fixed.{neighbours_there}
use Rattle.cell_reach.proofs.strides.Strides.collect.Goals as goal

pub returns-in-Some-clause-cells : goal.returns-in-Some-clause-cells
returns-in-Some-clause-cells c =
    take_at c.write_inside.new.into (drop (length c.write_inside.new.into) c.set_len.new.into.items) c.set_len.new.into.len (omega arith)
    ∙ c.write_inside.ensures ∙ neighbours_there c.args.self.now c.args.cell c.in-Some.differences.now c.in-Some.ensures.far
