use Rattle.rule_eval.proofs.tally.Tally.moved.Goals as goal

pub moved_number-ones-requires : goal.moved_number-ones-requires
moved_number-ones-requires c = record { low = c.requires.ones; high = c.requires.most_ones }

pub moved_number-zeros-requires : goal.moved_number-zeros-requires
moved_number-zeros-requires c = record { low = c.requires.zeros; high = c.requires.most_zeros }

pub moved_number-undefs-requires : goal.moved_number-undefs-requires
moved_number-undefs-requires c = record { low = c.requires.undefs; high = c.requires.most_undefs }

pub returns : goal.returns
returns c =
    λ k. record {
      ones = c.moved_number-ones.ensures k;
      zeros = c.moved_number-zeros.ensures k;
      undefs = c.moved_number-undefs.ensures k;
    }
