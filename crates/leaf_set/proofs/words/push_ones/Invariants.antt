use Rattle.std.proofs.Common.{◌≡◌, ◌++◌}
use Rattle.std.specs.Vec.{vec_capacity}
use Rattle.leaf_set.specs.Words.{ones_of}
use Rattle.leaf_set.proofs.words.push_ones.Given as goal

abbrev pub invariant-ones : goal.invariant-ones
invariant-ones l = record {
  taken : l.into.items ++ ones_of l.left l.at ≡ l.fn.into.items ++ ones_of l.word l.at;
  capacity : vec_capacity l.into ≡ vec_capacity l.fn.into;
}

abbrev pub decreases-ones : goal.decreases-ones
decreases-ones l = l.left
