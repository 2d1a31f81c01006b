-- A run that is served in the order of a seed, as it is seen.
use Rattle.run_leaves.specs.Marking.{Marking}
use Rattle.run_leaves.specs.Standing.{Standing}

-- where it stands, with the seed that is left and the mark
pub record OrderedRun : Type 0 where
  pub standing : Standing
  pub marking : Marking
