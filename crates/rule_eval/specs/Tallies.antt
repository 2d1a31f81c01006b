-- How many neighbours show what words count, kept from one evaluation to the next.
use Rattle.std.specs.Prelude.{◌≡◌, ◌+◌, ◌-◌, ◌≤◌, List}
use Rattle.quantity.specs.declared.value.Value.{Value}
use Rattle.rule_tree.specs.declared.node.Count.TheVariants.{Ones, Zeros, Undefs}
use Rattle.rule_tree.specs.Meaning.{neighbour_count}
use Rattle.rule_eval.specs.declared.tally.Tally.{Tally}

-- the numbers that the words count among these values
pub record IsTally (t : Tally) (vs : List Value) : Type 0 where
  pub ones : t.ones ≡ neighbour_count Ones vs
  pub zeros : t.zeros ≡ neighbour_count Zeros vs
  pub undefs : t.undefs ≡ neighbour_count Undefs vs

-- ---- one neighbour shows another value

-- it is counted by what it shows now, and no more by what it showed before
abbrev pub moved_tally : Tally → Tally → Tally → Tally
moved_tally t was is =
    record {
      ones = t.ones + is.ones - was.ones;
      zeros = t.zeros + is.zeros - was.zeros;
      undefs = t.undefs + is.undefs - was.undefs;
    }

-- no number falls below 0 or passes 255
pub record CanMove (t was is : Tally) : Type 0 where
  pub ones : was.ones ≤ t.ones + is.ones
  pub zeros : was.zeros ≤ t.zeros + is.zeros
  pub undefs : was.undefs ≤ t.undefs + is.undefs
  pub most_ones : t.ones + is.ones ≤ 255
  pub most_zeros : t.zeros + is.zeros ≤ 255
  pub most_undefs : t.undefs + is.undefs ≤ 255
