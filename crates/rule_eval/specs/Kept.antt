-- Private: counts that were made over a view.
use Rattle.std.specs.Prelude.{◌≡◌, ℕ, Option, None, IfSome, get_or}
use Rattle.rule_tree.specs.declared.node.Count.{Count}
use Rattle.rule_tree.specs.declared.node.Count.TheVariants.{Ones, Zeros, Undefs}
use Rattle.rule_tree.specs.Meaning.{outs, neighbour_count}
use Rattle.rule_eval.specs.Seen.{sight_of_view}
use Rattle.rule_eval.specs.declared.counts.Counts.{Counts}
use Rattle.rule_eval.specs.declared.view.View.{View}

-- where the number of a word stands
abbrev pub place_of : Count → ℕ
place_of Ones = 0
place_of Zeros = 1
place_of Undefs = 2

-- the number that a word counts, where it was made
abbrev pub kept_number : Counts → Count → Option ℕ
kept_number c count = get_or c.numbers (place_of count) None

-- each that is there is that of the view
pub record AreCounts (c : Counts) (v : View) : Type 0 where
  pub each : (count : Count)
      → IfSome (kept_number c count) (λ n. n ≡ neighbour_count count (outs (sight_of_view v)))
