use Rattle.std.proofs.Common.{◌≡◌, ◌≤◌}
use Rattle.rule_tree.specs.Meaning.{how_many}
use Rattle.rule_eval.specs.Seen.{width_of}
use Rattle.rule_eval.proofs.Pieces.{firsts_of}
use Rattle.rule_eval.proofs.seen.how_many_first.Given as goal

abbrev pub invariant-loop-k : goal.invariant-loop-k
invariant-loop-k l = record {
  same : l.count ≡ how_many l.wanted (firsts_of l.view.neighbours.now (width_of l.view) l.k);
  few : l.count ≤ l.k;
}
