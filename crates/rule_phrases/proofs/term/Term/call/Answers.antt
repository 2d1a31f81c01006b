use Rattle.rule_phrases.proofs.Terms.{call_tree}
use Rattle.rule_phrases.proofs.term.Term.call.Goals as goal

pub returns : goal.returns
returns c names xs h = record {
  tree = call_tree c.args.function c.in_ok-nodes.nodes c.args.arguments.items c.in_ok-nodes.ensures names xs h;
  sorted = (rw c.deref.ensures.value at c.sort_of_call-sort.ensures) names xs h;
  misses = (rw c.deref-2.ensures.value at c.of_all-lacks.ensures) names xs h;
}
