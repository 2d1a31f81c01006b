use Rattle.std.proofs.Common.{◌≡◌, ◌≤◌, take}
use Rattle.quantity.specs.declared.value.Value.TheVariants.{Undefined}
use Rattle.rule_tree.specs.Meaning.{how_many}
use Rattle.rule_eval.proofs.seen.how_many_undefined.Given as goal

abbrev pub invariant-loop-value : goal.invariant-loop-value
invariant-loop-value l = record {
  same : l.count ≡ how_many Undefined (take l.value-index l.values);
  few : l.count ≤ l.value-index;
}
