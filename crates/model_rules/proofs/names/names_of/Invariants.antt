use Rattle.std.proofs.Common.{◌≡◌, map, take}
use Rattle.source_text.specs.Shown.{texts}
use Rattle.model_tree.specs.Pull.{distinct}
use Rattle.model_walk.specs.declared.item.Item as kept
use Rattle.model_rules.proofs.names.names_of.Given as goal

abbrev pub invariant-loop-item : goal.invariant-loop-item
invariant-loop-item l = texts l.names.keys ≡ distinct (map (λ (i : kept.Item). i.text.now) (take l.item-index l.items))
