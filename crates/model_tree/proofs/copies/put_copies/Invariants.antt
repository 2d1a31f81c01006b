use Rattle.std.proofs.Common.{◌≡◌, ◌++◌, take}
use Rattle.model_tree.proofs.copies.put_copies.Given as goal

abbrev pub invariant-loop-name : goal.invariant-loop-name
invariant-loop-name l = l.into.items ≡ l.fn.into.items ++ take l.name-index l.names
