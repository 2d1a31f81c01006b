use Rattle.std.proofs.Common.{◌≡◌, ◌+◌, take}
use Rattle.model_leaves.specs.Growing.{Grows, seats_of_all, groups_in_all}
use Rattle.model_leaves.proofs.walked.+put.Given as goal

abbrev pub invariant-put_all-loop-child : goal.invariant-put_all-loop-child
invariant-put_all-loop-child l =
    record {
      ok : Grows l.fn.table l.table (seats_of_all (take l.child-index l.children) l.fn.table.groups);
      groups : l.table.groups ≡ l.fn.table.groups + groups_in_all (take l.child-index l.children);
    }
