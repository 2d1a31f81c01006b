use Rattle.std.proofs.Common.{◌≡◌, ℕ, Some, length}
use Rattle.std.specs.Prelude.{slice_get}
use Rattle.model_tree.specs.Tree.{groups}
use Rattle.model_leaves.specs.Leaves.{OfTree}
use Rattle.tree_mail.specs.declared.tables.GroupSpace.{GroupSpace}
use Rattle.tree_mail.specs.Tabled.{IsSpaceOf}
use Rattle.tree_mail.proofs.tables.spaces_of.Given as goal

abbrev pub invariant-loop-number : goal.invariant-loop-number
invariant-loop-number l =
    record {
      long : length l.spaces.items ≡ l.number;
      each : (n : ℕ) (s : GroupSpace) → slice_get l.spaces.items n ≡ Some s
          → OfTree l.model (λ t. IsSpaceOf (slice_get (groups t) n) s);
    }
