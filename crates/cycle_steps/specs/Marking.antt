-- Sets in which leaves are marked.
use Rattle.std.specs.Prelude.{◌≡◌, ℕ, Bool, ◌||◌, List}
use Rattle.leaf_set.specs.Members.{is_in}

-- the leaves for which a test holds are in as well
abbrev pub Marks : (ℕ → Bool) → List Bool → List Bool → Type 0
Marks test old new = (k : ℕ) → is_in new k ≡ (is_in old k || test k)
