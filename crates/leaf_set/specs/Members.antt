-- A set of leaves: for each leaf, by its number, whether it is in.
use Rattle.std.specs.Prelude.{◌≡◌, ℕ, Bool, false, ◌||◌, List, [], ◌∷◌, length, slice_index_or, if◌then◌else◌}
use Rattle.std.specs.List.{filter, range_with_len}

-- whether a leaf is in
abbrev pub is_in : List Bool → ℕ → Bool
is_in members leaf = slice_index_or members leaf false

-- the members, rising
abbrev pub members_of : List Bool → List ℕ
members_of members = filter (is_in members) (range_with_len 0 (length members))

-- a leaf alone where it is in, else nothing
abbrev pub one_member : Bool → ℕ → List ℕ
one_member has leaf = if has then leaf ∷ [] else []

-- of as many leaves those are in that are in one of two sets
pub record IsUnion (old more new : List Bool) : Type 0 where
  pub long : length new ≡ length old
  pub either : (k : ℕ) → is_in new k ≡ (is_in old k || is_in more k)

-- one leaf is in as well, where that is so. Private: only the joining of two sets names it
pub record JoinsOne (old new : List Bool) (leaf : ℕ) (more : Bool) : Type 0 where
  pub there : is_in new leaf ≡ (is_in old leaf || more)
  pub elsewhere : (k : ℕ) → (k ≡ leaf → ⊥) → is_in new k ≡ is_in old k
