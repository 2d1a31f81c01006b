-- What leaves give, as records with the time of their cycle.
use Rattle.std.specs.Prelude.{◌≡◌, ℕ, ◌+◌, List, map, length, take}
use Rattle.run_model.specs.Cycle.{LeafState}
use Rattle.text_forms.specs.declared.records.YRecord.{YRecord}
use Rattle.text_forms.specs.Held.{y_at}
use Rattle.sparse_cycle.specs.Collect.{Collected, collect_each}

-- the lists are what leaves gave
pub record Collects (t : ℕ) (c : Collected) (y n : List YRecord) (givers : List ℕ)
    (states : List LeafState) : Type 0 where
  pub y_is : y ≡ map (y_at t) c.y
  pub n_is : n ≡ map (y_at t) c.n
  pub givers_is : givers ≡ c.givers
  pub states_is : states ≡ c.leaf_states

-- so many of these leaves, the first ones, have given, and no others
pub record GaveFirst (t : ℕ) (leaves : List ℕ) (old new : List LeafState) : Type 0 where
  pub count : ℕ
  pub states : new ≡ (collect_each t (take count leaves) old).leaf_states

-- how many values were given
abbrev pub value_count : Collected → ℕ
value_count c = length c.y + length c.n
