-- What a view shows, as the sight over which expressions have their meaning.
use Rattle.std.specs.Prelude.{◌≡◌, ◌≤◌, ℕ, ◌+◌, ◌*◌, ◌/◌, List, map, take, drop, length}
use Rattle.std.specs.List.{range_with_len}
use Rattle.quantity.specs.declared.value.Value.{Value}
use Rattle.quantity.specs.declared.bounds.TheConstants.{MAX_OFFSETS}
use Rattle.rule_tree.specs.Meaning.{Sight}
use Rattle.rule_eval.specs.declared.view.View.{View}

-- the ports of a neighbour: out and the further ones
abbrev pub width_of : View → ℕ
width_of v = v.ports + 1

-- how many offsets the values in a view are for
abbrev pub offset_count : View → ℕ
offset_count v = length v.neighbours.now / width_of v

-- piece number k of a list in pieces of this width
abbrev pub piece : List Value → ℕ → ℕ → List Value
piece values width k = take width (drop (k * width) values)

-- the values of each neighbour, by port
abbrev pub neighbours_of : View → List (List Value)
neighbours_of v = map (piece v.neighbours.now (width_of v)) (range_with_len 0 (offset_count v))

-- what a cell sees whose variables have these values
abbrev pub sight_with : View → List Value → Sight
sight_with v variables =
    record {
      time = v.time;
      place = v.place;
      dims = v.dims;
      neighbours = neighbours_of v;
      port = v.port;
      variables = variables;
    }

-- what a view shows
abbrev pub sight_of_view : View → Sight
sight_of_view v = sight_with v v.variables.now

-- a view of a group: just the values of all ports for each offset, and no more offsets than a group
-- may have
pub record IsView (v : View) : Type 0 where
  pub ports : v.ports ≤ 3
  pub whole : length v.neighbours.now ≡ offset_count v * width_of v
  pub few : offset_count v ≤ MAX_OFFSETS
