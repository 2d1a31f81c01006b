-- What the numbers of a table are in a run.
use Rattle.std.specs.Prelude.{◌≡◌, false, List, ℤ, IfSome}
use Rattle.std.specs.List.{All}
use Rattle.quantity.specs.TimeBounds.{IsDelay, IsTime}
use Rattle.atomic_face.specs.Words.{time_of_word}
use Rattle.atomic_face.specs.TableSettings.{any_word}
use Rattle.atomic_face.specs.StateTable.{Hold, table_settings, same_word, table_state, table_rules}
use Rattle.run_model.specs.ClassBounds.{ClassBounds, IsNotBefore, IsValueWord}

-- the value of a hold, unless it is the last value taken
abbrev pub IsBoundedHold : Hold → Type 0
IsBoundedHold h =
    IfSome (time_of_word h.time) IsDelay
    × (same_word h.value any_word ≡ false → IsValueWord h.value)

-- the time at which its hold ends, and the value that came last
abbrev pub IsBoundedTable : List ℤ → Type 0
IsBoundedTable state =
    IfSome (time_of_word (table_state state).due) IsTime × IsValueWord (table_state state).last

-- a table
abbrev pub table_bounds : ClassBounds
table_bounds = record {
  waits_from = λ low state. IsNotBefore low (table_rules.next state);
  bounded_settings = λ settings. All IsBoundedHold (table_settings settings).holds;
  bounded_state = IsBoundedTable;
}
