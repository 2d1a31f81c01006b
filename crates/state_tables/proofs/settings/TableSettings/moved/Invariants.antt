use Rattle.std.proofs.Common.{◌≡◌, drop, fold}
use Rattle.atomic_face.specs.StateTable.{table_input, table_moved}
use Rattle.state_tables.specs.Moves.{plain_settings, plain_state}
use Rattle.state_tables.proofs.settings.TableSettings.moved.Given as goal

abbrev pub invariant-loop-input : goal.invariant-loop-input
invariant-loop-input l =
    fold (table_input (plain_settings l.self) l.now) (plain_state l.moved) (drop l.input-index l.bag) ≡ table_moved (plain_settings l.self) l.now (plain_state l.at) l.bag
