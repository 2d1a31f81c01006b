use Rattle.std.proofs.Common.{◌≡◌, [], ◌∷◌, drop}
use Rattle.std.specs.Prelude.{codes}
use Rattle.std.specs.List.{filter}
use Rattle.quantity.specs.Bytes.{is_among}
use Rattle.state_tables.proofs.read.entries.one_too_many.Given as goal

abbrev pub invariant-loop-entry : goal.invariant-loop-entry
invariant-loop-entry l =
    drop l.left (filter (λ e. is_among (codes "hold" ∷ codes "take" ∷ []) e.key) (drop l.entry-index l.entries)) ≡ drop 1024 (filter (λ e. is_among (codes "hold" ∷ codes "take" ∷ []) e.key) l.entries)
