use Rattle.std.proofs.Common.{◌≡◌, [], ◌∷◌, map}
use Rattle.std.specs.Prelude.{codes}
use Rattle.std.specs.List.{filter}
use Rattle.quantity.specs.Bytes.{is_among}
use Rattle.atomic_face.specs.declared.class.Class.TheVariants.{Table}
use Rattle.atomic_face.specs.declared.params.Param.{Param}
use Rattle.atomic_face.specs.Settings.{once_keys}
use Rattle.model_runs.proofs.tables.params.Given as goal

abbrev pub invariant-loop-line : goal.invariant-loop-line
invariant-loop-line l =
    filter (is_among (once_keys Table)) (map (λ (p : Param). p.key) l.entries.items) ≡ codes "states" ∷ []
