use Rattle.std.proofs.Common.{refl, ◌∙◌, ◌-◌, arith}
use Rattle.std.specs.String.{string_bytes}
use Rattle.room_edge.proofs.Names.{map-set_same}
use Rattle.room_edge.proofs.folder.write_to.Goals as goal

pub returns-then-eq-clause-names : goal.returns-then-eq-clause-names
returns-then-eq-clause-names g c =
    map-set_same (λ m. string_bytes m.name) c.loop-at.made.items (c.loop-at.at - 1) c.index_mut-entry.result.now _ (omega (arith, c.loop-at.invariant.within, c.loop-at-test.true)) c.index_mut-entry.ensures.value refl ∙ c.loop-at.invariant.names
