use Rattle.std.proofs.Common.{[], ◌∷◌, sym, ◌∙◌, arith}
use Rattle.std.specs.Prelude.{codes}
use Rattle.quantity.specs.Bytes.{is_among}
use Rattle.atomic_face.specs.declared.params.Param.{Param}
use Rattle.state_tables.proofs.Entries.{as_many, drop_at, one_less}
use Rattle.state_tables.proofs.read.entries.one_too_many.Goals as goal
use Rattle.state_tables.proofs.read.entries.one_too_many.Goals.{then-is_hold_or_take+else-left-eq0, else-is_hold_or_take}

pub loop-entry-preserved : goal.loop-entry-preserved
loop-entry-preserved c =
    let at = drop_at c.args.entries.now c.loop-entry.entry-index c.entry-item.result (omega arith) c.entry-item.is in
    elim c.if-is_hold_or_take.branch [
      | then-is_hold_or_take+else-left-eq0 w ↦ one_less (λ (e : Param). is_among (codes "hold" ∷ codes "take" ∷ []) e.key) _ _ c.entry-item.result c.loop-entry.left c.if-is_hold_or_take.left _ at (sym c.is_hold_or_take.ensures ∙ w.if-is_hold_or_take.true) (omega arith) c.loop-entry.invariant
      | else-is_hold_or_take w ↦ rw w.left-is (as_many (λ (e : Param). is_among (codes "hold" ∷ codes "take" ∷ []) e.key) _ _ c.entry-item.result c.loop-entry.left _ at (sym c.is_hold_or_take.ensures ∙ w.if-is_hold_or_take.false) c.loop-entry.invariant)
    ]
