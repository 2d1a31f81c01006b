use Rattle.std.proofs.Common.{◌≡◌, ◌<◌, [], ◌∷◌, List, false, get_or, length, refl, sym, subst, arith}
use Rattle.std.specs.Prelude.{ℤ, pos}
use Rattle.std.proofs.lemmas.Int.{to_z-of_z}
use mir.Val.{to_z, of_z}
use mir.Syntax.{w64}
use Rattle.atomic_face.specs.BoxCalls.{RestoreGives}
use Rattle.atomic_face.specs.Queue.{is_queue}
use Rattle.atomic_kinds.specs.Queue.{held_queue}
use Rattle.atomic_kinds.proofs.PairLemmas.{two_and_others}
use Rattle.atomic_kinds.proofs.queue.QueueModelAtomicModel.restore.Goals as goal

too_short : (words : List ℤ) → length words < 2 → is_queue words ≡ false
too_short [] h = refl
too_short (x ∷ []) h = refl
too_short (x ∷ y ∷ ws) h = absurd (omega arith)

pub returns-in_default : goal.returns-in_default
returns-in_default c = (too_short c.args.words.now (omega arith), refl)

pub returns : goal.returns
returns c =
    let phase : to_z w64 (of_z w64 (get_or c.args.words.now 0 (pos 0))) ≡ get_or c.args.words.now 0 (pos 0) = grind (arith, to_z-of_z) in
    let due : to_z w64 (of_z w64 (get_or c.args.words.now 1 (pos 0))) ≡ get_or c.args.words.now 1 (pos 0) = grind (arith, to_z-of_z) in
    subst (λ (ws : List ℤ). RestoreGives ws (held_queue c.args.self.now) (held_queue c.take_state.new.self) c.take_state.result) (sym (two_and_others c.args.words.now _ _ (pos 0) (omega arith) phase due)) c.take_state.ensures
