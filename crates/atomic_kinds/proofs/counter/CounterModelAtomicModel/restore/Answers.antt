use Rattle.std.proofs.Common.{◌≡◌, List, get_or, refl, sym, subst, arith}
use Rattle.std.specs.Prelude.{ℤ, pos}
use Rattle.std.proofs.lemmas.Int.{to_z-of_z}
use mir.Val.{to_z, of_z}
use mir.Syntax.{w64}
use Rattle.atomic_face.specs.BoxCalls.{RestoreGives}
use Rattle.atomic_kinds.specs.Counter.{held_counter}
use Rattle.atomic_kinds.proofs.Steps.{not_counter, two_words}
use Rattle.atomic_kinds.proofs.counter.CounterModelAtomicModel.restore.Goals as goal

pub returns-in_default : goal.returns-in_default
returns-in_default c = (not_counter c.args.words.now (λ e. omega (arith, e, c.in_default.len_below)), refl)

pub returns : goal.returns
returns c =
    let total : to_z w64 (of_z w64 (get_or c.args.words.now 0 (pos 0))) ≡ get_or c.args.words.now 0 (pos 0) = grind (arith, to_z-of_z) in
    let due : to_z w64 (of_z w64 (get_or c.args.words.now 1 (pos 0))) ≡ get_or c.args.words.now 1 (pos 0) = grind (arith, to_z-of_z) in
    subst (λ (ws : List ℤ). RestoreGives ws (held_counter c.args.self.now) (held_counter c.take_state.new.self) c.take_state.result) (sym (two_words c.args.words.now _ _ (pos 0) (omega arith) total due)) c.take_state.ensures
