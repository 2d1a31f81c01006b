use Rattle.std.proofs.Common.{refl, ap}
use Rattle.atomic_face.specs.BoxCalls.{RestoreGives}
use Rattle.atomic_face.proofs.Shown.{changes-box, map-set_same}
use Rattle.atomic_face.proofs.Starts.{starts-stay}
use Rattle.atomic_face.proofs.Answers.{restore-leaves, on_err}
use Rattle.atomic_face.proofs.stock.Stock.restore.Goals as goal

pub invariant_of-self : goal.invariant_of-self
invariant_of-self g c =
    starts-stay (λ s. record { box = g.M.AtomicModel.held s.model; taken = s.taken }) c.self.inside.slots.items c.self.inside.starts c.args.at.0 c.index_mut.result.now _ c.index_mut.ensures.value (restore-leaves c.args.words.now _ _ c.restore.result c.restore.ensures).kind refl c.self.invariant

pub returns-clause-restores : goal.returns-clause-restores
returns-clause-restores g c =
    rw (← c.self.view_is) (changes-box (λ old new. RestoreGives c.args.words.now old new c.restore.result) (λ s. record { box = g.M.AtomicModel.held s.model; taken = s.taken }) c.self.inside.slots.items c.args.at.0 c.index_mut.result.now _ (rw c.self.view_is c.requires) c.index_mut.ensures.value refl c.restore.ensures)

pub returns-clause-err : goal.returns-clause-err
returns-clause-err g c =
    rw (← c.self.view_is) (on_err c.restore.result (λ e. map-set_same (λ s. record { box = g.M.AtomicModel.held s.model; taken = s.taken }) c.self.inside.slots.items c.args.at.0 c.index_mut.result.now _ c.index_mut.ensures.value (ap (λ h. record { box = h; taken = c.index_mut.result.now.taken }) e)) (restore-leaves c.args.words.now _ _ c.restore.result c.restore.ensures).err)
