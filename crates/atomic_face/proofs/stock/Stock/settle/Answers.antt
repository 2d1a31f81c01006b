use Rattle.std.proofs.Common.{refl, ap, IsTrue}
use Rattle.atomic_face.specs.BoxCalls.{SettleGives}
use Rattle.atomic_face.specs.Once.{are_once}
use Rattle.atomic_face.proofs.Shown.{changes-box, map-set_same, shown-at}
use Rattle.atomic_face.proofs.Starts.{starts-stay}
use Rattle.atomic_face.proofs.Answers.{settle-leaves, on_err}
use Rattle.atomic_face.proofs.stock.Stock.settle.Goals as goal

pub settle-requires : goal.settle-requires
settle-requires g c =
    shown-at (λ b. IsTrue (are_once b.kind c.args.params.now.entries.items)) c.self.inside.slots.items (λ s. record { box = g.M.AtomicModel.held s.model; taken = s.taken }) c.args.at.0 c.index_mut.result.now (rw c.self.view_is c.requires.at) c.index_mut.ensures.value (rw c.self.view_is c.requires.once)

pub invariant_of-self : goal.invariant_of-self
invariant_of-self g c =
    starts-stay (λ s. record { box = g.M.AtomicModel.held s.model; taken = s.taken }) c.self.inside.slots.items c.self.inside.starts c.args.at.0 c.index_mut.result.now _ c.index_mut.ensures.value (settle-leaves c.args.params.now.entries.items _ _ c.settle.result c.settle.ensures).kind refl c.self.invariant

pub returns-clause-settles : goal.returns-clause-settles
returns-clause-settles g c =
    rw (← c.self.view_is) (changes-box (λ old new. SettleGives c.args.params.now.entries.items old new c.settle.result) (λ s. record { box = g.M.AtomicModel.held s.model; taken = s.taken }) c.self.inside.slots.items c.args.at.0 c.index_mut.result.now _ (rw c.self.view_is c.requires.at) c.index_mut.ensures.value refl c.settle.ensures)

pub returns-clause-err : goal.returns-clause-err
returns-clause-err g c =
    rw (← c.self.view_is) (on_err c.settle.result (λ e. map-set_same (λ s. record { box = g.M.AtomicModel.held s.model; taken = s.taken }) c.self.inside.slots.items c.args.at.0 c.index_mut.result.now _ c.index_mut.ensures.value (ap (λ h. record { box = h; taken = c.index_mut.result.now.taken }) e)) (settle-leaves c.args.params.now.entries.items _ _ c.settle.result c.settle.ensures).err)
