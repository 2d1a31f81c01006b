use Rattle.std.proofs.Common.{Some, ap, refl}
use Rattle.atomic_face.specs.Cpu.{cpu_words}
use Rattle.atomic_kinds.proofs.PairLemmas.{cpu_moves}
use Rattle.atomic_kinds.proofs.cpu.CpuModelAtomicModel.advance.Goals as goal

pub returns : goal.returns
returns c =
    let left = rw c.reserve.ensures.items at c.leave.ensures.items in
    let put = rw c.after.ensures at c.put_all.ensures.items in (
      ap (λ ps. Some (cpu_words ps)) (cpu_moves c.args.self.now.delay c.args.now c.args.self.now.pairs.items c.leave.new.pairs.items c.put_all.new.pairs.items c.args.bag.now left put),
      refl,
    )
