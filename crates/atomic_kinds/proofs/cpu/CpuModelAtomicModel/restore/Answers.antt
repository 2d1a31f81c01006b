use Rattle.std.proofs.Common.{ap, ◌∙◌}
use Rattle.std.specs.Prelude.{pos}
use Rattle.atomic_face.specs.Cpu.{are_pairs}
use Rattle.atomic_kinds.proofs.Rising.{read_rises}
use Rattle.atomic_kinds.proofs.cpu.CpuModelAtomicModel.restore.Goals as goal

pub invariant_of-self : goal.invariant_of-self
invariant_of-self c =
    let read = c.in_ok-pairs.ensures in
    record { short = c.args.self.now.short; rising = read_rises 0 c.in_ok-pairs.pairs.items (ap (λ ws. are_pairs (pos 0) ws) read.1 ∙ read.0) }
