-- What a cpu means.
use Rattle.std.specs.Prelude.{[], ◌∷◌, pos}
use Rattle.atomic_face.specs.declared.class.Class.TheVariants.{Cpu}
use Rattle.atomic_face.specs.Held.{Held}
use Rattle.atomic_kinds.specs.declared.cpu.CpuModel.{CpuModel}
use Rattle.atomic_kinds.specs.Pairs.{pair_words}

-- a cpu in code as a box of the definitions
abbrev pub held_cpu : CpuModel → Held
held_cpu c = record { kind = Cpu; settings = pos c.delay ∷ []; state = pair_words c.pairs.items }
