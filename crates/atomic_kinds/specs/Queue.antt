-- What a queue means.
use Rattle.std.specs.Prelude.{[], ◌∷◌, map, pos}
use Rattle.atomic_face.specs.declared.class.Class.TheVariants.{Queue}
use Rattle.atomic_face.specs.Words.{word_of}
use Rattle.atomic_face.specs.Queue.{QueueState}
use Rattle.atomic_face.specs.Held.{Held}
use Rattle.atomic_kinds.specs.declared.queue.QueueModel.{QueueModel}
use Rattle.atomic_kinds.specs.Phases.{phase_due, phase_number}

-- a queue's state in code as one of the definitions
abbrev pub state_in : QueueModel → QueueState
state_in q = record {
  phase = phase_number q.phase;
  due = phase_due q.phase;
  waiting = map word_of q.waiting.items;
}

-- a queue in code as a box of the definitions
abbrev pub held_queue : QueueModel → Held
held_queue q =
    record {
      kind = Queue;
      settings = pos q.preparation ∷ [];
      state = pos (phase_number q.phase) ∷ phase_due q.phase ∷ map word_of q.waiting.items;
    }
