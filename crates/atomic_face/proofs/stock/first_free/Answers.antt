use Rattle.std.proofs.Common.{refl}
use Rattle.atomic_face.proofs.Starts.{position-rest}
use Rattle.atomic_face.proofs.stock.first_free.Goals as goal

pub returns-in-Some : goal.returns-in-Some
returns-in-Some g c =
    rw (position-rest _ c.args.start c.args.slots.now c.requires.within c.requires.none_before, ← c.next_free.ensures, c.in-Some.is) refl

pub returns-in-None : goal.returns-in-None
returns-in-None g c =
    rw (position-rest _ c.args.start c.args.slots.now c.requires.within c.requires.none_before, ← c.next_free.ensures, c.in-None.is) refl
