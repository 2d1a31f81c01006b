use Rattle.std.proofs.Common.{refl}
use Rattle.std.specs.Str.{bytes_eq}
use Rattle.atomic_face.proofs.Shown.{position-map}
use Rattle.atomic_face.proofs.class.Class.in_port.Goals as goal

pub returns-in-Some : goal.returns-in-Some
returns-in-Some c =
    rw (← c.in_ports.ensures, position-map (bytes_eq c.args.name.now) (λ n. n.now) c.in_ports.result.now, ← c.place_of.ensures, c.in-Some.is) refl

pub returns-in-None : goal.returns-in-None
returns-in-None c =
    rw (← c.in_ports.ensures, position-map (bytes_eq c.args.name.now) (λ n. n.now) c.in_ports.result.now, ← c.place_of.ensures, c.in-None.is) refl
