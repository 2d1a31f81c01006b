use Rattle.std.proofs.Common.{◌≡◌, map, take}
use Rattle.std.specs.Option.{option_map}
use Rattle.source_text.specs.Shown.{texts}
use Rattle.model_links.specs.Lent.{end_of, with_ends}
use Rattle.model_links.specs.PortEnds.{ends_at}
use Rattle.model_links.proofs.face.add_ports.Given as goal

abbrev pub invariant-loop-port : goal.invariant-loop-port
invariant-loop-port l = map end_of l.ends.keys ≡ with_ends (map end_of l.fn.ends.keys) (ends_at (option_map (λ r. r.now) l.child) (texts (take l.port-index l.ports)))
