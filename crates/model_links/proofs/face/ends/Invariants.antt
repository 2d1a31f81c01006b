use Rattle.std.proofs.Common.{◌≡◌, map, take}
use Rattle.model_walk.specs.Shown.{item_of}
use Rattle.model_links.specs.Lent.{end_of}
use Rattle.model_links.specs.PortEnds.{ends_by}
use Rattle.model_links.proofs.face.ends.Given as goal

abbrev pub invariant-loop-child : goal.invariant-loop-child
invariant-loop-child l = map end_of l.ends.keys ≡ ends_by l.side l.sections l.section (map item_of (take l.child-index l.children))
