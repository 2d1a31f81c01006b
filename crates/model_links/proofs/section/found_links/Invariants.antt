use Rattle.std.proofs.Common.{◌≡◌, map, take}
use Rattle.model_links.specs.Judged.{links_among, found_at}
use Rattle.model_links.proofs.Judging.{entries_in}
use Rattle.model_links.proofs.section.found_links.Given as goal

abbrev pub invariant-loop-read : goal.invariant-loop-read
invariant-loop-read l = l.found.items ≡ map (found_at l.section) (links_among (entries_in (take l.read-index l.read-items)))
