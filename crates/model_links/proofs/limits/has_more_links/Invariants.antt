use Rattle.std.proofs.Common.{◌≡◌, ◌≤◌, map, length, sum, take}
use Rattle.model_text.specs.Links.{link_entries}
use Rattle.model_links.proofs.limits.has_more_links.Given as goal

abbrev pub invariant-loop-section : goal.invariant-loop-section
invariant-loop-section l =
    (l.total ≡ sum (map (λ r. length (link_entries r.now)) (take l.section-index l.sections))) × (l.total ≤ 16384)
