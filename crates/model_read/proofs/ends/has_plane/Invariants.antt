use Rattle.std.proofs.Common.{◌≡◌, drop}
use Rattle.std.specs.List.{find}
use Rattle.std.specs.Str.{bytes_eq}
use Rattle.model_read.proofs.ends.has_plane.Given as goal

-- the first of the name is among those that are left
abbrev pub invariant-loop-group : goal.invariant-loop-group
invariant-loop-group l =
    find (λ g. bytes_eq g.section.now.name l.frames.group) (drop l.group-index l.groups) ≡ find (λ g. bytes_eq g.section.now.name l.frames.group) l.groups
