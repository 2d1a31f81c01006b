use Rattle.std.proofs.Common.{◌≡◌, ℕ, ℤ, List, map, take}
use Rattle.std.specs.Option.{option_map}
use Rattle.model_tree.specs.declared.link.Link.{Link}
use Rattle.tree_tables.specs.Stations.{ref_of}
use Rattle.tree_tables.specs.Begins.{begin_in}
use Rattle.tree_tables.proofs.begins.begins.Given as goal

abbrev pub invariant-loop-link : goal.invariant-loop-link
invariant-loop-link l =
    (settings : ℕ → List ℤ) → map (option_map ref_of) l.all.items
    ≡ map (λ (k : Link). begin_in l.inside settings l.numbers l.ins k.from) (take l.link-index l.links)
