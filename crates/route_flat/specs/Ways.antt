-- The paths of a model by their numbers, and where each source leads.
use Rattle.std.specs.Prelude.{ℕ, Bool, List, ◌++◌, map}
use Rattle.std.specs.List.{enumerate_from, filter, flat_map}
use Rattle.model_leaves.specs.declared.path.Source.{Source}
use Rattle.model_leaves.specs.declared.path.TargetPort.{TargetPort}
use Rattle.model_leaves.specs.declared.path.TargetPort.TheVariants as target
use Rattle.model_leaves.specs.declared.path.Path.{Path}
use Rattle.model_leaves.specs.declared.path.Target.{Target}
use Rattle.model_leaves.specs.Numbered.{same_source}
use Rattle.route_flat.specs.declared.way.Way.{Way}
use Rattle.route_flat.specs.Nets.{Flat}

-- the path to a port from the source at a place
abbrev pub way_at : TargetPort → ℕ × Source → Way
way_at to p = record { path = record { from = p.1; to = to }; rank = p.0 }

-- the paths to a port with these sources
abbrev pub ways_at : TargetPort → List Source → List Way
ways_at to sources = map (way_at to) (enumerate_from 0 sources)

-- the paths to an input port of a leaf, which has a number and sources
abbrev pub ways_to_port : ℕ → ℕ × List Source → List Way
ways_to_port leaf p = ways_at (target.Leaf leaf (record { 0 = p.0 })) p.1

-- the paths to a leaf, which has a number and for each port its sources
abbrev pub ways_to_leaf : ℕ × List (List Source) → List Way
ways_to_leaf l = flat_map (ways_to_port l.0) (enumerate_from 0 l.1)

-- the paths to an output of top
abbrev pub ways_to_top : ℕ × List Source → List Way
ways_to_top p = ways_at (target.TopOut p.0) p.1

-- all paths, by leaf, port and place among the sources of the port, and then by outputs of top
abbrev pub ways_of : Flat → List Way
ways_of r =
    flat_map ways_to_leaf (enumerate_from 0 r.ports)
    ++ flat_map ways_to_top (enumerate_from 0 r.tops)

-- the path of a way
abbrev pub path_in : Way → Path
path_in w = w.path

-- the paths of a net
abbrev pub paths_of : Flat → List Path
paths_of r = map path_in (ways_of r)

-- those to leaves, which come first
abbrev pub leaf_paths : Flat → List Path
leaf_paths r = map path_in (flat_map ways_to_leaf (enumerate_from 0 r.ports))

-- those to outputs of top, which come last
abbrev pub top_paths : Flat → List Path
top_paths r = map path_in (flat_map ways_to_top (enumerate_from 0 r.tops))

-- where a path of a number leads
abbrev pub target_of : ℕ × Way → Target
target_of w = record { to = w.1.path.to; rank = w.1.rank; path = w.0 }

-- a path begins at this source
abbrev pub is_way_from : Source → ℕ × Way → Bool
is_way_from from w = same_source from w.1.path.from

-- where a source leads, by rising numbers of paths
abbrev pub targets_among : List Way → Source → List Target
targets_among ws from = map target_of (filter (is_way_from from) (enumerate_from 0 ws))
