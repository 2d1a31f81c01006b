use Rattle.model_tree.specs.Tree.{ins_of}
use Rattle.route_flat.specs.Ways.{paths_of}
use Rattle.run_leaves.proofs.SoundParts.{sound-parts, inputs-once}
use Rattle.flat_run.proofs.Starts.{port-of-tree}
use Rattle.flat_run.proofs.OfRoutes.{are-paths}
use Rattle.std.specs.Prelude.{slice_index_or}
use Rattle.flat_run.proofs.start.routes_are_ready.Goals as goal

pub returns : goal.returns
returns c = λ t r of sound.
    let lead = c.paths_lead_to_ports.ensures r in
    let covers = c.each_port_has_its_list.ensures t r of in
    record {
      paths_are = are-paths t r of;
      ports = λ k p lt. port-of-tree t r (slice_index_or (paths_of r) k p).to covers (lead k p lt);
      order = c.paths_stand_by_rising_leaf.ensures r;
      distinct = c.events_stand_by_number.ensures.distinct (ins_of t) (inputs-once t (sound-parts t sound).parts);
    }
