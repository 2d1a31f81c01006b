use Rattle.std.proofs.Common.{◌<◌, List, length, sym, subst}
use Rattle.std.specs.Prelude.{nat_lt}
use Rattle.event_list.specs.Events.{Event}
use Rattle.model_tree.specs.Tree.{ins_of}
use Rattle.sparse_cycle.specs.Feed.{AreAtInputs}
use Rattle.run_leaves.specs.Seated.{tree_at}
use Rattle.flat_run.proofs.Instants.{all-left}
use Rattle.flat_run.proofs.run.FlatRun.skip.Goals as goal

pub invariant_of-self : goal.invariant_of-self
invariant_of-self g c =
    let was = c.self.invariant in
    let ins = ins_of (tree_at c.self.inside.parts.leaves.model c.self.inside.parts.leaves.settings) in
    record {
      counts = was.counts;
      frame = record {
        routes_are = was.frame.routes_are;
        watching_is = was.frame.watching_is;
        at_inputs = subst (λ (es : List Event). AreAtInputs ins es) (sym c.skip.ensures) (all-left (λ (e : Event). e.port < length ins) (λ (e : Event). nat_lt c.args.to e.time) c.self.inside.events was.frame.at_inputs);
        due_room = was.frame.due_room;
        moving_room = was.frame.moving_room;
      };
      goes_on = was.goes_on;
    }
