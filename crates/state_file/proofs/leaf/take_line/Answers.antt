use Rattle.model_tree.specs.Tree.{Leaf}
use Rattle.run_model.specs.Fitting.{Fits}
use Rattle.sparse_cycle.specs.Sparse.{leaf_of}
use Rattle.run_leaves.specs.Standing.{tree_in}
use Rattle.state_lines.specs.Parts.{parts_of}
use Rattle.state_file.proofs.Putting.{next_refused, next_taken, no_next}
use Rattle.state_file.proofs.leaf.take_line.Goals as goal

pub returns-in_default-clause-read : goal.returns-in_default-clause-read
returns-in_default-clause-read g c =
    let run = c.args.run.now in
    no_next (tree_in run) c.args.leaf c.args.t run run
    (λ (l : Leaf). Fits l (leaf_of run.state.leaf_states c.args.leaf)) (parts_of c.args.text.now)
    c.args.text.now c.requires.fits c.in_default.ensures.parts

pub returns-then-taken-clause-read : goal.returns-then-taken-clause-read
returns-then-taken-clause-read g c =
    next_taken (tree_in c.args.run.now) c.args.leaf c.args.t c.args.run.now
    c.take_leaf.new.run (parts_of c.args.text.now) c.in-Some.line.now c.in-Some.behind.now
    c.in_ok-taken.taken c.if-taken.true c.in-Some.ensures.parts c.in_ok-taken.ensures

pub returns-else-taken-clause-read : goal.returns-else-taken-clause-read
returns-else-taken-clause-read g c =
    next_refused (tree_in c.args.run.now) c.args.leaf c.args.t c.args.run.now
    c.take_leaf.new.run (parts_of c.args.text.now) c.in-Some.line.now c.in-Some.behind.now
    c.in_ok-taken.taken c.if-taken.false c.in-Some.ensures.parts c.in_ok-taken.ensures
