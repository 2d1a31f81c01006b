use Rattle.model_tree.specs.Tree.{leaves}
use Rattle.text_forms.specs.StateOf.{leaves_in}
use Rattle.run_leaves.specs.Standing.{tree_in}
use Rattle.state_lines.specs.Parts.{parts_of}
use Rattle.state_file.proofs.Whole.{goes_on, line_refused, still_fresh}
use Rattle.state_file.proofs.load.go_on.Goals as goal

pub returns-in-Some : goal.returns-in-Some
returns-in-Some g c =
    line_refused c.args.time c.in-Some.line
    (leaves_in 3 c.args.time (leaves (tree_in c.args.run.now)) (parts_of c.args.lines.now))
    (rw c.in-Some.is at c.in-Ok.ensures)

pub skip-requires : goal.skip-requires
skip-requires g c = record {
  fresh = still_fresh c.args.run.now c.take_leaves.new.run
      (leaves_in 3 c.args.time (leaves (tree_in c.args.run.now)) (parts_of c.args.lines.now))
      (rw c.in_default-refused.is at c.in-Ok.ensures) c.requires.fresh.0 c.requires.fresh.1;
}

pub returns : goal.returns
returns g c =
    let run = c.args.run.now in
    goes_on c.args.time (leaves_in 3 c.args.time (leaves (tree_in run)) (parts_of c.args.lines.now))
    run c.take_leaves.new.run c.skip.new.self (rw c.in_default-refused.is at c.in-Ok.ensures)
    c.skip.ensures c.requires.fresh.0 c.requires.fresh.2
