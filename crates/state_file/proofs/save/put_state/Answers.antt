use Rattle.run_leaves.specs.Standing.{tree_in}
use Rattle.state_lines.proofs.Appended.{kept_on, on_ok}
use Rattle.state_file.proofs.Lines.{text_made}
use Rattle.state_file.proofs.save.put_state.Goals as goal

pub returns-clause-ok : goal.returns-clause-ok
returns-clause-ok g c =
    on_ok c.put.result _ _
    (λ last.
    text_made (tree_in c.args.run.now) c.args.at c.args.run.now.state.leaf_states c.args.into.now.items
    c.put_head.new.into.items c.put_lines.new.into.items c.put.new.into.items
    c.in_ok-put_head.ensures.ok c.in_ok-put_lines.ensures.ok last) c.put.ensures.ok

pub returns-clause-kept : goal.returns-clause-kept
returns-clause-kept g c =
    kept_on c.args.into.now.items c.put_lines.new.into.items c.put.new.into.items
    (kept_on c.args.into.now.items c.put_head.new.into.items c.put_lines.new.into.items c.put_head.ensures.kept c.put_lines.ensures.kept)
    c.put.ensures.kept

pub returns-in_err-put_lines-clause-kept : goal.returns-in_err-put_lines-clause-kept
returns-in_err-put_lines-clause-kept g c =
    kept_on c.args.into.now.items c.put_head.new.into.items c.put_lines.new.into.items c.put_head.ensures.kept c.put_lines.ensures.kept
