use Rattle.state_lines.proofs.Appended.{kept_on, on_ok}
use Rattle.state_file.proofs.Lines.{line_made}
use Rattle.state_file.proofs.save.put_line.Goals as goal

pub returns-clause-ok : goal.returns-clause-ok
returns-clause-ok g c =
    on_ok c.put.result _ _
    (λ last l s there here.
    line_made c.args.run.now.state.leaf_states c.args.leaf l s c.args.into.now.items
    c.put_text.new.into.items c.put.new.into.items here (c.in_ok-put_text.ensures.ok l there)
    last) c.put.ensures.ok

pub returns-clause-kept : goal.returns-clause-kept
returns-clause-kept g c =
    kept_on c.args.into.now.items c.put_text.new.into.items c.put.new.into.items
    c.put_text.ensures.kept c.put.ensures.kept
