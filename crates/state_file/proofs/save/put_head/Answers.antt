use Rattle.std.proofs.Common.{length, take, ap, ◌∙◌}
use Rattle.quantity.specs.Times.{time_text}
use Rattle.state_lines.proofs.Appended.{append_keeps, keeps_itself, kept_on, on_ok}
use Rattle.state_file.proofs.Lines.{head_made}
use Rattle.state_file.proofs.save.put_head.Goals as goal

pub returns-clause-ok : goal.returns-clause-ok
returns-clause-ok c =
    on_ok c.put-2.result _ _
    (λ last.
    head_made c.args.at c.args.into.now.items c.put.new.into.items c.text.new.into.items c.put-2.new.into.items
    c.in_ok-put.ensures.ok c.in_ok-text.ensures.ok last) c.put-2.ensures.ok

pub returns-clause-kept : goal.returns-clause-kept
returns-clause-kept c =
    kept_on c.args.into.now.items c.text.new.into.items c.put-2.new.into.items
    (kept_on c.args.into.now.items c.put.new.into.items c.text.new.into.items c.put.ensures.kept
    (append_keeps c.put.new.into.items c.text.new.into.items (time_text c.args.at) c.in_ok-text.ensures.ok))
    c.put-2.ensures.kept

pub returns-in_err-text-clause-kept : goal.returns-in_err-text-clause-kept
returns-in_err-text-clause-kept c =
    let here = c.put.new.into.items in
    kept_on c.args.into.now.items here c.text.new.into.items c.put.ensures.kept
    (ap (take (length here)) c.in_err-text.ensures.err ∙ keeps_itself here)
