use Rattle.text_forms.proofs.Appended.{append_keeps, kept_more, kept_on, kept_same, on_ok, out_made}
use Rattle.text_forms.proofs.Starts.{then_more}
use Rattle.std.proofs.Common.{sym}
use Rattle.quantity.specs.Times.{time_text}
use Rattle.quantity.specs.ValueTexts.{text5}
use Rattle.model_leaves.specs.LeafTexts.{name_at}
use Rattle.text_forms.proofs.output.put_output.Goals as goal

pub returns-in_err-put-clause-kept : goal.returns-in_err-put-clause-kept
returns-in_err-put-clause-kept c =
    kept_on c.args.into.now.items c.text.new.into.items c.put.new.into.items
    (append_keeps c.args.into.now.items c.text.new.into.items _ c.in_ok-text.ensures.ok) c.put.ensures.kept

pub returns-in_err-put-2-clause-kept : goal.returns-in_err-put-2-clause-kept
returns-in_err-put-2-clause-kept c =
    kept_on c.args.into.now.items c.put.new.into.items c.put-2.new.into.items
    (kept_on c.args.into.now.items c.text.new.into.items c.put.new.into.items
    (append_keeps c.args.into.now.items c.text.new.into.items _ c.in_ok-text.ensures.ok) c.put.ensures.kept) c.put-2.ensures.kept

pub returns-in_err-put-3-clause-kept : goal.returns-in_err-put-3-clause-kept
returns-in_err-put-3-clause-kept c =
    kept_on c.args.into.now.items c.put-2.new.into.items c.put-3.new.into.items
    (kept_on c.args.into.now.items c.put.new.into.items c.put-2.new.into.items
    (kept_on c.args.into.now.items c.text.new.into.items c.put.new.into.items
    (append_keeps c.args.into.now.items c.text.new.into.items _ c.in_ok-text.ensures.ok) c.put.ensures.kept) c.put-2.ensures.kept) c.put-3.ensures.kept

pub returns-in_err-text5-clause-kept : goal.returns-in_err-text5-clause-kept
returns-in_err-text5-clause-kept c =
    kept_same c.args.into.now.items c.put-3.new.into.items c.text5.new.into.items
    (kept_on c.args.into.now.items c.put-2.new.into.items c.put-3.new.into.items
    (kept_on c.args.into.now.items c.put.new.into.items c.put-2.new.into.items
    (kept_on c.args.into.now.items c.text.new.into.items c.put.new.into.items
    (append_keeps c.args.into.now.items c.text.new.into.items _ c.in_ok-text.ensures.ok) c.put.ensures.kept) c.put-2.ensures.kept) c.put-3.ensures.kept) c.in_err-text5.ensures.err

pub returns-clause-ok : goal.returns-clause-ok
returns-clause-ok c =
    on_ok c.put-4.result _ _ (λ last.
    out_made c.args.into.now.items (time_text c.args.output.now.time) (name_at c.args.names.now c.args.output.now.port)
    (text5 c.args.output.now.value) c.text.new.into.items c.put.new.into.items
    c.put-2.new.into.items c.put-3.new.into.items c.text5.new.into.items c.put-4.new.into.items
    c.in_ok-text.ensures.ok c.in_ok-put.ensures.ok
    (then_more c.put.new.into.items c.put-2.new.into.items _ _ c.in_ok-put-2.ensures.ok
    (sym c.name_at.ensures)) c.in_ok-put-3.ensures.ok
    (rw c.get.ensures at c.in_ok-text5.ensures.ok) last) c.put-4.ensures.ok

pub returns-clause-kept : goal.returns-clause-kept
returns-clause-kept c =
    kept_on c.args.into.now.items c.text5.new.into.items c.put-4.new.into.items
    (kept_more c.args.into.now.items c.put-3.new.into.items c.text5.new.into.items _
    (kept_on c.args.into.now.items c.put-2.new.into.items c.put-3.new.into.items
    (kept_on c.args.into.now.items c.put.new.into.items c.put-2.new.into.items
    (kept_on c.args.into.now.items c.text.new.into.items c.put.new.into.items
    (append_keeps c.args.into.now.items c.text.new.into.items _ c.in_ok-text.ensures.ok) c.put.ensures.kept) c.put-2.ensures.kept) c.put-3.ensures.kept) c.in_ok-text5.ensures.ok) c.put-4.ensures.kept
