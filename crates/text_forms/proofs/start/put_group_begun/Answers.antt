use Rattle.text_forms.proofs.Appended.{kept_on, on_ok}
use Rattle.text_forms.proofs.Starts.{begun_named, then_more}
use Rattle.text_forms.specs.Begun.{line_front}
use Rattle.std.proofs.Common.{sym}
use Rattle.text_forms.proofs.start.put_group_begun.Goals as goal

pub returns-in_err-put-clause-kept : goal.returns-in_err-put-clause-kept
returns-in_err-put-clause-kept c =
    kept_on c.args.into.now.items c.put_begun.new.into.items c.put.new.into.items
    c.in_ok-put_begun.ensures.kept c.put.ensures.kept

pub returns-clause-ok : goal.returns-clause-ok
returns-clause-ok c =
    on_ok c.put-2.result _ _ (λ last.
    begun_named c.args.into.now.items (line_front c.args.letter c.args.time) c.args.name.now
    c.put_begun.new.into.items c.put.new.into.items c.put-2.new.into.items
    c.in_ok-put_begun.ensures.ok
    (then_more c.put_begun.new.into.items c.put.new.into.items c.args.name.now
    c.as_bytes.result.now c.in_ok-put.ensures.ok (sym c.as_bytes.ensures.bytes))
    last) c.put-2.ensures.ok

pub returns-clause-kept : goal.returns-clause-kept
returns-clause-kept c =
    kept_on c.args.into.now.items c.put.new.into.items c.put-2.new.into.items
    (kept_on c.args.into.now.items c.put_begun.new.into.items c.put.new.into.items
    c.in_ok-put_begun.ensures.kept c.in_ok-put.ensures.kept) c.put-2.ensures.kept
