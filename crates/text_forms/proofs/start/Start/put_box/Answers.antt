use Rattle.std.proofs.Common.{◌++◌, ◌∙◌, ap}
use Rattle.quantity.specs.Bytes.{Bytes}
use Rattle.text_forms.specs.Begun.{head_text}
use Rattle.text_forms.proofs.Appended.{head_made, kept_on, on_ok}
use Rattle.text_forms.proofs.Starts.{box_line}
use Rattle.text_forms.proofs.start.Start.put_box.Goals as goal

pub returns-in_err-put_leaf-clause-right : goal.returns-in_err-put_leaf-clause-right
returns-in_err-put_leaf-clause-right c = c.begin_box.ensures.right c.args.model.now c.requires.right

pub returns-in_err-put_leaf-clause-kept : goal.returns-in_err-put_leaf-clause-kept
returns-in_err-put_leaf-clause-kept c =
    kept_on c.args.into.now.items c.begin_box.new.into.items c.put_leaf.new.into.items
    c.begin_box.ensures.kept c.put_leaf.ensures.kept

pub returns-in_err-put-clause-right : goal.returns-in_err-put-clause-right
returns-in_err-put-clause-right c = c.begin_box.ensures.right c.args.model.now c.requires.right

pub returns-in_err-put-clause-kept : goal.returns-in_err-put-clause-kept
returns-in_err-put-clause-kept c =
    kept_on c.args.into.now.items c.put_leaf.new.into.items c.put.new.into.items
    (kept_on c.args.into.now.items c.begin_box.new.into.items c.put_leaf.new.into.items
    c.begin_box.ensures.kept c.put_leaf.ensures.kept) c.put.ensures.kept

pub returns-clause-right : goal.returns-clause-right
returns-clause-right c = c.begin_box.ensures.right c.args.model.now c.requires.right

pub returns-clause-ok : goal.returns-clause-ok
returns-clause-ok c =
    on_ok c.put-2.result _ _ (λ last settings l e.
    box_line c.args.into.now.items c.put.new.into.items c.put-2.new.into.items (head_text c.args.self.now.letter c.args.time l) c.args.tail.now
    (head_made c.args.into.now.items c.args.self.now.letter c.args.time l c.begin_box.new.into.items c.put_leaf.new.into.items c.put.new.into.items
    (c.in_ok-begin_box.ensures.ok c.args.model.now c.requires.right) (c.in_ok-put_leaf.ensures.ok settings l e) c.in_ok-put.ensures.ok)
    (last ∙ ap (λ (x : Bytes). c.put.new.into.items ++ x) c.as_bytes.ensures)) c.put-2.ensures.ok

pub returns-clause-kept : goal.returns-clause-kept
returns-clause-kept c =
    kept_on c.args.into.now.items c.put.new.into.items c.put-2.new.into.items
    (kept_on c.args.into.now.items c.put_leaf.new.into.items c.put.new.into.items
    (kept_on c.args.into.now.items c.begin_box.new.into.items c.put_leaf.new.into.items
    c.begin_box.ensures.kept c.put_leaf.ensures.kept) c.put.ensures.kept) c.put-2.ensures.kept
