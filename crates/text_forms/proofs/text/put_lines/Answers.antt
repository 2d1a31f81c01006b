use Rattle.text_forms.proofs.Appended.{kept_on, letters_made, on_ok}
use Rattle.model_tree.specs.Tree.{leaves}
use Rattle.model_leaves.specs.Models.{tree_of}
use Rattle.text_forms.proofs.text.put_lines.Goals as goal

pub returns-in_err-put_letter-2-clause-kept : goal.returns-in_err-put_letter-2-clause-kept
returns-in_err-put_letter-2-clause-kept c =
    kept_on c.args.into.now.items c.put_letter.new.into.items c.put_letter-2.new.into.items
    c.put_letter.ensures.kept c.put_letter-2.ensures.kept

pub returns-in_err-put_letter-3-clause-kept : goal.returns-in_err-put_letter-3-clause-kept
returns-in_err-put_letter-3-clause-kept c =
    kept_on c.args.into.now.items c.put_letter-2.new.into.items c.put_letter-3.new.into.items
    (kept_on c.args.into.now.items c.put_letter.new.into.items c.put_letter-2.new.into.items
    c.put_letter.ensures.kept c.put_letter-2.ensures.kept) c.put_letter-3.ensures.kept

pub returns-clause-ok : goal.returns-clause-ok
returns-clause-ok c =
    on_ok c.put_letter-4.result _ _ (λ last settings.
    letters_made c.args.into.now.items c.put_letter.new.into.items c.put_letter-2.new.into.items
    c.put_letter-3.new.into.items c.put_letter-4.new.into.items
    (leaves (tree_of c.args.model.now settings)) c.args.letters.now c.args.records.now
    (c.in_ok-put_letter.ensures.ok settings)
    (c.in_ok-put_letter-2.ensures.ok settings)
    (c.in_ok-put_letter-3.ensures.ok settings)
    (last settings)) c.put_letter-4.ensures.ok

pub returns-clause-kept : goal.returns-clause-kept
returns-clause-kept c =
    kept_on c.args.into.now.items c.put_letter-3.new.into.items c.put_letter-4.new.into.items
    (kept_on c.args.into.now.items c.put_letter-2.new.into.items c.put_letter-3.new.into.items
    (kept_on c.args.into.now.items c.put_letter.new.into.items c.put_letter-2.new.into.items
    c.put_letter.ensures.kept c.put_letter-2.ensures.kept) c.put_letter-3.ensures.kept) c.put_letter-4.ensures.kept
