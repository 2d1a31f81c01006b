use Rattle.std.proofs.Common.{slice_get, subst, sym}
use Rattle.model_tree.specs.Tree.{leaves}
use Rattle.model_leaves.specs.Models.{tree_of}
use Rattle.model_leaves.specs.Leaves.{IsLeafOf}
use Rattle.text_forms.specs.declared.records.SRecord.{SRecord}
use Rattle.text_forms.specs.RecordTexts.{text_at, s_text}
use Rattle.text_forms.proofs.Appended.{appended_at, keeps_itself, kept_on, none_yet, texts_all, texts_more}
use Rattle.text_forms.proofs.Starts.{nothing_begun}
use Rattle.text_forms.proofs.moved.put_moved.Goals as goal

pub loop-moved-preserved : goal.loop-moved-preserved
loop-moved-preserved c = record {
  right = c.in_ok-put_moved_line.ensures.right;
  letter = c.in_ok-put_moved_line.ensures.letter;
  appended = λ settings.
      texts_more (λ (r : SRecord). text_at (s_text r) (slice_get (leaves (tree_of c.args.model.now settings)) r.leaf))
      c.args.into.now.items c.loop-moved.into.items c.put_moved_line.new.into.items c.args.records.now c.loop-moved.moved-index c.moved-item.result c.loop-moved-test.true c.moved-item.is
      (c.loop-moved.invariant.appended settings)
      (appended_at c.args.model.now c.moved-item.result.leaf settings (s_text c.moved-item.result) c.loop-moved.into.items c.put_moved_line.new.into.items (subst (λ (r : SRecord). IsLeafOf c.args.model.now r.leaf) (sym c.moved-item.is) (c.requires c.loop-moved.moved-index c.moved-item.result c.loop-moved-test.true)) c.in_ok-put_moved_line.ensures.ok);
  kept = kept_on c.args.into.now.items c.loop-moved.into.items c.put_moved_line.new.into.items c.loop-moved.invariant.kept c.in_ok-put_moved_line.ensures.kept;
}

pub loop-moved-init : goal.loop-moved-init
loop-moved-init c = record {
  right = nothing_begun c.args.model.now c.new-start.result c.new-start.ensures.of;
  letter = c.new-start.ensures.letter;
  appended = λ settings. none_yet c.args.into.now.items;
  kept = keeps_itself c.args.into.now.items;
}

pub returns-in_err-put_moved_line-clause-kept : goal.returns-in_err-put_moved_line-clause-kept
returns-in_err-put_moved_line-clause-kept c =
    kept_on c.args.into.now.items c.loop-moved.into.items c.put_moved_line.new.into.items
    c.loop-moved.invariant.kept c.put_moved_line.ensures.kept

pub returns-clause-ok : goal.returns-clause-ok
returns-clause-ok c = λ settings.
    texts_all
    (λ (r : SRecord). text_at (s_text r) (slice_get (leaves (tree_of c.args.model.now settings)) r.leaf))
    c.args.into.now.items c.loop-moved.into.items c.args.records.now c.loop-moved.moved-index
    c.loop-moved-test.false (c.loop-moved.invariant.appended settings)
