use Rattle.std.proofs.Common.{slice_get, subst, sym}
use Rattle.model_tree.specs.Tree.{leaves}
use Rattle.model_leaves.specs.Models.{tree_of}
use Rattle.model_leaves.specs.Leaves.{IsLeafOf}
use Rattle.text_forms.specs.declared.records.XRecord.{XRecord}
use Rattle.text_forms.specs.RecordTexts.{text_at, x_text}
use Rattle.text_forms.proofs.Appended.{appended_at, keeps_itself, kept_on, none_yet, texts_all, texts_more}
use Rattle.text_forms.proofs.Starts.{nothing_begun}
use Rattle.text_forms.proofs.given.put_reached.Goals as goal

pub loop-reached-preserved : goal.loop-reached-preserved
loop-reached-preserved c = record {
  right = c.in_ok-put_reached_line.ensures.right;
  letter = c.in_ok-put_reached_line.ensures.letter;
  appended = λ settings.
      texts_more (λ (r : XRecord). text_at (x_text r)
      (slice_get (leaves (tree_of c.args.model.now settings)) r.leaf))
      c.args.into.now.items c.loop-reached.into.items c.put_reached_line.new.into.items
      c.args.records.now c.loop-reached.reached-index c.reached-item.result c.loop-reached-test.true
      c.reached-item.is
      (c.loop-reached.invariant.appended settings)
      (appended_at c.args.model.now c.reached-item.result.leaf settings
      (x_text c.reached-item.result) c.loop-reached.into.items c.put_reached_line.new.into.items
      (subst (λ (r : XRecord). IsLeafOf c.args.model.now r.leaf) (sym c.reached-item.is)
      (c.requires c.loop-reached.reached-index c.reached-item.result
      c.loop-reached-test.true).leaf_there) c.in_ok-put_reached_line.ensures.ok);
  kept =
      kept_on c.args.into.now.items c.loop-reached.into.items c.put_reached_line.new.into.items
      c.loop-reached.invariant.kept c.in_ok-put_reached_line.ensures.kept;
}

pub loop-reached-init : goal.loop-reached-init
loop-reached-init c = record {
  right = nothing_begun c.args.model.now c.new-start.result c.new-start.ensures.of;
  letter = c.new-start.ensures.letter;
  appended = λ settings. none_yet c.args.into.now.items;
  kept = keeps_itself c.args.into.now.items;
}

pub returns-in_err-put_reached_line-clause-kept : goal.returns-in_err-put_reached_line-clause-kept
returns-in_err-put_reached_line-clause-kept c =
    kept_on c.args.into.now.items c.loop-reached.into.items c.put_reached_line.new.into.items
    c.loop-reached.invariant.kept c.put_reached_line.ensures.kept

pub returns-clause-ok : goal.returns-clause-ok
returns-clause-ok c = λ settings.
    texts_all
    (λ (r : XRecord). text_at (x_text r) (slice_get (leaves (tree_of c.args.model.now settings)) r.leaf))
    c.args.into.now.items c.loop-reached.into.items c.args.records.now c.loop-reached.reached-index
    c.loop-reached-test.false (c.loop-reached.invariant.appended settings)
