use Rattle.std.proofs.Common.{slice_get, subst, sym, ◌∙◌}
use Rattle.text_forms.specs.declared.letter.Letter.{Letter}
use Rattle.model_tree.specs.Tree.{leaves}
use Rattle.model_leaves.specs.Models.{tree_of}
use Rattle.model_leaves.specs.Leaves.{Appends, IsLeafOf}
use Rattle.text_forms.specs.declared.records.YRecord.{YRecord}
use Rattle.text_forms.specs.RecordTexts.{text_at, y_text}
use Rattle.text_forms.proofs.Appended.{appended_at, keeps_itself, kept_on, none_yet, texts_all, texts_more}
use Rattle.text_forms.proofs.Starts.{nothing_begun}
use Rattle.text_forms.proofs.given.put_given.Goals as goal

pub loop-given-preserved : goal.loop-given-preserved
loop-given-preserved c = record {
  right = c.in_ok-put_given_line.ensures.right;
  letter = c.in_ok-put_given_line.ensures.letter ∙ c.loop-given.invariant.letter;
  appended = λ settings.
      let model = c.args.model.now in
      let record_here = c.given-item.result in
      let before = c.loop-given.into.items in
      let after = c.put_given_line.new.into.items in
      let there = c.requires c.loop-given.given-index record_here c.loop-given-test.true in
      texts_more
      (λ (r : YRecord). text_at (y_text c.args.letter r)
      (slice_get (leaves (tree_of model settings)) r.leaf))
      c.args.into.now.items before after c.args.records.now c.loop-given.given-index record_here
      c.loop-given-test.true c.given-item.is (c.loop-given.invariant.appended settings)
      (appended_at model record_here.leaf settings (y_text c.args.letter record_here) before after
      (subst (λ (r : YRecord). IsLeafOf model r.leaf) (sym c.given-item.is) there.leaf_there)
      (subst (λ (n : Letter). Appends model record_here.leaf (y_text n record_here) before after)
      c.loop-given.invariant.letter c.in_ok-put_given_line.ensures.ok));
  kept =
      kept_on c.args.into.now.items c.loop-given.into.items c.put_given_line.new.into.items
      c.loop-given.invariant.kept c.in_ok-put_given_line.ensures.kept;
}

pub loop-given-init : goal.loop-given-init
loop-given-init c = record {
  right = nothing_begun c.args.model.now c.new-start.result c.new-start.ensures.of;
  letter = c.new-start.ensures.letter;
  appended = λ settings. none_yet c.args.into.now.items;
  kept = keeps_itself c.args.into.now.items;
}

pub returns-in_err-put_given_line-clause-kept : goal.returns-in_err-put_given_line-clause-kept
returns-in_err-put_given_line-clause-kept c =
    kept_on c.args.into.now.items c.loop-given.into.items c.put_given_line.new.into.items
    c.loop-given.invariant.kept c.put_given_line.ensures.kept

pub returns-clause-ok : goal.returns-clause-ok
returns-clause-ok c = λ settings.
    texts_all
    (λ (r : YRecord). text_at (y_text c.args.letter r) (slice_get (leaves (tree_of c.args.model.now settings)) r.leaf))
    c.args.into.now.items c.loop-given.into.items c.args.records.now c.loop-given.given-index
    c.loop-given-test.false (c.loop-given.invariant.appended settings)
