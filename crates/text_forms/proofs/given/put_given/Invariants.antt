use Rattle.std.proofs.Common.{◌≡◌, ◌++◌, length, take}
use Rattle.model_tree.specs.Tree.{leaves}
use Rattle.model_leaves.specs.Leaves.{OfTree}
use Rattle.text_forms.specs.Begun.{IsStart}
use Rattle.text_forms.specs.RecordTexts.{y_texts}
use Rattle.text_forms.proofs.given.put_given.Given as goal

abbrev pub invariant-loop-given : goal.invariant-loop-given
invariant-loop-given l = record {
  right : IsStart l.model l.start;
  letter : l.start.letter ≡ l.fn.letter;
  appended : OfTree l.model (λ tree. l.into.items
      ≡ l.fn.into.items ++ y_texts l.fn.letter (leaves tree) (take l.given-index l.records));
  kept : take (length l.fn.into.items) l.into.items ≡ l.fn.into.items;
}
