use Rattle.std.proofs.Common.{◌≡◌, ◌++◌, length, take}
use Rattle.model_tree.specs.Tree.{leaves}
use Rattle.model_leaves.specs.Leaves.{OfTree}
use Rattle.text_forms.specs.declared.letter.Letter.TheVariants.{X}
use Rattle.text_forms.specs.Begun.{IsStart}
use Rattle.text_forms.specs.RecordTexts.{x_texts}
use Rattle.text_forms.proofs.given.put_reached.Given as goal

abbrev pub invariant-loop-reached : goal.invariant-loop-reached
invariant-loop-reached l = record {
  right : IsStart l.model l.start;
  letter : l.start.letter ≡ X;
  appended : OfTree l.model (λ tree. l.into.items
      ≡ l.fn.into.items ++ x_texts (leaves tree) (take l.reached-index l.records));
  kept : take (length l.fn.into.items) l.into.items ≡ l.fn.into.items;
}
