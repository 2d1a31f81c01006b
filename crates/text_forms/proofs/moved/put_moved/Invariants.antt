use Rattle.std.proofs.Common.{◌≡◌, ◌++◌, length, take}
use Rattle.model_tree.specs.Tree.{leaves}
use Rattle.model_leaves.specs.Leaves.{OfTree}
use Rattle.text_forms.specs.declared.letter.Letter.TheVariants.{S}
use Rattle.text_forms.specs.Begun.{IsStart}
use Rattle.text_forms.specs.RecordTexts.{s_texts}
use Rattle.text_forms.proofs.moved.put_moved.Given as goal

abbrev pub invariant-loop-moved : goal.invariant-loop-moved
invariant-loop-moved l = record {
  right : IsStart l.model l.start;
  letter : l.start.letter ≡ S;
  appended : OfTree l.model (λ tree. l.into.items
      ≡ l.fn.into.items ++ s_texts (leaves tree) (take l.moved-index l.records));
  kept : take (length l.fn.into.items) l.into.items ≡ l.fn.into.items;
}
