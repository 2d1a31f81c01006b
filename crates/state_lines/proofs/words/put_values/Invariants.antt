use Rattle.std.proofs.Common.{◌≡◌, ◌∷◌, [], ◌++◌, length, take}
use Rattle.std.specs.List.{flat_map}
use Rattle.quantity.specs.declared.value.Value.{Value}
use Rattle.quantity.specs.ValueTexts.{text5}
use Rattle.state_lines.specs.Words.{spaced_words}
use Rattle.state_lines.proofs.words.put_values.Given as goal

abbrev pub invariant-loop-value : goal.invariant-loop-value
invariant-loop-value l = record {
  appended : l.into.items
      ≡ l.fn.into.items ++ flat_map (λ (x : Value). spaced_words (text5 x ∷ []))
      (take l.value-index l.values);
  kept : take (length l.fn.into.items) l.into.items ≡ l.fn.into.items;
}
