use Rattle.std.proofs.Common.{◌≡◌, ◌++◌, length, take, ℕ}
use Rattle.std.specs.List.{flat_map}
use Rattle.quantity.specs.declared.value.Value.{Value}
use Rattle.text_forms.specs.StateText.{pair_words}
use Rattle.state_lines.specs.Words.{spaced_words}
use Rattle.state_lines.proofs.words.put_pairs.Given as goal

abbrev pub invariant-loop-pair : goal.invariant-loop-pair
invariant-loop-pair l = record {
  appended : l.into.items
      ≡ l.fn.into.items ++ flat_map (λ (x : ℕ × Value). spaced_words (pair_words x))
      (take l.pair-index l.pairs);
  kept : take (length l.fn.into.items) l.into.items ≡ l.fn.into.items;
}
