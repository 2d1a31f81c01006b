use Rattle.std.proofs.Common.{◌≡◌, ◌∷◌, [], ◌++◌, length, take}
use Rattle.std.specs.Prelude.{ℤ}
use Rattle.std.specs.Fmt.{signed_decimal}
use Rattle.std.specs.List.{flat_map}
use Rattle.state_lines.specs.Words.{spaced_words}
use Rattle.state_lines.proofs.words.put_words.Given as goal

abbrev pub invariant-loop-word : goal.invariant-loop-word
invariant-loop-word l = record {
  appended : l.into.items
      ≡ l.fn.into.items ++ flat_map (λ (x : ℤ). spaced_words (signed_decimal x ∷ []))
      (take l.word-index l.words);
  kept : take (length l.fn.into.items) l.into.items ≡ l.fn.into.items;
}
