use Rattle.std.proofs.Common.{◌≡◌, ◌++◌, ◌∷◌, length}
use Rattle.std.specs.List.{flat_map, slice_split}
use Rattle.quantity.specs.ByteNames.{opening_parenthesis}
use Rattle.quantity.specs.Bytes.{is_byte}
use Rattle.model_text.specs.Forms.{with_whole_tuple}
use Rattle.model_walk.proofs.link.add_tuples.Given as goal

abbrev pub invariant-loop-part : goal.invariant-loop-part
invariant-loop-part l =
    l.whole.items ++ flat_map (λ q. opening_parenthesis ∷ with_whole_tuple q) (slice_split (is_byte opening_parenthesis) l.rest)
    ≡ l.fn.whole.items ++ flat_map (λ q. opening_parenthesis ∷ with_whole_tuple q) (slice_split (is_byte opening_parenthesis) l.text)

abbrev pub decreases-loop-part : goal.decreases-loop-part
decreases-loop-part l = length l.rest
