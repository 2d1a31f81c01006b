use Rattle.std.proofs.Common.{◌≡◌, ◌++◌, length}
use Rattle.std.specs.List.{slice_split}
use Rattle.std.specs.Option.{option_map}
use Rattle.quantity.specs.Bytes.{is_byte}
use Rattle.source_text.specs.Shown.{texts}
use Rattle.source_text.specs.Tuples.{closed_parts}
use Rattle.source_text.proofs.tuples.parts.Given as goal

abbrev pub invariant-loop-part : goal.invariant-loop-part
invariant-loop-part l =
    option_map (λ list. texts l.found.items ++ list) (closed_parts (slice_split (is_byte 41) l.rest)) ≡ closed_parts (slice_split (is_byte 41) l.text)

abbrev pub decreases-loop-part : goal.decreases-loop-part
decreases-loop-part l = length l.rest
