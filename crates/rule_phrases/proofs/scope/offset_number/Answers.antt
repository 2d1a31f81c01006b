use Rattle.std.proofs.Common.{◌∙◌}
use Rattle.rule_phrases.proofs.Places.{small_position}
use Rattle.rule_words.specs.Shown.{cell_of}
use Rattle.rule_tree.specs.Scope.{same_offset, offset_of}
use Rattle.rule_phrases.proofs.scope.offset_number.Goals as goal

pub small-requires : goal.small-requires
small-requires c =
    small_position (same_offset (offset_of (cell_of c.args.cell.now).place)) c.args.names.now.offsets.items _ (rw c.deref.ensures.value at c.place_at.ensures) c.args.names.now.few.offsets

pub returns : goal.returns
returns c = c.small.ensures ∙ (rw c.deref.ensures.value at c.place_at.ensures)
