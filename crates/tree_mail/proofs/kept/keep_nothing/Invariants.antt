use Rattle.std.proofs.Common.{◌≡◌, ◌++◌, map, drop}
use Rattle.tree_mail.specs.Notes.{notes_of, fresh_note}
use Rattle.tree_mail.proofs.kept.keep_nothing.Given as goal

abbrev pub invariant-loop-entry : goal.invariant-loop-entry
invariant-loop-entry l =
    notes_of l.kept.items ++ map fresh_note (drop l.entry-index l.entries) ≡ map fresh_note l.entries
