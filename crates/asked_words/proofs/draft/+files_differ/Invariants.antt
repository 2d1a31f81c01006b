use Rattle.std.proofs.Common.{length}
use Rattle.asked_words.proofs.draft.+files_differ.Given as goal

abbrev pub decreases-files_differ : goal.decreases-files_differ
decreases-files_differ l = length l.options.now
