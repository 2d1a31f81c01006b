use Rattle.std.proofs.Common.{length}
use Rattle.asked_words.proofs.draft.+drafted_in.Given as goal

abbrev pub decreases-drafted_in : goal.decreases-drafted_in
decreases-drafted_in l = length l.options.now
