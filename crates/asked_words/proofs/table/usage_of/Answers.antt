use Rattle.std.proofs.Common.{◌++◌, codes}
use Rattle.asked_words.proofs.Tables.{one_shown, all_shown}
use Rattle.asked_words.proofs.table.usage_of.Goals as goal
