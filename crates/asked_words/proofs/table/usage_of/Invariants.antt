use Rattle.std.proofs.Common.{◌≡◌, ◌++◌, take, codes}
use Rattle.asked_words.proofs.Tables.{shown}
use Rattle.asked_words.proofs.table.usage_of.Given as goal

abbrev pub invariant-loop-option : goal.invariant-loop-option
invariant-loop-option l = l.line.items ≡ (codes "usage: " ++ l.name) ++ shown (take l.option-index l.options)
