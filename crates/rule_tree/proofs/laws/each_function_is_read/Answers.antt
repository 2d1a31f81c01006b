use Rattle.rule_tree.proofs.Words.{each_is_read}
use Rattle.rule_tree.proofs.laws.each_function_is_read.Goals as goal

pub returns : goal.returns
returns c = each_is_read
