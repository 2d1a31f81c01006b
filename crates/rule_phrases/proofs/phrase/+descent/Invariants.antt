use Rattle.std.proofs.Common.{ℕ, ◌+◌, ◌*◌, ◌<◌, ◌≤◌, length}
use Rattle.rule_tree.specs.Phrases.{expr}
use Rattle.rule_words.specs.Descent.{at_level, list_before, expression_reader}
use Rattle.rule_phrases.specs.Between.{operands_before}
use Rattle.rule_words.specs.Shown.{level_of, names_of, tokens_of}
use Rattle.rule_phrases.proofs.Operands.{Joining}
use Rattle.rule_phrases.proofs.Listed.{Listing}
use Rattle.rule_phrases.proofs.Primaries.{looseness}
use Rattle.rule_phrases.proofs.phrase.+descent.Given as goal

abbrev pub decreases-front : goal.decreases-front
decreases-front l = 20 * length l.tokens.now + 2 * looseness l.level + 1

abbrev pub decreases-operands : goal.decreases-operands
decreases-operands l = 20 * length l.tokens.now + 2 * looseness l.operand + 2

abbrev pub decreases-prefixed : goal.decreases-prefixed
decreases-prefixed l = 20 * length l.tokens.now + 2 * looseness l.operand + 2

abbrev pub decreases-primary : goal.decreases-primary
decreases-primary l = 20 * length l.tokens.now

abbrev pub decreases-enclosed : goal.decreases-enclosed
decreases-enclosed l = 20 * length l.tokens.now + 18

abbrev pub decreases-call : goal.decreases-call
decreases-call l = 20 * length l.tokens.now + 19

abbrev pub decreases-arguments : goal.decreases-arguments
decreases-arguments l = 20 * length l.tokens.now + 18

abbrev pub invariant-operands-operators : goal.invariant-operands-operators
invariant-operands-operators l = record {
  shorter : length l.rest < length l.fn.tokens;
  read : (n : ℕ) → length l.fn.tokens ≤ n → Joining (names_of l.names) (at_level (expression_reader n) (level_of l.operand)) (level_of l.level) l.most l.counter (operands_before (level_of l.level) (at_level (expression_reader n) (level_of l.operand)) (tokens_of l.fn.tokens)) l.term (tokens_of l.rest);
}

abbrev pub invariant-arguments-commas : goal.invariant-arguments-commas
invariant-arguments-commas l = record {
  shorter : length l.rest < length l.fn.tokens;
  read : (n : ℕ) → length l.fn.tokens ≤ n → Listing (names_of l.names) (at_level (expression_reader n) expr) (list_before (at_level (expression_reader n) expr) (tokens_of l.fn.tokens)) l.terms.items (tokens_of l.rest);
}

abbrev pub decreases-arguments-commas : goal.decreases-arguments-commas
decreases-arguments-commas l = length l.rest
