use Rattle.std.proofs.Common.{◌≡◌, ◌++◌, ◌≤◌, length}
use Rattle.rule_phrases.specs.Between.{behind_signs, sign_at, signs_before}
use Rattle.rule_words.specs.Shown.{level_of, tokens_of}
use Rattle.rule_phrases.proofs.between.signs_before.Given as goal

abbrev pub invariant-loop-rest : goal.invariant-loop-rest
invariant-loop-rest l =
    let sign = sign_at (level_of l.level) in
    record {
      signs : l.signs.items ++ signs_before sign (tokens_of l.rest) ≡ signs_before sign (tokens_of l.tokens);
      rest : behind_signs sign (tokens_of l.rest) ≡ behind_signs sign (tokens_of l.tokens);
      shorter : length l.rest ≤ length l.tokens;
    }

abbrev pub decreases-loop-rest : goal.decreases-loop-rest
decreases-loop-rest l = length l.rest
