use Rattle.std.proofs.Common.{◌≡◌, ◌≤◌, drop}
use Rattle.std.specs.Prelude.{max}
use Rattle.rule_words.specs.Shown.{tokens_of}
use Rattle.rule_words.specs.Tokens.{deepest}
use Rattle.rule_words.proofs.tokens.most_open.Given as goal

abbrev pub invariant-loop-token : goal.invariant-loop-token
invariant-loop-token l =
    record {
      value : max l.most (deepest l.opened (tokens_of (drop l.token-index l.tokens))) ≡ deepest 0 (tokens_of l.tokens);
      least : l.opened ≤ l.most;
      bound : l.opened ≤ l.token-index;
    }
