use Rattle.std.proofs.Common.{rules, tests}
use Rattle.std.specs.Prelude.{codes}
use Rattle.std.proofs.lemmas.Iterator.Consumers.{map_from_collect}
use Rattle.std.proofs.lemmas.Iterator.Splits.{YieldsList-from_slice_split}
use Rattle.rule_words.specs.Shown.{token_of}
use Rattle.rule_words.specs.Tokens.{is_mark}
use Rattle.rule_words.specs.declared.token.Token as T
use Rattle.rule_syntax.proofs.TokenParts.{parts_collected}
use Rattle.rule_syntax.proofs.assigned.parts.Goals as goal

pub returns : goal.returns
returns c =
    parts_collected (is_mark (codes ";")) c.args.tokens.now c.collect.result
    (map_from_collect _ c.collect.ensures.ran
    (YieldsList-from_slice_split _ (λ (t : T.Token). is_mark (codes ";") (token_of t)) c.args.tokens.now c.split.ensures.rest c.split.ensures.done c.split.ensures.closure (λ x r q k. search (rules, tests))))
