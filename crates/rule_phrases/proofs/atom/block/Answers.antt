use Rattle.std.proofs.Common.{rules}
use Rattle.rule_words.specs.Shown.{text_of, tokens_of}
use Rattle.rule_phrases.proofs.Placed.{block_by_place, no_block}
use Rattle.rule_phrases.proofs.atom.block.Goals as goal

pub returns-in_err-at-clause-parts : goal.returns-in_err-at-clause-parts
returns-in_err-at-clause-parts c =
    search (rules, no_block (text_of c.args.opening) (text_of c.args.closing) (tokens_of c.args.tokens.now) c.in_ok-rest.rest.now c.in_ok-rest.ensures.rest c.in_err-at.ensures.place)

pub returns-clause-parts : goal.returns-clause-parts
returns-clause-parts c =
    block_by_place (text_of c.args.opening) (text_of c.args.closing) (tokens_of c.args.tokens.now) c.in_ok-rest.rest.now c.in_ok-at.at c.in_ok-rest.ensures.rest c.in_ok-at.ensures.place
