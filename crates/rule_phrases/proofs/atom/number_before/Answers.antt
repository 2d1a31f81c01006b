use Rattle.std.proofs.Common.{◌∙◌, None, Some, ap}
use Rattle.rule_tree.specs.Phrases as P
use Rattle.rule_words.specs.Shown.{tokens_of}
use Rattle.rule_phrases.proofs.Numbers.{behind_minus, behind_nothing, behind_plus}
use Rattle.rule_phrases.proofs.atom.number_before.Goals as goal

pub returns-in_default-unsigned_before : goal.returns-in_default-unsigned_before
returns-in_default-unsigned_before c = behind_minus (tokens_of c.args.tokens.now) (tokens_of c.in-Some.behind.now) None c.in-Some.ensures.rest c.in_default-unsigned_before.ensures

pub returns-in-Some : goal.returns-in-Some
returns-in-Some c =
    ap (λ v. Some (P.value v, tokens_of c.in-Some-unsigned_before.rest.now)) c.neg.ensures
    ∙ behind_minus (tokens_of c.args.tokens.now) (tokens_of c.in-Some.behind.now) (Some (c.in-Some-unsigned_before.value, tokens_of c.in-Some-unsigned_before.rest.now)) c.in-Some.ensures.rest c.in-Some-unsigned_before.ensures

pub returns-in-Some-after_mark : goal.returns-in-Some-after_mark
returns-in-Some-after_mark c =
    behind_plus (tokens_of c.args.tokens.now) (tokens_of c.in-Some-after_mark.behind.now) c.unsigned_before-in-Some-after_mark.result c.in-Some-after_mark.ensures.rest c.unsigned_before-in-Some-after_mark.ensures

pub returns-in-None : goal.returns-in-None
returns-in-None c = behind_nothing (tokens_of c.args.tokens.now) c.unsigned_before-in-None.result c.in_default.ensures.rest c.in-None.ensures.rest c.unsigned_before-in-None.ensures
