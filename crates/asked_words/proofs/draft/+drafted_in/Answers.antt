use Rattle.std.proofs.Common.{◌≤◌, ◌∙◌, Some, None, length, arith}
use Rattle.clap.specs.Words.{rows_of, found_of}
use Rattle.asked_words.specs.Drafts.{draft_of}
use Rattle.asked_words.proofs.Matched.{value_is}
use Rattle.asked_words.proofs.Tables.{one_before}
use Rattle.asked_words.proofs.draft.+drafted_in.Goals as goal

pub returns-in-None-clause-value : goal.returns-in-None-clause-value
returns-in-None-clause-value t c =
    let f = found_of c.args.matches.now in
    let some : 1 ≤ length c.args.options.now = omega (arith, c.in-len1-up.len_at_least) in
    one_before c.args.options.now _ (rows_of f) None (draft_of c.in-Some.draft) some (c.in-None.ensures ∙ value_is f _) c.in-Some.ensures.value

pub returns-in-Some-get_str-clause-value : goal.returns-in-Some-get_str-clause-value
returns-in-Some-get_str-clause-value t c =
    let f = found_of c.args.matches.now in
    let some : 1 ≤ length c.args.options.now = omega (arith, c.in-len1-up.len_at_least) in
    c.with.ensures.value
    ∙ one_before c.args.options.now _ (rows_of f) (Some c.in-Some-get_str.text.now) (draft_of c.in-Some.draft) some (c.in-Some-get_str.ensures ∙ value_is f _) c.in-Some.ensures.value
