use Rattle.std.proofs.Common.{◌∙◌, sym}
use Rattle.clap.specs.Words.{rows_of, found_of}
use Rattle.answer_model.specs.Options.{built_rows}
use Rattle.asked_words.proofs.Tables.{drafted_rows, rows_draft}
use Rattle.asked_words.proofs.Drafted.{made_of}
use Rattle.asked_words.proofs.Matched.{same_names, names_differ}
use Rattle.asked_words.proofs.read.cdpp_draft_in.Goals as goal

pub returns-then-files_differ-clause-value : goal.returns-then-files_differ-clause-value
unfolding drafted_rows
returns-then-files_differ-clause-value c =
    c.drafted_in.ensures.value ∙ rows_draft _ (rows_of (found_of c.args.matches.now)) ∙ sym (names_differ built_rows (rows_of (found_of c.args.matches.now)) (sym c.files_differ.ensures ∙ c.if-files_differ.true))

pub returns-else-files_differ-clause-value : goal.returns-else-files_differ-clause-value
returns-else-files_differ-clause-value c =
    sym (same_names built_rows (rows_of (found_of c.args.matches.now)) (sym c.files_differ.ensures ∙ c.if-files_differ.false))

pub returns-then-files_differ-clause-made : goal.returns-then-files_differ-clause-made
unfolding drafted_rows
returns-then-files_differ-clause-made c =
    made_of (rows_of (found_of c.args.matches.now)) c.drafted_in.result (c.drafted_in.ensures.value ∙ rows_draft _ (rows_of (found_of c.args.matches.now))) (sym c.files_differ.ensures ∙ c.if-files_differ.true)
