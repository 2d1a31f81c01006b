use Rattle.std.proofs.Common.{◌∙◌, sym}
use Rattle.clap.specs.Words.{rows_of, found_of}
use Rattle.answer_model.specs.Options.{drawing_rows}
use Rattle.asked_words.proofs.Tables.{drafted_rows, rows_draft}
use Rattle.asked_words.proofs.Matched.{same_names, names_differ}
use Rattle.asked_words.proofs.read.drawlog_draft_in.Goals as goal

pub returns-then-files_differ-clause-value : goal.returns-then-files_differ-clause-value
unfolding drafted_rows
returns-then-files_differ-clause-value c =
    c.drafted_in.ensures.value ∙ rows_draft _ (rows_of (found_of c.args.matches.now)) ∙ sym (names_differ drawing_rows (rows_of (found_of c.args.matches.now)) (sym c.files_differ.ensures ∙ c.if-files_differ.true))

pub returns-else-files_differ-clause-value : goal.returns-else-files_differ-clause-value
returns-else-files_differ-clause-value c =
    sym (same_names drawing_rows (rows_of (found_of c.args.matches.now)) (sym c.files_differ.ensures ∙ c.if-files_differ.false))
