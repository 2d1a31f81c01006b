use Rattle.std.proofs.Common.{◌∙◌, ap, sym, map, is_some, codes}
use Rattle.std.specs.String.{string_bytes}
use Rattle.answer_model.specs.Options.{drawing_rows, draft_in}
use Rattle.asked_words.proofs.Matched.{draft_off, draft_on}
use Rattle.asked_words.proofs.read.drawlog_draft.Goals as goal

pub returns-in_default-clause-value : goal.returns-in_default-clause-value
returns-in_default-clause-value c =
    sym (draft_off (codes "drawlog") drawing_rows (map string_bytes c.args.words.now) (sym c.in_ok-matches.ensures.taken ∙ ap is_some c.in_default.is))

pub returns-clause-value : goal.returns-clause-value
returns-clause-value c =
    let e = rw c.in-Some.is at c.in_ok-matches.ensures in
    c.drawlog_draft_in.ensures.value ∙ ap (draft_in drawing_rows) e.rows ∙ sym (draft_on (codes "drawlog") drawing_rows (map string_bytes c.args.words.now) (sym e.taken))
