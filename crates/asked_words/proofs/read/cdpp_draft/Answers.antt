use Rattle.std.proofs.Common.{◌∙◌, ap, sym, map, is_some, codes}
use Rattle.std.specs.String.{string_bytes}
use Rattle.answer_model.specs.Options.{built_rows, draft_in}
use Rattle.asked_words.proofs.Matched.{draft_off, draft_on}
use Rattle.asked_words.proofs.read.cdpp_draft.Goals as goal

pub returns-in_default-clause-value : goal.returns-in_default-clause-value
returns-in_default-clause-value c =
    sym (draft_off (codes "cdpp") built_rows (map string_bytes c.args.words.now) (sym c.in_ok-matches.ensures.taken ∙ ap is_some c.in_default.is))

pub returns-clause-value : goal.returns-clause-value
returns-clause-value c =
    let e = rw c.in-Some.is at c.in_ok-matches.ensures in
    c.cdpp_draft_in.ensures.value ∙ ap (draft_in built_rows) e.rows ∙ sym (draft_on (codes "cdpp") built_rows (map string_bytes c.args.words.now) (sym e.taken))
