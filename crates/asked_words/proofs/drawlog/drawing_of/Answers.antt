use Rattle.std.proofs.Common.{◌∙◌, sym, ap}
use Rattle.asked_words.specs.Drafts.{text_of_name, draft_of}
use Rattle.asked_words.proofs.Drawing.{no_log, no_group, no_space, all_there}
use Rattle.asked_words.proofs.drawlog.drawing_of.Goals as goal

pub returns-in_default-clause-value : goal.returns-in_default-clause-value
returns-in_default-clause-value c =
    sym (no_log (draft_of c.args.draft.now) (ap text_of_name c.in_default.is))

pub returns-in_default-2-clause-value : goal.returns-in_default-2-clause-value
returns-in_default-2-clause-value c =
    let none = rw c.in_default-2.is at c.in_ok-group.ensures in
    sym (no_group (draft_of c.args.draft.now) c.in-Some.log.now (ap text_of_name c.in-Some.is) (sym none))

pub returns-in_default-3-clause-value : goal.returns-in_default-3-clause-value
returns-in_default-3-clause-value c =
    let group = rw c.in-Some-2.is at c.in_ok-group.ensures in
    let none = rw c.in_default-3.is at c.in_ok-space.ensures in
    sym (no_space (draft_of c.args.draft.now) c.in-Some.log.now c.in-Some-2.group (ap text_of_name c.in-Some.is) (sym group) (sym none))

pub returns-clause-value : goal.returns-clause-value
returns-clause-value c =
    let group = rw c.in-Some-2.is at c.in_ok-group.ensures in
    let space = rw c.in-Some-3.is at c.in_ok-space.ensures in
    c.drawn_so.ensures.value
    ∙ sym (all_there (draft_of c.args.draft.now) c.in-Some.log.now c.in-Some-2.group c.in-Some-3.space (ap text_of_name c.in-Some.is) (sym group) (sym space))
