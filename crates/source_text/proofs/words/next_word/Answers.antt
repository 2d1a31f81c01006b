use Rattle.std.proofs.Common.{arith, sym, ◌∙◌}
use Rattle.source_text.proofs.FirstWords.{first_word, no_word}
use Rattle.source_text.proofs.words.next_word.Goals as goal

pub returns-then-is_empty-clause-words : goal.returns-then-is_empty-clause-words
returns-then-is_empty-clause-words c = no_word c.args.text.now c.without_blanks_before-filled.result.now c.without_blanks_before-filled.ensures (sym c.is_empty.ensures ∙ c.if-is_empty.true)

pub split_at-requires : goal.split_at-requires
split_at-requires c = (first_word c.args.text.now c.without_blanks_before-filled.result.now c.blank_or_end.result c.without_blanks_before-filled.ensures (sym c.is_empty.ensures ∙ c.if-is_empty.false) c.blank_or_end.ensures).within

pub returns-clause-words : goal.returns-clause-words
returns-clause-words c = rw (c.split_at.ensures.front, c.split_at.ensures.back) (first_word c.args.text.now c.without_blanks_before-filled.result.now c.blank_or_end.result c.without_blanks_before-filled.ensures (sym c.is_empty.ensures ∙ c.if-is_empty.false) c.blank_or_end.ensures).words_cut

pub returns-clause-filled : goal.returns-clause-filled
returns-clause-filled c =
    let first = first_word c.args.text.now c.without_blanks_before-filled.result.now c.blank_or_end.result c.without_blanks_before-filled.ensures (sym c.is_empty.ensures ∙ c.if-is_empty.false) c.blank_or_end.ensures in
    omega (arith, first.some, c.split_at.ensures.front_len)

pub returns-clause-shorter : goal.returns-clause-shorter
returns-clause-shorter c =
    rw c.split_at.ensures.back (first_word c.args.text.now c.without_blanks_before-filled.result.now c.blank_or_end.result c.without_blanks_before-filled.ensures (sym c.is_empty.ensures ∙ c.if-is_empty.false) c.blank_or_end.ensures).shorter
