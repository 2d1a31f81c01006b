use Rattle.std.proofs.Common.{◌∙◌, ap}
use Rattle.source_text.specs.Lines.{text_of_line}
use Rattle.cell_grid.proofs.FileLemmas.{less_behind, next_line}
use Rattle.cell_grid.proofs.files.next_left.Goals as goal

pub lines-preserved : goal.lines-preserved
lines-preserved c =
    next_line c.lines.line.now c.lines.behind.now c.text_of_line-line.result.now c.cut_at.result.1.now c.in_default.ensures.words
    (c.text_of_line-line.ensures ∙ ap text_of_line c.cut_at.ensures.before) c.cut_at.ensures.after ∙ c.lines.invariant

pub lines-smaller : goal.lines-smaller
lines-smaller c = less_behind c.lines.behind.now c.cut_at.result.1.now c.cut_at.ensures.after c.is_empty.ensures c.if-is_empty.false
