use Rattle.std.proofs.Common.{sym, ◌∙◌}
use Rattle.state_lines.specs.Parts.{parts_of}
use Rattle.state_lines.proofs.Heads.{this_text}
use Rattle.state_lines.proofs.parts.behind_line.Goals as goal

pub returns-then-eq-clause-value : goal.returns-then-eq-clause-value
returns-then-eq-clause-value c =
    this_text c.args.line.now (parts_of c.args.text.now) c.in_ok-first.first.now
    c.in_ok-first.behind.now c.in_ok-first.ensures.parts (sym c.eq.ensures ∙ c.if-eq.true)
