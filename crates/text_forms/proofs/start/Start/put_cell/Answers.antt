use Rattle.text_forms.specs.Begun.{named_text}
use Rattle.text_forms.specs.Placed.{short_text}
use Rattle.text_forms.proofs.Appended.{on_ok}
use Rattle.text_forms.proofs.Starts.{line_appended, start_same}
use Rattle.text_forms.proofs.start.Start.put_cell.Goals as goal

pub returns-in-Some-clause-right : goal.returns-in-Some-clause-right
returns-in-Some-clause-right c = λ m named right.
    start_same m c.args.self.now c.put_line.new.self c.put_line.ensures.same right

pub returns-in-Some-clause-ok : goal.returns-in-Some-clause-ok
returns-in-Some-clause-ok c = λ m named right.
    on_ok c.put_line.result _ _ (λ last.
    line_appended c.args.into.now.items c.put_line.new.into.items c.args.self.now.text (short_text c.in-Some.place) c.args.tail.now
    (named_text c.args.self.now.letter c.args.time c.args.cell.now) last (c.in-Some.ensures.text m named right)) c.put_line.ensures.ok
