use Rattle.std.proofs.Common.{◌++◌, ◌∙◌, ℕ, ap, codes, sym}
use Rattle.quantity.specs.Bytes.{Bytes}
use Rattle.text_forms.specs.Begun.{line_front}
use Rattle.text_forms.proofs.Starts.{appended_part, kept_named, ok_appended}
use Rattle.text_forms.proofs.start.Start.begin_cell.Goals as goal

pub returns-then-is_of_group-clause-ok : goal.returns-then-is_of_group-clause-ok
returns-then-is_of_group-clause-ok c = λ m named right.
    ok_appended c.put.result c.args.into.now.items c.put.new.into.items c.as_bytes.result.now
    (line_front c.args.self.now.letter c.args.time ++ c.args.cell.now.name.now ++ codes "(") c.put.ensures.ok
    (c.as_bytes.ensures
    ∙ kept_named m c.args.self.now c.ms.result c.args.time c.args.cell.now named right
    (c.is_of_group.ensures c.if-is_of_group.true) c.ms.ensures.value)

pub returns-clause-right : goal.returns-clause-right
returns-clause-right c = λ m named right. c.keep.ensures.right m
    (λ settings g e.
    appended_part c.deref.result.now c.args.into.now.items c.put_group_begun.new.into.items
    (line_front c.args.self.now.letter c.args.time ++ c.args.cell.now.name.now ++ codes "(") c.len-before.result c.deref.ensures.value
    (c.len-before.ensures ∙ c.args.into.now.ok.0) c.in_ok-put_group_begun.ensures.ok
    ∙ ap (λ (t : ℕ). line_front c.args.self.now.letter t ++ c.args.cell.now.name.now ++ codes "(") (sym c.ms-2.ensures.value)
    ∙ ap (λ (n : Bytes). line_front c.args.self.now.letter c.ms-2.result ++ n ++ codes "(") (named.named settings g e))

pub returns-clause-ok : goal.returns-clause-ok
returns-clause-ok c = λ m named right. c.in_ok-put_group_begun.ensures.ok
