use Rattle.text_forms.proofs.Starts.{appended_part, boxes_begun, ok_appended}
use Rattle.text_forms.proofs.start.Start.begin_box.Goals as goal
use Rattle.std.proofs.Common.{◌∙◌, ap, sym}
use Rattle.text_forms.specs.Begun.{line_front}

pub returns-then-is_of_boxes-clause-ok : goal.returns-then-is_of_boxes-clause-ok
returns-then-is_of_boxes-clause-ok c = λ m right.
    ok_appended c.put.result c.args.into.now.items c.put.new.into.items c.as_bytes.result.now
    (line_front c.args.self.now.letter c.args.time) c.put.ensures.ok
    (c.as_bytes.ensures
    ∙ boxes_begun m c.args.self.now c.ms.result c.args.time right
    (c.is_of_boxes.ensures c.if-is_of_boxes.true) c.ms.ensures.value)

pub returns-clause-right : goal.returns-clause-right
returns-clause-right c = λ m right. c.keep.ensures.right m
    (appended_part c.deref.result.now c.args.into.now.items c.put_begun.new.into.items
    (line_front c.args.self.now.letter c.args.time) c.len-before.result c.deref.ensures.value
    (c.len-before.ensures ∙ c.args.into.now.ok.0) c.in_ok-put_begun.ensures.ok
    ∙ ap (line_front c.args.self.now.letter) (sym c.ms-2.ensures.value))

pub returns-clause-ok : goal.returns-clause-ok
returns-clause-ok c = λ m right. c.in_ok-put_begun.ensures.ok
