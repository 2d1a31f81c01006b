use Rattle.std.proofs.Common.{◌++◌, ◌∙◌, ap, codes}
use Rattle.quantity.specs.Bytes.{Bytes}
use Rattle.text_forms.specs.Begun.{line_front, place_text}
use Rattle.text_forms.proofs.Appended.{kept_on, on_ok}
use Rattle.text_forms.proofs.Starts.{cell_appended}
use Rattle.text_forms.proofs.start.Start.put_parts.Goals as goal

pub returns-in_err-put_place-clause-kept : goal.returns-in_err-put_place-clause-kept
returns-in_err-put_place-clause-kept c =
    kept_on c.args.into.now.items c.begin_cell.new.into.items c.put_place.new.into.items
    c.begin_cell.ensures.kept c.put_place.ensures.kept

pub returns-clause-ok : goal.returns-clause-ok
returns-clause-ok c = λ m named right.
    on_ok c.put.result _ _ (λ last.
    cell_appended c.args.into.now.items c.begin_cell.new.into.items c.put_place.new.into.items c.put.new.into.items
    (line_front c.args.self.now.letter c.args.time ++ c.args.cell.now.name.now ++ codes "(")
    (place_text c.args.cell.now.space.now c.args.cell.now.cell) c.args.tail.now
    (c.in_ok-begin_cell.ensures.ok m named right) c.in_ok-put_place.ensures.ok
    (last ∙ ap (λ (x : Bytes). c.put_place.new.into.items ++ x) c.as_bytes.ensures)) c.put.ensures.ok

pub returns-clause-kept : goal.returns-clause-kept
returns-clause-kept c =
    kept_on c.args.into.now.items c.put_place.new.into.items c.put.new.into.items
    (kept_on c.args.into.now.items c.begin_cell.new.into.items c.put_place.new.into.items
    c.begin_cell.ensures.kept c.in_ok-put_place.ensures.kept) c.put.ensures.kept
