use Rattle.std.proofs.Common.{◌++◌, ◌∙◌, ap, codes, sym}
use Rattle.std.proofs.lemmas.Option.{IfSome_then}
use Rattle.quantity.specs.Bytes.{Bytes}
use Rattle.text_forms.specs.Begun.{line_front}
use Rattle.text_forms.specs.Placed.{short_text}
use Rattle.text_forms.proofs.Starts.{kept_named}
use Rattle.text_forms.proofs.start.Start.place_of.Goals as goal

pub returns-then-is_of_group-clause-text : goal.returns-then-is_of_group-clause-text
returns-then-is_of_group-clause-text c =
    IfSome_then c.short_place.result c.short_place.ensures.text (λ place short m named right.
    ap (λ (x : Bytes). x ++ short_text place)
    (kept_named m c.args.self.now c.ms.result c.args.time c.args.cell.now named right
    (c.is_of_group.ensures c.if-is_of_group.true) c.ms.ensures.value)
    ∙ ap (λ (x : Bytes). (line_front c.args.self.now.letter c.args.time ++ c.args.cell.now.name.now ++ codes "(") ++ x) (sym short))
