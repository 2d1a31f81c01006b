use Rattle.std.proofs.Common.{decimal}
use Rattle.text_forms.proofs.Placing.{placed_as, placed_then, two_digits}
use Rattle.text_forms.proofs.placed.write_two.Goals as goal

pub returns : goal.returns
returns c =
    placed_as c.args.bytes.now c.write_byte.new.bytes c.args.at c.write_byte.result _ (decimal c.args.number)
    (two_digits c.args.number c.requires.two.0 c.requires.two.1)
    (placed_then c.args.bytes.now c.write_byte-last.new.bytes c.write_byte.new.bytes c.args.at c.write_byte-last.result c.write_byte.result _ _
    c.write_byte-last.ensures c.write_byte.ensures)
