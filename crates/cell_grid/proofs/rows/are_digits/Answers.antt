use Rattle.std.proofs.Common.{nat_eq, ◌&&◌, length, ap, ◌∙◌}
use Rattle.cell_grid.proofs.RowTests.{digits_there}
use Rattle.cell_grid.proofs.rows.are_digits.Goals as goal

pub returns : goal.returns
returns c =
    ap (λ b. nat_eq (length c.args.chars.now) c.args.columns && b) c.all_digits.ensures ∙ digits_there c.args.columns c.args.chars.now
