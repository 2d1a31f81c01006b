use Rattle.std.proofs.Common.{◌∷◌, rules}
use Rattle.rule_words.specs.Shown.{tokens_of, plane_of}
use Rattle.rule_words.proofs.CellPieces.{no_cell, a_cell}
use Rattle.rule_phrases.proofs.atom.cell_before.Goals as goal

pub returns-in_err-row-clause-cell : goal.returns-in_err-row-clause-cell
returns-in_err-row-clause-cell c = search (rules, no_cell (tokens_of c.args.tokens.now) c.in_err-row.ensures.place)

pub returns-clause-cell : goal.returns-clause-cell
returns-clause-cell c =
    let e = a_cell (tokens_of c.args.tokens.now) (tokens_of c.in_ok-row.rest.now) (tokens_of c.port_before.result.1.now)
    (c.in_ok-row.row ∷ c.in_ok-row.column ∷ plane_of c.in_ok-row.plane) c.port_before.result.0.now c.in_ok-row.ensures.place c.port_before.ensures.port in
    search (rules, e)
