use Rattle.std.proofs.Common.{◌∙◌, get_or, ap}
use Rattle.cell_engine.proofs.Numbered.{number_is}
use Rattle.cell_engine.proofs.set_numbers.SetNumbers.at.Goals as goal

pub returns : goal.returns
returns c =
    let s = c.self.inside in
    c.number_at.ensures ∙ ap (λ ks. get_or ks c.args.cell 0) c.deref.ensures.value ∙ number_is s.cells s.kept.items c.args.cell
    ∙ ap (λ ks. get_or ks c.args.cell 0) c.self.view_is
