use Rattle.cell_grid.proofs.Opposites.{leads_back, leads_on}
use Rattle.cell_grid.proofs.laws.opposites_lead_back.Goals as goal

pub returns : goal.returns
returns c = λ s x cell o x_here cell_here. (leads_back s x cell o x_here cell_here, leads_on s x cell o x_here cell_here)
