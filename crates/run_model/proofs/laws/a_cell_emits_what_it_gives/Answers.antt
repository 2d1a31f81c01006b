use Rattle.run_model.proofs.EmittedRuns.{emits-what-it-gives}
use Rattle.run_model.proofs.laws.a_cell_emits_what_it_gives.Goals as goal

pub returns : goal.returns
returns c = emits-what-it-gives
