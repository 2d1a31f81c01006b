use Rattle.run_model.proofs.WaitingCycle.{start-stands, resumed-stands, cycles-stand}
use Rattle.run_model.proofs.laws.nothing_waits_in_the_past.Goals as goal

pub returns-clause-start : goal.returns-clause-start
returns-clause-start c = start-stands

pub returns-clause-resumed : goal.returns-clause-resumed
returns-clause-resumed c = resumed-stands

pub returns-clause-cycles : goal.returns-clause-cycles
returns-clause-cycles c = cycles-stand
