use Rattle.sparse_cycle.proofs.Collecting.{collects-at-once, due-can-collect, givers-gave}
use Rattle.sparse_cycle.proofs.laws.leaves_give_one_after_another.Goals as goal

pub returns-clause-at_once : goal.returns-clause-at_once
returns-clause-at_once c = collects-at-once

pub returns-clause-can : goal.returns-clause-can
returns-clause-can c = due-can-collect

pub returns-clause-givers : goal.returns-clause-givers
returns-clause-givers c = givers-gave
