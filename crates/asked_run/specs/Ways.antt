-- What is seen of a run, in whichever way it is made.
use Rattle.std.specs.Prelude.{Option, Some, None, Result, Ok, Err}
use Rattle.run_leaves.specs.Marking.{Marking}
use Rattle.run_leaves.specs.Standing.{Standing}
use Rattle.tree_serve.specs.OrderedRun.{OrderedRun}
use Rattle.run_inputs.specs.declared.unread.Unread.{Unread}
use Rattle.asked_run.specs.declared.way.Way.{Way}
use Rattle.asked_run.specs.declared.way.Way.TheVariants.{Flat, Served}

-- where it stands
abbrev pub standing_in : Way Standing OrderedRun → Standing
standing_in (Flat s) = s
standing_in (Served r) = r.standing

-- the seed that is left and the mark, where its messages are served in an order
abbrev pub marking_in : Way Standing OrderedRun → Option Marking
marking_in (Flat s) = None
marking_in (Served r) = Some r.marking

-- where a run stands that was read, or why there is none
abbrev pub stands_read : Result (Way Standing OrderedRun) Unread → Result Standing Unread
stands_read (Ok w) = Ok (standing_in w)
stands_read (Err why) = Err why
