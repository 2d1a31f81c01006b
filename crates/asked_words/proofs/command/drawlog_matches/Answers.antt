use Rattle.std.proofs.Common.{map}
use Rattle.std.specs.String.{string_bytes}
use Rattle.asked_words.proofs.Taken.{drawlog_app, drawlog_simple, drawlog_free, simple_as, free_as, taken_as, rows_as}
use Rattle.asked_words.proofs.command.drawlog_matches.Goals as goal

pub matches_in-requires-clause-simple : goal.matches_in-requires-clause-simple
matches_in-requires-clause-simple c = simple_as _ drawlog_app c.in-Ok.ensures drawlog_simple

pub matches_in-requires-clause-free : goal.matches_in-requires-clause-free
matches_in-requires-clause-free c = free_as _ drawlog_app c.in-Ok.ensures drawlog_free

pub returns-clause-taken : goal.returns-clause-taken
returns-clause-taken c =
    taken_as c.matches_in.result _ drawlog_app (map string_bytes c.args.words.now) c.in-Ok.ensures c.matches_in.ensures.taken

pub returns-clause-rows : goal.returns-clause-rows
returns-clause-rows c =
    rows_as c.matches_in.result _ drawlog_app (map string_bytes c.args.words.now) c.in-Ok.ensures c.matches_in.ensures.rows
