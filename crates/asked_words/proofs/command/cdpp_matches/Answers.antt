use Rattle.std.proofs.Common.{map}
use Rattle.std.specs.String.{string_bytes}
use Rattle.asked_words.proofs.Taken.{cdpp_app, cdpp_simple, cdpp_free, simple_as, free_as, taken_as, rows_as}
use Rattle.asked_words.proofs.command.cdpp_matches.Goals as goal

pub matches_in-requires-clause-simple : goal.matches_in-requires-clause-simple
matches_in-requires-clause-simple c = simple_as _ cdpp_app c.in-Ok.ensures cdpp_simple

pub matches_in-requires-clause-free : goal.matches_in-requires-clause-free
matches_in-requires-clause-free c = free_as _ cdpp_app c.in-Ok.ensures cdpp_free

pub returns-clause-taken : goal.returns-clause-taken
returns-clause-taken c =
    taken_as c.matches_in.result _ cdpp_app (map string_bytes c.args.words.now) c.in-Ok.ensures c.matches_in.ensures.taken

pub returns-clause-rows : goal.returns-clause-rows
returns-clause-rows c =
    rows_as c.matches_in.result _ cdpp_app (map string_bytes c.args.words.now) c.in-Ok.ensures c.matches_in.ensures.rows
