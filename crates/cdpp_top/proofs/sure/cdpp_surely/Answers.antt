use Rattle.std.proofs.Common.{map, arith}
use Rattle.std.specs.String.{string_bytes}
use Rattle.room_edge.specs.Sure.{sure_outside}
use Rattle.cdpp_top.proofs.Reading.{surely_answered}
use Rattle.cdpp_top.proofs.sure.cdpp_surely.Goals as goal

pub returns-clause-writes : goal.returns-clause-writes
returns-clause-writes g c =
    let old = sure_outside c.args.room.now in
    let new = sure_outside c.cdpp.new.room in
    surely_answered (map string_bytes c.args.words.now) _ old new c.cdpp.result (λ rose. omega (arith, rose)) (λ rose. omega (arith, rose)) c.cdpp.ensures.ends

pub returns-clause-visits : goal.returns-clause-visits
returns-clause-visits g c = c.cdpp.ensures.visits
