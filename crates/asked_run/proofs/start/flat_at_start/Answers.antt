use Rattle.asked_run.proofs.Started.{starts_from, may_go_on}
use Rattle.asked_run.proofs.start.flat_at_start.Goals as goal

pub new-requires-clause-starts : goal.new-requires-clause-starts
new-requires-clause-starts g c =
    starts_from c.args.asked.now c.args.stock c.args.model c.args.routes c.args.events c.leaves.result c.in-Ok.queue c.requires.can_run c.requires.routes_are c.requires.at_inputs c.leaves.ensures c.in-Ok.ensures

pub returns-clause-made : goal.returns-clause-made
returns-clause-made g c =
    let e = c.in_ok-run.ensures in
    record { model = e.model; settings = e.settings; state = e.state; end_is = e.end; limit_is = e.limit; goes = e.goes }

pub returns-clause-may_go_on : goal.returns-clause-may_go_on
returns-clause-may_go_on g c =
    let a = c.args.asked.now in
    let e = c.in_ok-run.ensures in
    may_go_on c.in_ok-run.run' c.args.model c.args.stock c.args.events a.end a.given.limit (record { model = e.model; settings = e.settings; state = e.state; end_is = e.end; limit_is = e.limit; goes = e.goes })
    a c.requires.can_run c.records_name_what_there_is.ensures.start
