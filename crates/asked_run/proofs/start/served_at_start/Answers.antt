use Rattle.asked_run.proofs.Started.{sound_with, inputs_with, made_as, may_go_on}
use Rattle.asked_run.proofs.start.served_at_start.Goals as goal

pub new-requires-clause-sound : goal.new-requires-clause-sound
new-requires-clause-sound g c =
    sound_with c.args.asked.now c.args.stock c.args.model c.requires.can_run

pub new-requires-clause-boxes : goal.new-requires-clause-boxes
new-requires-clause-boxes g c = c.requires.can_run.boxes

pub new-requires-clause-at_inputs : goal.new-requires-clause-at_inputs
new-requires-clause-at_inputs g c = inputs_with c.args.model c.args.stock c.args.events c.requires.at_inputs

pub returns-clause-made : goal.returns-clause-made
returns-clause-made g c =
    let a = c.args.asked.now in
    let e = c.in_ok-run.ensures in
    made_as c.in_ok-run.run'.standing c.new-2.result.standing c.args.model c.args.stock c.args.events a.end a.given.limit c.new-2.ensures.standing
    (record { model = e.model; settings = e.settings; state = e.state; end_is = e.end; limit_is = e.limit; goes = e.goes })

pub returns-clause-may_go_on : goal.returns-clause-may_go_on
returns-clause-may_go_on g c =
    let a = c.args.asked.now in
    let m = c.args.model in
    let e = c.in_ok-run.ensures in
    may_go_on c.new-2.result.standing m c.args.stock c.args.events a.end a.given.limit
    (made_as c.in_ok-run.run'.standing c.new-2.result.standing m c.args.stock c.args.events a.end a.given.limit c.new-2.ensures.standing
    (record { model = e.model; settings = e.settings; state = e.state; end_is = e.end; limit_is = e.limit; goes = e.goes }))
    a c.requires.can_run c.records_name_what_there_is.ensures.start
