use Rattle.std.proofs.Common.{◌≡◌, ◌+◌, None, Some, ap, sym, ◌∙◌, arith, length, map}
use Rattle.std.proofs.lemmas.List.{length-map}
use Rattle.std.proofs.lemmas.Result.{err_from_is_err_and}
use Rattle.event_list.specs.Events.{events_refused}
use Rattle.event_list.specs.LineByLine.{filled_line}
use Rattle.event_list.specs.Shown.{plain_event}
use Rattle.event_list.proofs.Reading.{all_read, reading_ends, reading_stops, reads_on}
use Rattle.event_list.proofs.read.events_listed.Goals as goal

pub returns-in_err-add_line-clause-err : goal.returns-in_err-add_line-clause-err
returns-in_err-add_line-clause-err c =
    let old = c.loop-line.events.items in
    let now = filled_line c.loop-line.number c.in-Some.line.now in
    let p = err_from_is_err_and c.from_residual.result c.from_residual.ensures.1 in
    rw (p.1, p.2) (λ other. reading_stops c.args.ports.now c.args.bytes.now (map plain_event old) c.loop-line.number c.loop-line.rest.now c.in-Some.line.now c.in-Some.behind.now c.in_err-add_line.field-0.0
    c.loop-line.invariant.0 c.in-Some.ensures.parts (ap (λ n. events_refused c.args.ports.now n now) (length-map old plain_event) ∙ c.in_err-add_line.ensures.err other))

pub loop-line-preserved : goal.loop-line-preserved
loop-line-preserved c =
    let old = c.loop-line.events.items in
    let new = c.add_line.new.events.items in
    let now = filled_line c.loop-line.number c.in-Some.line.now in
    let count : length (map plain_event new) ≡ length (map plain_event old) + length now = length-map new plain_event ∙ c.in_ok-add_line.ensures.count ∙ ap (λ n. n + length now) (sym (length-map old plain_event)) in
    let before = ap (λ n. events_refused c.args.ports.now n now) (length-map old plain_event) ∙ c.in_ok-add_line.ensures.accepted in (
      reads_on c.args.ports.now c.args.bytes.now (map plain_event old) (map plain_event new) c.loop-line.number c.loop-line.rest.now c.in-Some.line.now c.in-Some.behind.now
          c.loop-line.invariant.0 c.in-Some.ensures.parts before c.in_ok-add_line.ensures.events count,
      omega (arith, c.in-Some.ensures.shorter, c.loop-line.invariant.1),
    )

pub returns-in_err-add_line-2-clause-err : goal.returns-in_err-add_line-2-clause-err
returns-in_err-add_line-2-clause-err c =
    let old = c.loop-line.events.items in
    let p = err_from_is_err_and c.from_residual-in_err-add_line-2.result c.from_residual-in_err-add_line-2.ensures.1 in
    rw (p.1, p.2) (λ other. reading_ends c.args.ports.now c.args.bytes.now (map plain_event old) c.loop-line.number c.loop-line.rest.now (Some c.in_err-add_line-2.field-0.0) c.loop-line.invariant.0 c.in_default.ensures.parts
    (ap (λ n. events_refused c.args.ports.now n (filled_line c.loop-line.number c.loop-line.rest.now)) (length-map old plain_event) ∙ c.in_err-add_line-2.ensures.err other))

pub returns-clause-accepted : goal.returns-clause-accepted
returns-clause-accepted c =
    let old = c.loop-line.events.items in
    reading_ends c.args.ports.now c.args.bytes.now (map plain_event old) c.loop-line.number c.loop-line.rest.now None c.loop-line.invariant.0 c.in_default.ensures.parts
    (ap (λ n. events_refused c.args.ports.now n (filled_line c.loop-line.number c.loop-line.rest.now)) (length-map old plain_event) ∙ c.in_ok-add_line-2.ensures.accepted)

pub returns-clause-events : goal.returns-clause-events
returns-clause-events c =
    all_read c.args.ports.now c.args.bytes.now (map plain_event c.loop-line.events.items) _ c.loop-line.number c.loop-line.rest.now c.loop-line.invariant.0 c.in_default.ensures.parts c.in_ok-add_line-2.ensures.events
