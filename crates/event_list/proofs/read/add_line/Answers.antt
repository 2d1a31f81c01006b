use Rattle.std.proofs.Common.{◌≡◌, ◌<◌, ◌==◌, ◌+◌, ◌++◌, ◌∷◌, [], ap, arith, sym, ◌∙◌, length, lit<, map, rules}
use Rattle.std.proofs.lemmas.List.{length_push, map_push}
use Rattle.std.proofs.lemmas.Result.{err_from_is_err_and}
use Rattle.quantity.specs.Bytes.{words}
use Rattle.event_list.specs.Events.{event_of_words}
use Rattle.event_list.specs.Shown.{plain_event}
use Rattle.event_list.proofs.Reading.{line_adds, line_refused, nothing_added, nothing_counted, nothing_refused}
use Rattle.event_list.proofs.read.add_line.Goals as goal

pub returns-then-is_empty-clause-accepted : goal.returns-then-is_empty-clause-accepted
returns-then-is_empty-clause-accepted c =
    let empty = ap (λ t. length t == 0) (sym c.text_of_line-text.ensures) ∙ sym c.is_empty.ensures ∙ c.if-is_empty.true in
    nothing_refused c.args.ports.now (length c.args.events.now.items) c.args.number c.args.line.now empty

pub returns-then-is_empty-clause-events : goal.returns-then-is_empty-clause-events
returns-then-is_empty-clause-events c =
    let empty = ap (λ t. length t == 0) (sym c.text_of_line-text.ensures) ∙ sym c.is_empty.ensures ∙ c.if-is_empty.true in
    nothing_added c.args.ports.now (map plain_event c.args.events.now.items) c.args.number c.args.line.now empty

pub returns-then-is_empty-clause-count : goal.returns-then-is_empty-clause-count
returns-then-is_empty-clause-count c =
    let empty = ap (λ t. length t == 0) (sym c.text_of_line-text.ensures) ∙ sym c.is_empty.ensures ∙ c.if-is_empty.true in
    nothing_counted (length c.args.events.now.items) c.args.number c.args.line.now empty

pub returns-in_err-event-clause-err : goal.returns-in_err-event-clause-err
returns-in_err-event-clause-err c =
    let filled = ap (λ t. length t == 0) (sym c.text_of_line-text.ensures) ∙ sym c.is_empty.ensures ∙ c.if-is_empty.false in
    let is = ap (λ t. event_of_words c.args.ports.now c.args.number (words t)) (sym c.text_of_line-text.ensures) ∙ c.in_err-event.ensures.err in
    let p = err_from_is_err_and c.from_residual.result c.from_residual.ensures.1 in
    rw (p.1, p.2) (λ other. line_refused c.args.ports.now (length c.args.events.now.items) c.args.number c.args.line.now c.in_err-event.field-0.0 filled is)

pub returns-clause-accepted : goal.returns-clause-accepted
returns-clause-accepted c =
    let filled = ap (λ t. length t == 0) (sym c.text_of_line-text.ensures) ∙ sym c.is_empty.ensures ∙ c.if-is_empty.false in
    let is = ap (λ t. event_of_words c.args.ports.now c.args.number (words t)) (sym c.text_of_line-text.ensures) ∙ c.in_ok-event.ensures.ok in
    let few : length c.args.events.now.items < 1048576 = omega arith in
    let adds = line_adds c.args.ports.now (length c.args.events.now.items) c.args.number c.args.line.now (plain_event c.in_ok-event.event) filled is few in
    adds.accepted

pub returns-clause-events : goal.returns-clause-events
returns-clause-events c =
    let filled = ap (λ t. length t == 0) (sym c.text_of_line-text.ensures) ∙ sym c.is_empty.ensures ∙ c.if-is_empty.false in
    let is = ap (λ t. event_of_words c.args.ports.now c.args.number (words t)) (sym c.text_of_line-text.ensures) ∙ c.in_ok-event.ensures.ok in
    let adds = line_adds c.args.ports.now 0 c.args.number c.args.line.now (plain_event c.in_ok-event.event) filled is (lit< tt) in
    let items : c.push.new.self.items ≡ c.args.events.now.items ++ c.in_ok-event.event ∷ [] = search rules in
    ap (map plain_event) items ∙ map_push plain_event c.args.events.now.items c.in_ok-event.event ∙ ap (λ l. map plain_event c.args.events.now.items ++ l) (sym adds.events)

pub returns-clause-count : goal.returns-clause-count
returns-clause-count c =
    let filled = ap (λ t. length t == 0) (sym c.text_of_line-text.ensures) ∙ sym c.is_empty.ensures ∙ c.if-is_empty.false in
    let is = ap (λ t. event_of_words c.args.ports.now c.args.number (words t)) (sym c.text_of_line-text.ensures) ∙ c.in_ok-event.ensures.ok in
    let adds = line_adds c.args.ports.now 0 c.args.number c.args.line.now (plain_event c.in_ok-event.event) filled is (lit< tt) in
    let items : c.push.new.self.items ≡ c.args.events.now.items ++ c.in_ok-event.event ∷ [] = search rules in
    ap length items ∙ length_push c.args.events.now.items c.in_ok-event.event ∙ ap (λ n. length c.args.events.now.items + n) (sym adds.count)
