use Rattle.std.proofs.Common.{◌≡◌, ℕ, Option, List, ◌∙◌, ◌<◌, ◌≤◌, map, ap, arith}
use Rattle.quantity.specs.Times.{earlier}
use Rattle.tree_mail.specs.Notes.{fresh_note}
use Rattle.tree_messages.specs.Starting.{least_among}
use Rattle.tree_serve.proofs.StartSteps.{none-due, past-end, limit-reached, cycle-starts, cycle-holds, not-over}
use Rattle.tree_serve.proofs.run.TreeRun.start.Goals as goal

-- the earlier of the least time at which a leaf is due and the next event's
next-is : (event : Option ℕ) {a b : Option ℕ} {now due : List (Option ℕ)} → b ≡ earlier a event → a ≡ least_among now → now ≡ due → b ≡ earlier (least_among due) event
next-is event first least same = first ∙ ap (λ (o : Option ℕ). earlier o event) (least ∙ ap least_among same)

pub returns-in_default-earlier-clause-starts : goal.returns-in_default-earlier-clause-starts
returns-in_default-earlier-clause-starts g c =
    let i = c.self.inside in
    let is = next-is c.next.result c.earlier.ensures c.least_time.ensures c.deref.ensures.value in
    none-due i.leaves i.tables i.events i.end i.limit i.last i.count i.stopped i.due.items i.instant i.inputs.items i.mail
    c.self.invariant c.args.self.now c.self.view_is c.requires.between c.in_default.is
    c.next.result c.earlier.result c.next.ensures.value c.next.ensures.least is c.in_default-earlier.is

pub returns-then-ms-clause-starts : goal.returns-then-ms-clause-starts
returns-then-ms-clause-starts g c =
    let i = c.self.inside in
    let t = c.in-Some-earlier.t in
    let past : i.end < t = omega (arith, c.if-ms.true, c.ms.ensures.value, c.ms-2.ensures.value) in
    let is = next-is c.next.result c.earlier.ensures c.least_time.ensures c.deref.ensures.value in
    past-end i.leaves i.tables i.events i.end i.limit i.last i.count i.stopped i.due.items i.instant i.inputs.items i.mail
    c.self.invariant c.args.self.now c.self.view_is c.requires.between c.in_default.is
    c.next.result c.earlier.result c.next.ensures.value c.next.ensures.least is t c.in-Some-earlier.is past

pub returns-then-self-cycles_had-clause-starts : goal.returns-then-self-cycles_had-clause-starts
returns-then-self-cycles_had-clause-starts g c =
    let i = c.self.inside in
    let t = c.in-Some-earlier.t in
    let within : t ≤ i.end = omega (arith, c.if-ms.false, c.ms.ensures.value, c.ms-2.ensures.value) in
    let full : i.limit ≤ c.cycles_had.result = c.if-self-cycles_had.true in
    let is = next-is c.next.result c.earlier.ensures c.least_time.ensures c.deref.ensures.value in
    limit-reached i.leaves i.tables i.events i.end i.limit i.last i.count i.stopped i.due.items i.instant i.inputs.items i.mail
    c.self.invariant c.args.self.now c.self.view_is c.requires.between c.in_default.is
    c.next.result c.earlier.result c.next.ensures.value c.next.ensures.least is t c.in-Some-earlier.is within
    c.cycles_had.result c.cycles_had.ensures full

pub invariant_of-self-in-Ok : goal.invariant_of-self-in-Ok
invariant_of-self-in-Ok g c =
    let i = c.self.inside in
    let t = c.in-Some-earlier.t in
    let within : t ≤ i.end = omega (arith, c.if-ms.false, c.ms.ensures.value, c.ms-2.ensures.value) in
    let few : c.cycles_had.result < i.limit = c.if-self-cycles_had.false in
    let is = next-is c.next.result c.earlier.ensures c.least_time.ensures c.deref.ensures.value in
    cycle-holds i.leaves i.tables i.events i.end i.limit i.last i.count i.stopped i.due.items i.instant i.inputs.items i.mail
    c.self.invariant c.args.self.now c.self.view_is c.requires.between c.in_default.is
    c.next.result c.earlier.result c.next.ensures.value c.next.ensures.least is t c.in-Some-earlier.is within
    c.cycles_had.result c.cycles_had.ensures
    c.any_order_serves.ensures.sound c.events_stand_by_number.ensures.inputs c.events_stand_by_number.ensures.distinct few
    c.begin.new.events c.begin.new.inputs.items c.begin.new.mail
    c.in-Ok.ensures.inputs c.in-Ok.ensures.events c.in-Ok.ensures.waiting (c.in-Ok.ensures.kept ∙ ap (map fresh_note) c.deref-2.ensures.value)

pub returns-in-Ok-clause-starts : goal.returns-in-Ok-clause-starts
returns-in-Ok-clause-starts g c =
    let i = c.self.inside in
    let t = c.in-Some-earlier.t in
    let within : t ≤ i.end = omega (arith, c.if-ms.false, c.ms.ensures.value, c.ms-2.ensures.value) in
    let few : c.cycles_had.result < i.limit = c.if-self-cycles_had.false in
    let is = next-is c.next.result c.earlier.ensures c.least_time.ensures c.deref.ensures.value in
    cycle-starts i.leaves i.tables i.events i.end i.limit i.last i.count i.stopped i.due.items i.instant i.inputs.items i.mail
    c.self.invariant c.args.self.now c.self.view_is c.requires.between c.in_default.is
    c.next.result c.earlier.result c.next.ensures.value c.next.ensures.least is t c.in-Some-earlier.is within
    c.cycles_had.result c.cycles_had.ensures
    c.any_order_serves.ensures.sound c.events_stand_by_number.ensures.inputs c.events_stand_by_number.ensures.distinct few
    c.begin.new.events c.begin.new.inputs.items c.begin.new.mail
    c.in-Ok.ensures.inputs c.in-Ok.ensures.events c.in-Ok.ensures.waiting (c.in-Ok.ensures.kept ∙ ap (map fresh_note) c.deref-2.ensures.value)

pub returns-then-self-cycles_had-clause-done : goal.returns-then-self-cycles_had-clause-done
returns-then-self-cycles_had-clause-done g c =
    let i = c.self.inside in
    let t = c.in-Some-earlier.t in
    let within : t ≤ i.end = omega (arith, c.if-ms.false, c.ms.ensures.value, c.ms-2.ensures.value) in
    let is = next-is c.next.result c.earlier.ensures c.least_time.ensures c.deref.ensures.value in
    λ none ends. absurd (not-over i.leaves i.tables i.events i.end i.limit i.last i.count i.stopped i.due.items i.instant i.inputs.items i.mail
    c.self.invariant c.args.self.now c.self.view_is c.requires.between c.in_default.is
    c.next.result c.earlier.result c.next.ensures.value c.next.ensures.least is t c.in-Some-earlier.is within
    c.cycles_had.result c.cycles_had.ensures ends)

pub returns-in-Ok-clause-done : goal.returns-in-Ok-clause-done
returns-in-Ok-clause-done g c =
    let i = c.self.inside in
    let t = c.in-Some-earlier.t in
    let within : t ≤ i.end = omega (arith, c.if-ms.false, c.ms.ensures.value, c.ms-2.ensures.value) in
    let is = next-is c.next.result c.earlier.ensures c.least_time.ensures c.deref.ensures.value in
    λ none ends. absurd (not-over i.leaves i.tables i.events i.end i.limit i.last i.count i.stopped i.due.items i.instant i.inputs.items i.mail
    c.self.invariant c.args.self.now c.self.view_is c.requires.between c.in_default.is
    c.next.result c.earlier.result c.next.ensures.value c.next.ensures.least is t c.in-Some-earlier.is within
    c.cycles_had.result c.cycles_had.ensures ends)

pub returns-in-Err-clause-done : goal.returns-in-Err-clause-done
returns-in-Err-clause-done g c =
    let i = c.self.inside in
    let t = c.in-Some-earlier.t in
    let within : t ≤ i.end = omega (arith, c.if-ms.false, c.ms.ensures.value, c.ms-2.ensures.value) in
    let is = next-is c.next.result c.earlier.ensures c.least_time.ensures c.deref.ensures.value in
    λ none ends. absurd (not-over i.leaves i.tables i.events i.end i.limit i.last i.count i.stopped i.due.items i.instant i.inputs.items i.mail
    c.self.invariant c.args.self.now c.self.view_is c.requires.between c.in_default.is
    c.next.result c.earlier.result c.next.ensures.value c.next.ensures.least is t c.in-Some-earlier.is within
    c.cycles_had.result c.cycles_had.ensures ends)
