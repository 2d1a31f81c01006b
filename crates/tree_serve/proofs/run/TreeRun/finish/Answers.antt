use Rattle.std.proofs.Common.{◌+◌, ◌≤◌, List, Ok, Err, length, refl, ap, sym, subst}
use Rattle.tree_tables.specs.declared.entry.Entry.{Entry}
use Rattle.tree_mail.specs.Notes.{notes_of}
use Rattle.tree_mail.specs.Recorded.{HoldsOrStops, stop_in}
use Rattle.tree_serve.proofs.FinishSteps.{never-between, kept-enough, cycle-finishes, cycle-holds, stop-finishes}
use Rattle.tree_serve.proofs.Closing.{stopped-holds}
use Rattle.tree_serve.proofs.run.TreeRun.finish.Goals as goal

pub invariant_of-self : goal.invariant_of-self
invariant_of-self g c =
    let i = c.self.inside in
    let ends : HoldsOrStops {U = Unit {0}} c.in-Some-instant.t i.tables.entries.items (notes_of i.mail.kept.items) (stop_in (notes_of i.mail.kept.items)) (Ok c.in-Ok.field-0) c.end_of-ended.new.records =
    rw (c.deref.ensures.value, c.in-Ok.is) at c.end_of-ended.ensures in
    cycle-holds i.leaves i.tables i.events i.end i.limit i.last i.count i.stopped i.due.items i.instant i.inputs.items i.mail
    c.self.invariant c.args.self.now c.self.view_is c.in_default.is c.in-Some-instant.t c.in-Some-instant.is
    c.any_order_serves.ensures.each c.requires.nothing_waits (Unit {0}) c.in-Ok.field-0 c.end_of-ended.new.records ends
    (c.cycles_had.result + 1) (ap (λ n. n + 1) c.cycles_had.ensures) c.clear-2.new.self
    c.clear-2.ensures.waiting c.clear-2.ensures.kept c.records_name_what_there_is.ensures.cycles

pub returns-in-Ok : goal.returns-in-Ok
returns-in-Ok g c =
    let i = c.self.inside in
    let ends : HoldsOrStops {U = Unit {0}} c.in-Some-instant.t i.tables.entries.items (notes_of i.mail.kept.items) (stop_in (notes_of i.mail.kept.items)) (Ok c.in-Ok.field-0) c.end_of-ended.new.records =
    rw (c.deref.ensures.value, c.in-Ok.is) at c.end_of-ended.ensures in
    cycle-finishes i.leaves i.tables i.events i.end i.limit i.last i.count i.stopped i.due.items i.instant i.inputs.items i.mail
    c.self.invariant c.args.self.now c.self.view_is c.in_default.is c.in-Some-instant.t c.in-Some-instant.is
    c.any_order_serves.ensures.each c.requires.nothing_waits (Unit {0}) c.in-Ok.field-0 c.end_of-ended.new.records ends
    (c.cycles_had.result + 1) (ap (λ n. n + 1) c.cycles_had.ensures) c.clear-2.new.self
    c.clear-2.ensures.waiting c.clear-2.ensures.kept

pub returns-in-Err : goal.returns-in-Err
returns-in-Err g c =
    let i = c.self.inside in
    let ends : HoldsOrStops {U = Unit {0}} c.in-Some-instant.t i.tables.entries.items (notes_of i.mail.kept.items) (stop_in (notes_of i.mail.kept.items)) (Err c.in-Err.stop) c.end_of-ended.new.records =
    rw (c.deref.ensures.value, c.in-Err.is) at c.end_of-ended.ensures in
    rw c.same_stop.ensures
    (stop-finishes i.leaves i.tables i.events i.end i.limit i.last i.count i.stopped i.due.items i.instant i.inputs.items i.mail
    c.self.invariant c.args.self.now c.self.view_is c.in_default.is c.in-Some-instant.t c.in-Some-instant.is
    c.any_order_serves.ensures.each (Unit {0}) c.in-Err.stop c.end_of-ended.new.records ends
    c.clear-2.new.self c.clear-2.ensures.waiting c.clear-2.ensures.kept c.clear-in-Err.new.self c.clear-in-Err.ensures)

pub unreachable-requires : goal.unreachable-requires
unreachable-requires g c =
    let i = c.self.inside in
    never-between i.leaves i.tables i.events i.end i.limit i.last i.count i.stopped i.due.items i.instant i.inputs.items i.mail
    c.self.invariant c.args.self.now c.self.view_is c.in_default.is c.requires.begun c.in_default-instant.is

pub end_of-ended-requires-clause-kept : goal.end_of-ended-requires-clause-kept
end_of-ended-requires-clause-kept g c =
    let i = c.self.inside in
    let enough = kept-enough i.leaves i.tables i.events i.end i.limit i.last i.count i.stopped i.due.items i.instant i.inputs.items i.mail
    c.self.invariant c.args.self.now c.self.view_is c.in_default.is c.in-Some-instant.t c.in-Some-instant.is in
    subst (λ (es : List Entry). length es ≤ length i.mail.kept.items) (sym c.deref.ensures.value) enough

pub invariant_of-self-in-Err : goal.invariant_of-self-in-Err
invariant_of-self-in-Err g c =
    let i = c.self.inside in
    stopped-holds i.leaves i.leaves i.tables i.events i.events i.end i.limit i.last i.count i.stopped c.same_stop.result
    i.due.items i.due.items i.instant i.inputs.items i.inputs.items i.mail c.clear-2.new.self
    c.self.invariant refl refl c.clear-2.ensures.waiting c.clear-2.ensures.kept
