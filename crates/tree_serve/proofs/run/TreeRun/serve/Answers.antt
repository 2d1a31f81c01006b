use Rattle.std.proofs.Common.{◌≡◌, ◌∙◌, ◌<◌, ℕ, ◌%◌, Some, None, List, length, ap, subst, arith}
use Rattle.std.proofs.lemmas.Nat.{mod_below}
use Rattle.quantity.specs.declared.memory.OutOfMemory.{OutOfMemory}
use Rattle.run_model.specs.declared.stop.Stop.TheVariants.{Memory}
use Rattle.tree_tables.specs.declared.entry.Entry.{Entry}
use Rattle.tree_mail.specs.Mail.{message_in, served_by_tables}
use Rattle.tree_serve.proofs.Turning.{ready, holds-on}
use Rattle.tree_serve.proofs.ServeSteps.{never-calm, some-wait, keeps-so, stopped-run, served-so}
use Rattle.tree_serve.proofs.Closing.{stopped-holds}
use Rattle.tree_serve.proofs.run.TreeRun.serve.Goals as goal

pub serve_message-requires : goal.serve_message-requires
serve_message-requires g c =
    let i = c.self.inside in
    let place : ℕ = c.args.number % c.len.result in
    ready c.rows_bring_what_links_bring.ensures c.leaves_move_in_any_order.ensures.quiet c.leaves_move_in_any_order.ensures.becomes
    i.leaves i.tables i.events i.end i.limit i.last i.count i.stopped i.due.items i.instant i.inputs.items i.mail c.self.invariant c.in-Some.t c.in-Some.is
    c.take-message.result place c.take-message.ensures.value c.take-message.new.self c.take-message.ensures.left

pub invariant_of-self : goal.invariant_of-self
invariant_of-self g c =
    let i = c.self.inside in
    let place : ℕ = c.args.number % c.len.result in
    let place_is : place ≡ c.args.number % length i.mail.waiting = ap (λ n. c.args.number % n) c.len.ensures in
    let told = c.served_by-served.ensures ∙ ap (λ (es : List Entry). served_by_tables es (message_in c.take-message.result)) c.deref.ensures.value in
    let changes = rw c.deref-2.ensures.value at c.in-Ok.ensures.changes in
    holds-on c.rows_bring_what_links_bring.ensures c.leaves_move_in_any_order.ensures.quiet c.leaves_move_in_any_order.ensures.becomes
    i.leaves i.tables i.events i.end i.limit i.last i.count i.stopped i.due.items i.instant i.inputs.items i.mail c.self.invariant c.in-Some.t c.in-Some.is
    c.take-message.result place c.take-message.ensures.value c.take-message.new.self c.take-message.ensures.left c.args.number place_is
    c.serve_message.new.leaves c.serve_message.new.due.items c.serve_message.new.mail
    changes c.serve_message.ensures.stays c.served_by-served.result told

pub returns-in-Ok-clause-serves : goal.returns-in-Ok-clause-serves
returns-in-Ok-clause-serves g c =
    let i = c.self.inside in
    let place : ℕ = c.args.number % c.len.result in
    let place_is : place ≡ c.args.number % length i.mail.waiting = ap (λ n. c.args.number % n) c.len.ensures in
    let told = c.served_by-served.ensures ∙ ap (λ (es : List Entry). served_by_tables es (message_in c.take-message.result)) c.deref.ensures.value in
    let changes = rw c.deref-2.ensures.value at c.in-Ok.ensures.changes in
    served-so i.leaves i.tables i.events i.end i.limit i.last i.count i.stopped i.due.items i.instant i.inputs.items i.mail
    c.self.invariant c.args.self.now c.self.view_is
    c.rows_bring_what_links_bring.ensures c.leaves_move_in_any_order.ensures.quiet c.leaves_move_in_any_order.ensures.becomes c.in-Some.t c.in-Some.is
    c.take-message.result place c.take-message.ensures.value c.take-message.new.self c.take-message.ensures.left c.args.number place_is
    c.serve_message.new.leaves c.serve_message.new.due.items c.serve_message.new.mail
    changes c.serve_message.ensures.stays c.served_by-served.result told OutOfMemory

pub returns-in-Err-clause-serves : goal.returns-in-Err-clause-serves
returns-in-Err-clause-serves g c =
    let i = c.self.inside in
    stopped-run i.leaves i.tables i.events i.end i.limit i.last i.count i.stopped i.due.items i.instant i.inputs.items i.mail
    c.self.invariant c.args.self.now c.self.view_is
    c.serve_message.new.leaves c.serve_message.new.due.items c.clear.new.self c.serve_message.ensures.stays
    c.clear.ensures.waiting c.clear.ensures.kept

pub unreachable-requires : goal.unreachable-requires
unreachable-requires g c =
    let i = c.self.inside in
    never-calm i.leaves i.tables i.events i.end i.limit i.last i.count i.stopped i.due.items i.instant i.inputs.items i.mail
    c.self.invariant c.args.self.now c.self.view_is c.requires.waits c.in_default.is

pub nonzero_rem-place : goal.nonzero_rem-place
nonzero_rem-place g c =
    let i = c.self.inside in
    let one = some-wait i.leaves i.tables i.events i.end i.limit i.last i.count i.stopped i.due.items i.instant i.inputs.items i.mail
    c.self.invariant c.args.self.now c.self.view_is c.requires.waits in
    omega (arith, one, c.len.ensures)

pub take-message-requires : goal.take-message-requires
take-message-requires g c =
    let i = c.self.inside in
    let one = some-wait i.leaves i.tables i.events i.end i.limit i.last i.count i.stopped i.due.items i.instant i.inputs.items i.mail
    c.self.invariant c.args.self.now c.self.view_is c.requires.waits in
    subst (λ n. c.args.number % c.len.result < n) c.len.ensures (mod_below c.args.number c.len.result (omega (arith, one, c.len.ensures)))

pub returns-in-Ok-clause-keeps : goal.returns-in-Ok-clause-keeps
returns-in-Ok-clause-keeps g c =
    let i = c.self.inside in
    keeps-so i.leaves i.tables i.events i.end i.limit i.last i.count i.stopped i.due.items i.instant i.inputs.items i.mail
    c.self.invariant c.args.self.now c.self.view_is
    c.serve_message.new.leaves i.events i.stopped c.serve_message.new.due.items i.instant i.inputs.items c.serve_message.new.mail c.serve_message.ensures.stays

pub returns-in-Err-clause-keeps : goal.returns-in-Err-clause-keeps
returns-in-Err-clause-keeps g c =
    let i = c.self.inside in
    keeps-so i.leaves i.tables i.events i.end i.limit i.last i.count i.stopped i.due.items i.instant i.inputs.items i.mail
    c.self.invariant c.args.self.now c.self.view_is
    c.serve_message.new.leaves i.events (Some Memory) c.serve_message.new.due.items None i.inputs.items c.clear.new.self c.serve_message.ensures.stays

pub invariant_of-self-in-Err : goal.invariant_of-self-in-Err
invariant_of-self-in-Err g c =
    let i = c.self.inside in
    stopped-holds i.leaves c.serve_message.new.leaves i.tables i.events i.events i.end i.limit i.last i.count i.stopped Memory
    i.due.items c.serve_message.new.due.items i.instant i.inputs.items i.inputs.items i.mail c.clear.new.self
    c.self.invariant c.serve_message.ensures.stays.model c.serve_message.ensures.stays.settings c.clear.ensures.waiting c.clear.ensures.kept
