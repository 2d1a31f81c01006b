use Rattle.std.proofs.Common.{ℕ, Option, List, sym, subst}
use Rattle.std.specs.Prelude.{OnOk}
use Rattle.tree_mail.specs.declared.message.Message.{Message}
use Rattle.tree_tables.specs.declared.entry.Entry.{Entry}
use Rattle.tree_mail.specs.Mail.{message_in}
use Rattle.tree_messages.specs.Changes.{AsksAt, Changes, ChangesBy, changing_of_mail}
use Rattle.tree_messages.specs.Ready.{CanAsk, IsAwaited, CanTake, CanServeBy}
use Rattle.tree_messages.proofs.Becoming.{stays-same}
use Rattle.tree_mail.proofs.Noting.{kept-there}
use Rattle.tree_messages.proofs.serving.serve_message.Goals as goal

pub returns-in-Collect-clause-changes : goal.returns-in-Collect-clause-changes
returns-in-Collect-clause-changes g c =
    let es = c.args.tables.now.entries.items in
    let mail = c.args.mail.now in
    let leaves = c.args.leaves.now in
    let due = c.args.due.now.items in
    let asks = subst (λ (d : List (Option ℕ)). OnOk c.ask.result (AsksAt es c.args.t c.in-Collect.to (changing_of_mail mail leaves d) (changing_of_mail c.ask.new.mail c.ask.new.leaves d))) c.deref.ensures.value c.ask.ensures.asks in
    subst (λ (m : Message). OnOk c.ask.result (Changes leaves.model es c.args.tables.now.spaces.items c.args.t c.args.inputs.now (message_in m) (changing_of_mail mail leaves due) (changing_of_mail c.ask.new.mail c.ask.new.leaves due))) (sym c.in-Collect.is) asks

pub transit-requires : goal.transit-requires
transit-requires g c =
    let now = changing_of_mail c.args.mail.now c.args.leaves.now c.args.due.now.items in
    subst (λ (m : Message). CanServeBy c.args.tables.now c.args.t (message_in m) now) c.in-Transition.is c.requires

pub returns-in-Transition-clause-changes : goal.returns-in-Transition-clause-changes
returns-in-Transition-clause-changes g c =
    let old = changing_of_mail c.args.mail.now c.args.leaves.now c.args.due.now.items in
    let new = changing_of_mail c.transit.new.mail c.transit.new.leaves c.transit.new.due.items in
    subst (λ (m : Message). OnOk c.transit.result (ChangesBy c.args.tables.now c.args.t c.args.inputs.now (message_in m) old new)) (sym c.in-Transition.is) c.transit.ensures.transits

pub ask-requires : goal.ask-requires
ask-requires g c =
    let es = c.args.tables.now.entries.items in
    let mail = c.args.mail.now in
    let leaves = c.args.leaves.now in
    let can : CanAsk es c.in-Collect.to (changing_of_mail mail leaves c.args.due.now.items) =
    subst (λ (m : Message). CanServeBy c.args.tables.now c.args.t (message_in m) (changing_of_mail mail leaves c.args.due.now.items)) c.in-Collect.is c.requires in
    subst (λ (d : List (Option ℕ)). CanAsk es c.in-Collect.to (changing_of_mail mail leaves d)) (sym c.deref.ensures.value) can

pub take_output-requires-clause-from : goal.take_output-requires-clause-from
take_output-requires-clause-from g c =
    let now = changing_of_mail c.args.mail.now c.args.leaves.now c.args.due.now.items in
    let can : CanTake c.args.tables.now.entries.items c.in-Output.from now.notes =
    subst (λ (m : Message). CanServeBy c.args.tables.now c.args.t (message_in m) now) c.in-Output.is c.requires in
    kept-there c.args.mail.now.kept.items c.in-Output.from can.kept

pub take_output-requires-clause-waits : goal.take_output-requires-clause-waits
take_output-requires-clause-waits g c =
    let now = changing_of_mail c.args.mail.now c.args.leaves.now c.args.due.now.items in
    let can : CanTake c.args.tables.now.entries.items c.in-Output.from now.notes =
    subst (λ (m : Message). CanServeBy c.args.tables.now c.args.t (message_in m) now) c.in-Output.is c.requires in
    subst (λ (es : List Entry). IsAwaited es c.in-Output.from now.notes) (sym c.deref-in-Output.ensures.value) can.waits

pub returns-in-Output-clause-stays : goal.returns-in-Output-clause-stays
returns-in-Output-clause-stays g c = stays-same c.args.leaves.now

pub take_answer-requires-clause-from : goal.take_answer-requires-clause-from
take_answer-requires-clause-from g c =
    let now = changing_of_mail c.args.mail.now c.args.leaves.now c.args.due.now.items in
    let can : CanTake c.args.tables.now.entries.items c.in-Done.from now.notes =
    subst (λ (m : Message). CanServeBy c.args.tables.now c.args.t (message_in m) now) c.in-Done.is c.requires in
    kept-there c.args.mail.now.kept.items c.in-Done.from can.kept

pub take_answer-requires-clause-waits : goal.take_answer-requires-clause-waits
take_answer-requires-clause-waits g c =
    let now = changing_of_mail c.args.mail.now c.args.leaves.now c.args.due.now.items in
    let can : CanTake c.args.tables.now.entries.items c.in-Done.from now.notes =
    subst (λ (m : Message). CanServeBy c.args.tables.now c.args.t (message_in m) now) c.in-Done.is c.requires in
    subst (λ (es : List Entry). IsAwaited es c.in-Done.from now.notes) (sym c.deref-in-Done.ensures.value) can.waits

pub returns-in-Done-clause-stays : goal.returns-in-Done-clause-stays
returns-in-Done-clause-stays g c = stays-same c.args.leaves.now
