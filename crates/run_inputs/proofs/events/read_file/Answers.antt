use Rattle.std.proofs.Common.{◌≤◌, length, sym, ◌∙◌, ap, subst, arith, rules}
use Rattle.std.proofs.lemmas.Option.{IfSome_then}
use Rattle.event_list.specs.declared.refusal.EventRefusal.TheVariants as E
use Rattle.event_list.specs.Events.{events_of}
use Rattle.run_inputs.proofs.Causing.{events_told}
use Rattle.run_inputs.proofs.EventFiles.{events_there, events_off, events_unread, long_refused}
use Rattle.run_inputs.proofs.events.read_file.Goals as goal

-- ---- there are bytes

pub read-requires-clause-short : goal.read-requires-clause-short
read-requires-clause-short g c =
    let e = rw c.in-Ok-Some.field-0-is at c.in-Ok-Some.ensures in
    let short : length c.deref.result.now ≤ 16777216 = subst (λ bytes. length bytes ≤ 16777216) (sym c.deref.ensures.value) e.short in
    omega (arith, short)

pub returns-in-Ok : goal.returns-in-Ok
returns-in-Ok g c =
    let name = c.args.name.now in
    let ports = c.args.ports.now in
    let old = g.R.Room.outside c.args.room.now in
    let mid = g.R.Room.outside c.read_text.new.room in
    let e = rw c.in-Ok-Some.field-0-is at c.in-Ok-Some.ensures in
    let is = sym (ap (λ bytes. events_of bytes ports) c.deref.ensures.value) ∙ c.in-Ok.ensures.ok in
    record {
      reads = IfSome_then old.files e.reads (λ files f. events_there name ports files old mid f.1 e.only e.faults c.in-Ok-Some.bytes.items c.in-Ok.events f.0 is);
      causes = e.causes;
      only = c.in-Ok-Some.ensures.only;
      at_inputs = search rules;
    }

pub returns-in-Ok-Some : goal.returns-in-Ok-Some
returns-in-Ok-Some g c =
    let name = c.args.name.now in
    let ports = c.args.ports.now in
    let old = g.R.Room.outside c.args.room.now in
    let mid = g.R.Room.outside c.read_text.new.room in
    let e = rw c.in-Ok-Some.field-0-is at c.in-Ok-Some.ensures in
    record {
      reads = IfSome_then old.files e.reads (λ files f. events_off name ports files old mid f.1 e.only e.faults c.in-Ok-Some.bytes.items c.in-Err-read.refusal f.0
          (λ other. sym (ap (λ bytes. events_of bytes ports) c.deref.ensures.value) ∙ c.in-Err-read.ensures.err other));
      causes = λ after s tells. events_told c.in-Err-read.refusal (g.R.Room.outside c.args.room.now) (g.R.Room.outside c.read_text.new.room) after s e.only e.causes.1 tells;
      only = c.in-Ok-Some.ensures.only;
      at_inputs = tt;
    }

-- ---- there are too many

pub returns-in-Ok-None : goal.returns-in-Ok-None
returns-in-Ok-None g c =
    let name = c.args.name.now in
    let ports = c.args.ports.now in
    let old = g.R.Room.outside c.args.room.now in
    let mid = g.R.Room.outside c.read_text.new.room in
    let e = rw c.in-Ok-None.field-0-is at c.in-Ok-None.ensures in
    record {
      reads = IfSome_then old.files e.reads (λ files f. events_off name ports files old mid f.3 e.only e.faults f.0 (E.TooLarge 0) f.1 (λ other. long_refused f.0 ports f.2));
      causes = λ after s says. events_told (E.TooLarge 0) (g.R.Room.outside c.args.room.now) (g.R.Room.outside c.read_text.new.room) after s e.only e.causes.1 says;
      only = c.in-Ok-None.ensures.only;
      at_inputs = tt;
    }

-- ---- the file was not read

pub returns : goal.returns
returns g c =
    let e = c.in-Err.ensures in
    let old = g.R.Room.outside c.args.room.now in
    record {
      reads = IfSome_then old.files e.reads (λ files is. events_unread c.args.name.now c.args.ports.now files old (g.R.Room.outside c.read_text.new.room) c.in-Err.why e.only e.faults is);
      causes = c.in-Err.ensures.causes;
      only = c.in-Err.ensures.only;
      at_inputs = tt;
    }
