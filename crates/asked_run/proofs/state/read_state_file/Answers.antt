use Rattle.std.proofs.Common.{subst}
use Rattle.std.proofs.lemmas.Option.{IfSome_then}
use Rattle.quantity.specs.Bytes.{Bytes}
use Rattle.text_forms.specs.declared.refusal.StateRefusal.TheVariants as S
use Rattle.asked_run.specs.Stages.{GoesOnBy}
use Rattle.run_inputs.proofs.Causing.{state_told}
use Rattle.asked_run.proofs.StateFiles.{goes_reads, goes_causes, goes_resumed, state_long, state_unread}
use Rattle.asked_run.proofs.state.read_state_file.Goals as goal

-- ---- there are bytes

pub returns-in-Ok-Some : goal.returns-in-Ok-Some
returns-in-Ok-Some g c =
    let old = g.R.Room.outside c.args.room.now in
    let mid = g.R.Room.outside c.read_text.new.room in
    let e = rw c.in-Ok-Some.field-0-is at c.in-Ok-Some.ensures in
    let goes = subst (λ (bytes : Bytes). GoesOnBy bytes c.args.run c.args.end c.go_on.result) c.deref.ensures.value c.go_on.ensures in
    record {
      reads = IfSome_then old.files e.reads (λ files f. goes_reads c.args.name.now c.args.run c.args.end files old mid e.only e.causes.1 c.in-Ok-Some.text.items f.0 f.1 c.go_on.result goes);
      causes = goes_causes c.deref.result.now c.args.run c.args.end (g.R.Room.outside c.args.room.now) (g.R.Room.outside c.read_text.new.room) e.only e.causes.0 e.causes.1 c.go_on.result c.go_on.ensures;
      only = c.in-Ok-Some.ensures.only;
      goes_on = goes_resumed c.args.name.now c.deref.result.now c.args.run c.args.end c.go_on.result c.go_on.ensures;
    }

-- ---- there are too many

pub returns-in-Ok-None : goal.returns-in-Ok-None
returns-in-Ok-None g c =
    let old = g.R.Room.outside c.args.room.now in
    let mid = g.R.Room.outside c.read_text.new.room in
    let e = rw c.in-Ok-None.field-0-is at c.in-Ok-None.ensures in
    record {
      reads = IfSome_then old.files e.reads (λ files f. state_long c.args.name.now c.args.run c.args.end files old mid f.3 e.only e.faults f.0 f.1 f.2);
      causes = λ after s says. state_told (S.TooLarge 0) (g.R.Room.outside c.args.room.now) (g.R.Room.outside c.read_text.new.room) after s e.only e.causes.1 says;
      only = c.in-Ok-None.ensures.only;
      goes_on = tt;
    }

-- ---- the file was not read

pub returns-in-Err : goal.returns-in-Err
returns-in-Err g c =
    let old = g.R.Room.outside c.args.room.now in
    let e = c.in-Err.ensures in
    record {
      reads = IfSome_then old.files e.reads (λ files is. state_unread c.args.name.now c.args.run c.args.end files old (g.R.Room.outside c.read_text.new.room) c.in-Err.why e.only e.faults is);
      causes = c.in-Err.ensures.causes;
      only = c.in-Err.ensures.only;
      goes_on = tt;
    }
