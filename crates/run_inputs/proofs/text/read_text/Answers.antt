use Rattle.std.proofs.Common.{inl, refl, ◌∙◌, le_refl, arith}
use Rattle.std.proofs.lemmas.Option.{IfSome_then}
use Rattle.answer_model.specs.Status.{of_reading}
use Rattle.answer_model.specs.declared.status.Status.TheVariants as exit
use Rattle.answer_model.proofs.Causing.{nothing_read, said_ends, unread_ends}
use Rattle.run_inputs.proofs.Causing.{nothing_told}
use Rattle.run_inputs.proofs.Going.{if_some_all}
use Rattle.run_inputs.proofs.text.read_text.Goals as goal

-- ---- no memory for the name

pub returns-in_default : goal.returns-in_default
returns-in_default g c =
    let old = g.R.Room.outside c.args.room.now in
    record {
      reads = if_some_all old.files _ (λ files. inl refl);
      short = tt;
      causes = λ after s tells. nothing_told old old after s (nothing_read old) refl tells;
      faults = le_refl (g.R.Room.outside c.args.room.now).read_faults;
      only = nothing_read (g.R.Room.outside c.args.room.now);
    }

-- ---- the file was read

pub returns-in-Ok-read_whole : goal.returns-in-Ok-read_whole
returns-in-Ok-read_whole g c =
    let e = c.in-Ok-read_whole.ensures in
    record {
      reads = IfSome_then (g.R.Room.outside c.args.room.now).files e.bytes (λ files f. (f.0, e.tried));
      short = c.in-Ok-read_whole.ensures.short;
      causes = (e.misses, e.counts_faults);
      faults = c.in-Ok-read_whole.ensures.faults;
      only = c.in-Ok-read_whole.ensures.only;
    }

-- ---- it was not

pub returns-in-Err-Missing : goal.returns-in-Err-Missing
returns-in-Err-Missing g c =
    let e = rw c.in-Err-Missing.field-0-is at c.in-Err-Missing.ensures in
    let kept = c.in-Ok.ensures ∙ c.as_bytes.ensures.value in
    let old = g.R.Room.outside c.args.room.now in
    let mid = g.R.Room.outside c.read_whole.new.room in
    record {
      reads = IfSome_then (g.R.Room.outside c.args.room.now).files e.bytes (λ files f. (kept, f, e.tried));
      short = tt;
      causes = λ after s says. said_ends of_reading _ exit.Missing old mid after s refl refl (e.missing refl) e.only e.counts_faults says;
      faults = c.in-Err-Missing.ensures.faults;
      only = c.in-Err-Missing.ensures.only;
    }

pub returns-in-Err-ReadFault : goal.returns-in-Err-ReadFault
returns-in-Err-ReadFault g c =
    let e = rw c.in-Err-ReadFault.field-0-is at c.in-Err-ReadFault.ensures in
    let kept = c.in-Ok.ensures ∙ c.as_bytes.ensures.value in
    let old = g.R.Room.outside c.args.room.now in
    let mid = g.R.Room.outside c.read_whole.new.room in
    record {
      reads = if_some_all (g.R.Room.outside c.args.room.now).files _ (λ files. (kept, e.fault refl, e.tried));
      short = tt;
      causes = λ after s says. unread_ends of_reading c.in-Ok.kept old mid after s refl refl (e.fault refl) e.only says;
      faults = c.in-Err-ReadFault.ensures.faults;
      only = c.in-Err-ReadFault.ensures.only;
    }

pub returns-in-Err-TooLong : goal.returns-in-Err-TooLong
returns-in-Err-TooLong g c =
    let e = rw c.in-Err-TooLong.field-0-is at c.in-Err-TooLong.ensures in
    record {
      reads = IfSome_then (g.R.Room.outside c.args.room.now).files e.bytes (λ files f. (f.0, f.1, omega (arith, f.2, f.3), e.tried));
      short = tt;
      causes = (e.misses, e.counts_faults);
      faults = c.in-Err-TooLong.ensures.faults;
      only = c.in-Err-TooLong.ensures.only;
    }

pub returns-in-Err-Memory : goal.returns-in-Err-Memory
returns-in-Err-Memory g c =
    let e = rw c.in-Err-Memory.field-0-is at c.in-Err-Memory.ensures in
    let old = g.R.Room.outside c.args.room.now in
    let mid = g.R.Room.outside c.read_whole.new.room in
    record {
      reads = if_some_all (g.R.Room.outside c.args.room.now).files _ (λ files. e.tried);
      short = tt;
      causes = λ after s says. nothing_told old mid after s e.only e.counts_faults says;
      faults = c.in-Err-Memory.ensures.faults;
      only = c.in-Err-Memory.ensures.only;
    }
