use Rattle.std.proofs.Common.{◌≡◌, ◌++◌, sym, subst, rules}
use Rattle.std.specs.Option.{option_to_list}
use Rattle.std.specs.Prelude.{Result, Err}
use Rattle.run_loop.specs.declared.outputs.Output.TheVariants.{Log, Out, Frames}
use Rattle.run_loop.specs.declared.outputs.Unwritten.{Unwritten}
use Rattle.run_loop.specs.AskedFiles.{names_of}
use Rattle.run_loop.specs.Written.{MakesFiles}
use Rattle.run_loop.proofs.Making.{none_made, log_made, out_made, frames_made, one_unmade, state_made}
use Rattle.run_loop.proofs.create.create_files.Goals as goal

pub returns-in_err-create : goal.returns-in_err-create
returns-in_err-create g c =
    let n = names_of c.args.asked.now in
    let old = g.R.Room.outside c.args.room.now in
    let new = g.R.Room.outside c.create.new.room in
    let why = c.in_err-create.field-0.0 in
    let is : c.from_residual.result ≡ Err why = search rules in
    subst (λ (r : Result (Unit {0}) Unwritten). MakesFiles n old new r) (sym is) (one_unmade n why Log old.created old old new (none_made old) c.in_err-create.ensures)

pub returns-in_err-create-2 : goal.returns-in_err-create-2
returns-in_err-create-2 g c =
    let n = names_of c.args.asked.now in
    let old = g.R.Room.outside c.args.room.now in
    let mid = g.R.Room.outside c.create.new.room in
    let new = g.R.Room.outside c.create-2.new.room in
    let why = c.in_err-create-2.field-0.0 in
    let is : c.from_residual-in_err-create-2.result ≡ Err why = search rules in
    let made = log_made n old mid c.in_ok-create.ensures in
    subst (λ (r : Result (Unit {0}) Unwritten). MakesFiles n old new r) (sym is) (one_unmade n why Out (old.created ++ option_to_list n.log) old mid new made c.in_err-create-2.ensures)

pub returns-in_err-create-3 : goal.returns-in_err-create-3
returns-in_err-create-3 g c =
    let n = names_of c.args.asked.now in
    let old = g.R.Room.outside c.args.room.now in
    let mid = g.R.Room.outside c.create.new.room in
    let next = g.R.Room.outside c.create-2.new.room in
    let new = g.R.Room.outside c.create-3.new.room in
    let why = c.in_err-create-3.field-0.0 in
    let is : c.from_residual-in_err-create-3.result ≡ Err why = search rules in
    let made = out_made n old mid next c.in_ok-create.ensures c.in_ok-create-2.ensures in
    subst (λ (r : Result (Unit {0}) Unwritten). MakesFiles n old new r) (sym is)
    (one_unmade n why Frames (old.created ++ option_to_list n.log ++ option_to_list n.out) old next new made c.in_err-create-3.ensures)

pub returns : goal.returns
returns g c =
    let n = names_of c.args.asked.now in
    let old = g.R.Room.outside c.args.room.now in
    let mid = g.R.Room.outside c.create.new.room in
    let next = g.R.Room.outside c.create-2.new.room in
    let last = g.R.Room.outside c.create-3.new.room in
    state_made n old last (g.R.Room.outside c.create-4.new.room) c.create-4.result
    (frames_made n old mid next last c.in_ok-create.ensures c.in_ok-create-2.ensures c.in_ok-create-3.ensures) c.create-4.ensures
