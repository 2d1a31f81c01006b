use Rattle.std.proofs.Common.{rules}
use Rattle.std.proofs.lemmas.Result.{err_from_is_err_and}
use Rattle.room_edge.proofs.Folders.{folder-more, folder-same}
use Rattle.room_edge.proofs.sure.grow.Goals as goal

pub returns-in_err-extend_from_slice-clause-err : goal.returns-in_err-extend_from_slice-clause-err
returns-in_err-extend_from_slice-clause-err c =
    rw (err_from_is_err_and c.from_residual.result c.from_residual.ensures.1).1
    (folder-same c.args.name.now c.args.files.now (c.get_mut.follows.lender c.extend_from_slice.new.self) c.in-Some.file.now c.extend_from_slice.new.self (search rules) c.in_err-extend_from_slice.ensures.items ((c.get_mut.follows.holds c.extend_from_slice.new.self).3 (search rules)))

pub returns-in_ok-extend_from_slice-clause-ok : goal.returns-in_ok-extend_from_slice-clause-ok
returns-in_ok-extend_from_slice-clause-ok c =
    folder-more c.args.name.now c.args.bytes.now c.args.files.now (c.get_mut.follows.lender c.extend_from_slice.new.self) c.in-Some.file.now c.extend_from_slice.new.self (search rules) c.in_ok-extend_from_slice.ensures.items ((c.get_mut.follows.holds c.extend_from_slice.new.self).3 (search rules))
