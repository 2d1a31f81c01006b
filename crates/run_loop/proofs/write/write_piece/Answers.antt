use Rattle.std.proofs.Common.{◌≡◌, [], refl, sym, subst}
use Rattle.std.specs.Result.{IsOk, OnOk}
use Rattle.run_loop.specs.AskedFiles.{names_of}
use Rattle.run_loop.specs.Order.{piece_of, one_piece}
use Rattle.run_loop.specs.Written.{Writes}
use Rattle.run_loop.proofs.Adding.{fell_at_once, writes_created}
use Rattle.run_loop.proofs.Cycles.{on_ok_so}
use Rattle.run_loop.proofs.write.write_piece.Goals as goal

pub returns-in-Ok : goal.returns-in-Ok
returns-in-Ok g c =
    let old = g.R.Room.outside c.args.room.now in
    let new = g.R.Room.outside c.write_to.new.room in
    record {
      texts = λ bytes h.
          let is = subst (λ r. OnOk r (c.args.piece.now ≡ bytes)) c.in-Ok.is h in
          subst (λ text. Writes (names_of c.args.asked.now) (one_piece c.args.file text) old new c.write_to.result) is c.write_to.ensures;
      filled = on_ok_so c.write_to.result (subst IsOk (sym c.in-Ok.is) refl);
      created = writes_created (names_of c.args.asked.now) (one_piece c.args.file c.args.piece.now) old new c.write_to.result c.write_to.ensures;
    }

pub returns-in-Err-clause-texts : goal.returns-in-Err-clause-texts
returns-in-Err-clause-texts g c = λ bytes h. fell_at_once (names_of c.args.asked.now) (piece_of c.args.file bytes) [] (g.R.Room.outside c.args.room.now)
