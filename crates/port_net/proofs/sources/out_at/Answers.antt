use Rattle.std.proofs.Common.{length, refl}
use Rattle.std.proofs.lemmas.Option.{slice_get_read}
use Rattle.port_net.proofs.sources.out_at.Goals as goal

pub returns-then-place-outs : goal.returns-then-place-outs
returns-then-place-outs c = slice_get_read c.args.outs.now (length c.args.outs.now) c.args.place c.index-outs-place.result refl c.if-place-outs.true c.index-outs-place.is
