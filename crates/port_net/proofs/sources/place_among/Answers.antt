use Rattle.std.proofs.Common.{◌≡◌, Some, length, refl, ap, sym, ◌∙◌}
use Rattle.std.specs.Prelude.{slice_get}
use Rattle.std.proofs.lemmas.Option.{slice_get_read}
use Rattle.std.proofs.lemmas.Result.{IfOk-weaker}
use Rattle.std.proofs.lemmas.Slice.Eq.{bytes_eq-Decides}
use Rattle.port_net.proofs.sources.place_among.Goals as goal

pub returns-then-same : goal.returns-then-same
returns-then-same c =
    let same : c.index-names-i.result ≡ c.args.name.now = (bytes_eq-Decides c.index-names-i.result c.args.name.now).0 (sym c.same.ensures ∙ c.if-same.true) in
    let found : slice_get c.args.names.now c.loop-i.i ≡ Some c.args.name.now =
    slice_get_read c.args.names.now (length c.args.names.now) c.loop-i.i c.index-names-i.result refl c.loop-i-test.true c.index-names-i.is ∙ ap Some same in
    IfOk-weaker c.counted.result _ _ (λ k h. ap (slice_get c.args.names.now) h ∙ found) c.counted.ensures.number
