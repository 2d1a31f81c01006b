use Rattle.std.proofs.Common.{◌≡◌, ◌<◌, ◌∙◌, pos, map, get_or, length, sym, ap, arith}
use Rattle.std.proofs.lemmas.List.{take_all}
use Rattle.cell_reach.specs.Neighbourhoods.{further}
use Rattle.cell_engine.specs.Step.{out_further}
use Rattle.cell_engine.proofs.Far.{is_below, further_is, out_is}
use Rattle.cell_engine.proofs.Grown.{set_more}
use Rattle.cell_engine.proofs.sight.see_further.Goals as goal

pub bounds-emitted-further : goal.bounds-emitted-further
bounds-emitted-further c =
    let d = get_or c.args.differences.now c.loop-place.place (pos 0) in
    let inside = c.requires.inside c.loop-place.place (pos 0) c.loop-place-test.true in
    let is : c.further.result ≡ further c.args.cell d = further_is (length c.args.emitted.now) c.args.cell c.further.result d c.requires.near c.requires.cells inside c.further.ensures in
    omega (arith, is, is_below (length c.args.emitted.now) c.args.cell d inside)

pub loop-place-preserved : goal.loop-place-preserved
loop-place-preserved c =
    let es = c.args.emitted.now in
    let cell = c.args.cell in
    let k = c.loop-place.place in
    let d = get_or c.args.differences.now k (pos 0) in
    let inside = c.requires.inside k (pos 0) c.loop-place-test.true in
    let is : c.further.result ≡ further cell d = further_is (length es) cell c.further.result d c.requires.near c.requires.cells inside c.further.ensures in
    let here : c.further.result < length es = omega (arith, is, is_below (length es) cell d inside) in
    set_more (out_further es cell) c.args.differences.now c.loop-place.seen k (pos 0) c.get.result c.loop-place-test.true
    (c.loop-place.auto.seen ∙ c.requires.length) c.loop-place.invariant (c.get.ensures ∙ out_is es cell c.further.result d c.index-emitted-further.result is here c.index-emitted-further.is)

pub returns : goal.returns
returns c =
    sym (take_all c.loop-place.place c.loop-place.seen (omega (arith, c.loop-place-test.false, c.loop-place.auto.seen, c.requires.length))) ∙ c.loop-place.invariant
    ∙ ap (map (out_further c.args.emitted.now c.args.cell)) (take_all c.loop-place.place c.args.differences.now c.loop-place-test.false)
