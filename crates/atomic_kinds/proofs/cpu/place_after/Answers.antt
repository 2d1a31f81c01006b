use Rattle.std.proofs.Common.{◌≡◌, suc, ◌-◌, take, sym, ap, ◌∙◌, arith}
use Rattle.atomic_kinds.specs.Pairs.{place_for}
use Rattle.atomic_kinds.proofs.Rising.{behind, one_back}
use Rattle.atomic_kinds.proofs.cpu.place_after.Goals as goal

pub loop-place-preserved : goal.loop-place-preserved
loop-place-preserved c =
    let one : suc (c.loop-place.place - 1) ≡ c.loop-place.place = omega arith in
    let here = one_back c.args.at c.args.pairs.now.items (c.loop-place.place - 1) c.index.result.now (omega arith) c.index.ensures (omega arith) in
    (omega arith, here ∙ ap (λ n. place_for c.args.at (take n c.args.pairs.now.items)) one ∙ c.loop-place.invariant.1)

pub returns-else-ms-clause-place : goal.returns-else-ms-clause-place
returns-else-ms-clause-place c =
    let one : suc (c.loop-place.place - 1) ≡ c.loop-place.place = omega arith in
    let here = behind c.args.at 0 c.args.pairs.now.items (c.loop-place.place - 1) c.index.result.now c.requires (omega arith) c.index.ensures (omega arith) in
    sym one ∙ sym here ∙ ap (λ n. place_for c.args.at (take n c.args.pairs.now.items)) one ∙ c.loop-place.invariant.1
