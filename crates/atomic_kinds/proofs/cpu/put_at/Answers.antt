use Rattle.std.proofs.Common.{arith}
use Rattle.atomic_kinds.proofs.PairLemmas.{put_in_place, taken}
use Rattle.atomic_kinds.proofs.Rising.{put_rises}
use Rattle.atomic_kinds.proofs.cpu.put_at.Goals as goal

pub returns-clause-items : goal.returns-clause-items
returns-clause-items c =
    let put = taken c.insert.result _ _ c.insert.ensures.items c.insert.ensures.full (λ full. omega arith) in
    rw (put, c.place_after-place.ensures.place) (put_in_place c.args.at c.args.value.now c.args.pairs.now.items)

pub returns-clause-rising : goal.returns-clause-rising
returns-clause-rising c =
    let put = taken c.insert.result _ _ c.insert.ensures.items c.insert.ensures.full (λ full. omega arith) in
    rw (put, c.place_after-place.ensures.place) (put_rises c.args.at c.args.value.now c.args.pairs.now.items c.requires.rising)
