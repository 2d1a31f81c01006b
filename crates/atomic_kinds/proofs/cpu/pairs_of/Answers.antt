use Rattle.std.proofs.Common.{◌≡◌, true, not, is_ok, ap, ◌∙◌, sym}
use Rattle.atomic_kinds.proofs.PairLemmas.{pair_read}
use Rattle.atomic_kinds.proofs.cpu.pairs_of.Goals as goal

pub loop-pair-preserved : goal.loop-pair-preserved
loop-pair-preserved c =
    let ok : is_ok c.push_back.result ≡ true = c.is_err.ensures.negation ∙ ap not c.if-is_err.false in (
      sym c.in-Some.ensures.1 ∙ c.loop-pair.invariant.0,
      rw (c.push_back.ensures.items, ok) (pair_read c.loop-pair.pairs.items c.in-Some.pair c.loop-pair.rest.now c.in-Some.others.now c.in-Some.ensures.0 ∙ c.loop-pair.invariant.1),
    )
