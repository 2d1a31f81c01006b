use Rattle.std.proofs.Common.{◌∙◌, FitsSigned, w64, arith, rules}
use Rattle.std.proofs.lemmas.Int.{to_z-of_z}
use Rattle.atomic_kinds.proofs.Steps.{all_put, pair_put}
use Rattle.atomic_kinds.proofs.cpu.put_words.Goals as goal

pub loop-pair-preserved : goal.loop-pair-preserved
loop-pair-preserved c =
    let time : FitsSigned w64 c.time_word.result = search rules in
    let value : FitsSigned w64 c.value_word.result = search rules in
    pair_put c.loop-pair.words.items c.push.new.self.items c.push-in-loop-pair.new.self.items _ _ _ c.args.pairs.now c.loop-pair.pair-index _ c.pair-item.result c.loop-pair-test.true c.pair-item.is
    (to_z-of_z w64 c.time_word.result time ∙ c.time_word.ensures) (to_z-of_z w64 c.value_word.result value ∙ c.value_word.ensures.value)
    c.in_ok-push.ensures.items c.in_ok-push-2.ensures.items c.loop-pair.invariant

pub returns : goal.returns
returns c = all_put c.loop-pair.words.items _ c.args.pairs.now c.loop-pair.pair-index (omega arith) c.loop-pair.invariant
