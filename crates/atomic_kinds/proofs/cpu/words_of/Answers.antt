use Rattle.std.proofs.Common.{ap, sym, ◌∙◌}
use Rattle.atomic_kinds.specs.Pairs.{pair_words}
use Rattle.atomic_kinds.proofs.PairLemmas.{pair_words-append}
use Rattle.atomic_kinds.proofs.cpu.words_of.Goals as goal

pub returns : goal.returns
returns c =
    let front = c.in_ok-put_words.ensures in
    let back = c.in_ok-put_words-2.ensures in
    rw (back, front, c.new-words.ensures.items) (sym (pair_words-append c.as_slices.result.0.now c.as_slices.result.1.now) ∙ ap pair_words c.as_slices.ensures.items)
