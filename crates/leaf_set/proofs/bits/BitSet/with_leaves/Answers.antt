use Rattle.std.proofs.Common.{◌≡◌, ◌+◌, ◌*◌, ◌/◌, ◌∙◌, refl, ap, rules, replicate}
use Rattle.leaf_set.specs.Words.{flags_of}
use Rattle.leaf_set.proofs.BitFlags.{empty-marked, flags-none, marked-at}
use Rattle.leaf_set.proofs.WordBits.{none-of-zeros}
use Rattle.leaf_set.proofs.bits.BitSet.with_leaves.Goals as goal

pub invariant_of-result : goal.invariant_of-result
invariant_of-result c =
    let blocks = c.args.n / 4096 + 1 in
    let words : c.in_ok-words.words.items ≡ replicate (64 * blocks) 0 = search rules in
    let marks : c.in_ok-marks.marks.items ≡ replicate blocks 0 = search rules in
    marked-at c.args.n (replicate (64 * blocks) 0) (replicate blocks 0) c.in_ok-words.words.items c.in_ok-marks.marks.items words marks
    (empty-marked c.args.n blocks (search rules) refl)

pub returns : goal.returns
returns c =
    let blocks = c.args.n / 4096 + 1 in
    let words : c.in_ok-words.words.items ≡ replicate (64 * blocks) 0 = search rules in
    ap (λ ws. flags_of ws c.args.n) words ∙ flags-none (replicate (64 * blocks) 0) c.args.n (none-of-zeros (64 * blocks))
