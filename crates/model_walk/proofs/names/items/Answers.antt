use Rattle.std.proofs.Common.{ap, ◌∙◌}
use Rattle.std.proofs.lemmas.List.{take_all}
use Rattle.std.specs.List.{flat_map}
use Rattle.model_walk.specs.Shown.{items_at}
use Rattle.model_walk.proofs.Read.{entries_at, is_read, items_are, items_more, read_under}
use Rattle.model_walk.proofs.names.items.Goals as goal

pub add_words-requires : goal.add_words-requires
add_words-requires c = λ has.
    let s = c.args.section.now in
    let r = c.read-item.result in
    let one = is_read s.name c.entries-read-items.result.now c.loop-read.read-index r c.loop-read-test.true c.read-item.is c.entries-read-items.ensures.values in
    c.requires s.name r.entry.now.value r.value (read_under s.name c.args.key.now r one has)

pub loop-read-preserved : goal.loop-read-preserved
loop-read-preserved c = items_more c.args.key.now c.entries-read-items.result.now c.loop-read.read-index c.read-item.result _ _ c.loop-read-test.true c.read-item.is c.loop-read.invariant c.in_ok-add_words.ensures

pub returns : goal.returns
returns c =
    let list = c.entries-read-items.result.now in
    c.loop-read.invariant ∙ ap (λ rs. flat_map (items_at c.args.key.now) (entries_at rs)) (take_all c.loop-read.read-index list c.loop-read-test.false)
    ∙ items_are c.args.key.now c.args.section.now list c.entries-read-items.ensures.entries
