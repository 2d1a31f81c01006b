use Rattle.std.proofs.Common.{◌∙◌, refl, ap, length, set, false}
use Rattle.std.proofs.lemmas.List.{with_items_is}
use Rattle.leaf_set.specs.Words.{flags_of}
use Rattle.leaf_set.proofs.BitFlags.{flags-set, removed-marked, marked-at, leaf-within, word-within}
use Rattle.leaf_set.proofs.bits.BitSetLeafSet.remove.Goals as goal

pub clear-requires : goal.clear-requires
clear-requires c =
    let within = leaf-within c.self.inside.count c.args.leaf c.self.inside.words.items c.args.self.now c.self.view_is c.requires in
    rw c.deref_mut.ensures.value (word-within c.self.inside.count c.args.leaf c.self.inside.words.items c.self.inside.marks.items c.self.invariant within).0

pub invariant_of-self : goal.invariant_of-self
invariant_of-self c =
    let words = with_items_is c.self.inside.words c.clear.new.words (c.clear.auto.words ∙ c.deref_mut.ensures.len) in
    marked-at c.self.inside.count c.clear.new.words c.self.inside.marks.items _ _ words refl
    (removed-marked c.self.inside.count c.args.leaf c.self.inside.words.items c.self.inside.marks.items c.clear.new.words c.self.invariant
    (rw c.deref_mut.ensures.value at c.clear.ensures) (c.clear.auto.words ∙ ap length c.deref_mut.ensures.value))

pub returns : goal.returns
returns c =
    let within = leaf-within c.self.inside.count c.args.leaf c.self.inside.words.items c.args.self.now c.self.view_is c.requires in
    let words = with_items_is c.self.inside.words c.clear.new.words (c.clear.auto.words ∙ c.deref_mut.ensures.len) in
    ap (λ ws. flags_of ws c.self.inside.count) words
    ∙ flags-set c.self.inside.words.items c.clear.new.words c.self.inside.count c.args.leaf false (rw c.deref_mut.ensures.value at c.clear.ensures) within
    ∙ ap (λ flags. set flags c.args.leaf false) c.self.view_is
