use Rattle.std.proofs.Common.{◌∙◌, ap, sym, length, set, true}
use Rattle.std.proofs.lemmas.List.{with_items_is}
use Rattle.leaf_set.specs.Members.{is_in}
use Rattle.leaf_set.specs.Words.{flags_of, has}
use Rattle.leaf_set.proofs.BitFlags.{flags-set, is_in-flags, kept-in-set, inserted-marked, marked-at, leaf-within, word-within}
use Rattle.leaf_set.proofs.bits.BitSetLeafSet.insert.Goals as goal

pub is_set-requires : goal.is_set-requires
is_set-requires c =
    let within = leaf-within c.self.inside.count c.args.leaf c.self.inside.words.items c.args.self.now c.self.view_is c.requires in
    rw c.deref.ensures.value (word-within c.self.inside.count c.args.leaf c.self.inside.words.items c.self.inside.marks.items c.self.invariant within).0

pub returns-then-is_set : goal.returns-then-is_set
returns-then-is_set c =
    let within = leaf-within c.self.inside.count c.args.leaf c.self.inside.words.items c.args.self.now c.self.view_is c.requires in
    let words = c.self.inside.words.items in
    kept-in-set c.args.self.now c.args.leaf c.requires
    (sym (ap (λ flags. is_in flags c.args.leaf) c.self.view_is) ∙ is_in-flags words c.self.inside.count c.args.leaf within
    ∙ sym (c.is_set.ensures ∙ ap (λ ws. has ws c.args.leaf) c.deref.ensures.value) ∙ c.if-is_set.true)

pub set-requires : goal.set-requires
set-requires c =
    let within = leaf-within c.self.inside.count c.args.leaf c.self.inside.words.items c.args.self.now c.self.view_is c.requires in
    rw c.deref_mut.ensures.value (word-within c.self.inside.count c.args.leaf c.self.inside.words.items c.self.inside.marks.items c.self.invariant within).0

pub set-requires-2 : goal.set-requires-2
set-requires-2 c =
    let within = leaf-within c.self.inside.count c.args.leaf c.self.inside.words.items c.args.self.now c.self.view_is c.requires in
    rw c.deref_mut-2.ensures.value (word-within c.self.inside.count c.args.leaf c.self.inside.words.items c.self.inside.marks.items c.self.invariant within).1

pub invariant_of-self : goal.invariant_of-self
invariant_of-self c =
    let within = leaf-within c.self.inside.count c.args.leaf c.self.inside.words.items c.args.self.now c.self.view_is c.requires in
    let words = with_items_is c.self.inside.words c.set.new.words (c.set.auto.words ∙ c.deref_mut.ensures.len) in
    let marks = with_items_is c.self.inside.marks c.set-2.new.words (c.set-2.auto.words ∙ c.deref_mut-2.ensures.len) in
    marked-at c.self.inside.count c.set.new.words c.set-2.new.words _ _ words marks
    (inserted-marked c.self.inside.count c.args.leaf c.self.inside.words.items c.self.inside.marks.items c.set.new.words c.set-2.new.words c.self.invariant within
    (rw c.deref_mut.ensures.value at c.set.ensures) (rw c.deref_mut-2.ensures.value at c.set-2.ensures)
    (c.set.auto.words ∙ ap length c.deref_mut.ensures.value) (c.set-2.auto.words ∙ ap length c.deref_mut-2.ensures.value))

pub returns : goal.returns
returns c =
    let within = leaf-within c.self.inside.count c.args.leaf c.self.inside.words.items c.args.self.now c.self.view_is c.requires in
    let words = with_items_is c.self.inside.words c.set.new.words (c.set.auto.words ∙ c.deref_mut.ensures.len) in
    ap (λ ws. flags_of ws c.self.inside.count) words
    ∙ flags-set c.self.inside.words.items c.set.new.words c.self.inside.count c.args.leaf true (rw c.deref_mut.ensures.value at c.set.ensures) within
    ∙ ap (λ flags. set flags c.args.leaf true) c.self.view_is
