use Rattle.std.proofs.Common.{◌∙◌, false, length, replicate, sym, ap}
use Rattle.std.proofs.lemmas.List.{with_items_is}
use Rattle.leaf_set.specs.Words.{flags_of}
use Rattle.leaf_set.proofs.BitFlags.{flags-none, length-flags, emptied-marked, marked-at}
use Rattle.leaf_set.proofs.bits.BitSetLeafSet.empty.Goals as goal

pub invariant_of-self : goal.invariant_of-self
invariant_of-self c =
    let words = with_items_is c.self.inside.words c.clear_marked.new.words (c.clear_marked.auto.words ∙ c.deref_mut.ensures.len) in
    let marks = with_items_is c.self.inside.marks c.clear_marked.new.marks (c.clear_marked.auto.marks ∙ c.deref_mut-2.ensures.len) in
    marked-at c.self.inside.count c.clear_marked.new.words c.clear_marked.new.marks _ _ words marks
    (emptied-marked c.self.inside.count c.self.inside.words.items c.self.inside.marks.items c.clear_marked.new.words c.clear_marked.new.marks c.self.invariant c.clear_marked.ensures.left
    (c.clear_marked.auto.words ∙ ap length c.deref_mut.ensures.value) (c.clear_marked.auto.marks ∙ ap length c.deref_mut-2.ensures.value))

pub returns : goal.returns
returns c =
    let words = with_items_is c.self.inside.words c.clear_marked.new.words (c.clear_marked.auto.words ∙ c.deref_mut.ensures.len) in
    ap (λ ws. flags_of ws c.self.inside.count) words ∙ flags-none c.clear_marked.new.words c.self.inside.count c.clear_marked.ensures.left
    ∙ ap (λ n. replicate n false) (sym (length-flags c.self.inside.words.items c.self.inside.count) ∙ ap length c.self.view_is)
