use Rattle.std.proofs.Common.{◌*◌, ◌++◌, ◌∙◌, List, ℕ, false, length, replicate, sym, ap, arith}
use Rattle.std.proofs.lemmas.List.{with_items_is}
use Rattle.leaf_set.specs.Members.{members_of}
use Rattle.leaf_set.specs.Words.{has, those_from, flags_of}
use Rattle.leaf_set.proofs.BitFlags.{flags-none, length-flags, length-leaves, leaves-are, emptied-marked, marked-at}
use Rattle.leaf_set.proofs.bits.BitSetLeafSet.take_all.Goals as goal

pub take_marked-requires-clause-room : goal.take_marked-requires-clause-room
take_marked-requires-clause-room c =
    let few = length-leaves c.self.inside.count c.self.inside.words.items c.self.inside.marks.items c.self.invariant in
    let here = ap (λ words. length (those_from (has words) 0 (64 * length words))) c.deref_mut.ensures.value in
    omega (arith, few, here, length-flags c.self.inside.words.items c.self.inside.count, ap length c.self.view_is, ap length c.requires.empty, c.requires.room, c.args.into.now.ok.0)

pub invariant_of-self : goal.invariant_of-self
invariant_of-self c =
    let words = with_items_is c.self.inside.words c.take_marked.new.words (c.take_marked.auto.words ∙ c.deref_mut.ensures.len) in
    let marks = with_items_is c.self.inside.marks c.take_marked.new.marks (c.take_marked.auto.marks ∙ c.deref_mut-2.ensures.len) in
    marked-at c.self.inside.count c.take_marked.new.words c.take_marked.new.marks _ _ words marks
    (emptied-marked c.self.inside.count c.self.inside.words.items c.self.inside.marks.items c.take_marked.new.words c.take_marked.new.marks c.self.invariant c.take_marked.ensures.left
    (c.take_marked.auto.words ∙ ap length c.deref_mut.ensures.value) (c.take_marked.auto.marks ∙ ap length c.deref_mut-2.ensures.value))

pub returns-clause-taken : goal.returns-clause-taken
returns-clause-taken c =
    c.take_marked.ensures.taken
    ∙ ap (λ (ls : List ℕ). ls ++ those_from (has c.deref_mut.result.now) 0 (64 * length c.deref_mut.result.now)) c.requires.empty
    ∙ ap (λ words. those_from (has words) 0 (64 * length words)) c.deref_mut.ensures.value
    ∙ leaves-are c.self.inside.count c.self.inside.words.items c.self.inside.marks.items c.self.invariant ∙ ap members_of c.self.view_is

pub returns-clause-left : goal.returns-clause-left
returns-clause-left c =
    let words = with_items_is c.self.inside.words c.take_marked.new.words (c.take_marked.auto.words ∙ c.deref_mut.ensures.len) in
    ap (λ ws. flags_of ws c.self.inside.count) words ∙ flags-none c.take_marked.new.words c.self.inside.count c.take_marked.ensures.left
    ∙ ap (λ n. replicate n false) (sym (length-flags c.self.inside.words.items c.self.inside.count) ∙ ap length c.self.view_is)
