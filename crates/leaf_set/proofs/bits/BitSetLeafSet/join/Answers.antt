use Rattle.std.proofs.Common.{◌∙◌, ◌||◌, ℕ, List, length, sym, ap, subst}
use Rattle.std.proofs.lemmas.List.{with_items_is}
use Rattle.leaf_set.specs.Members.{is_in}
use Rattle.leaf_set.specs.Words.{flags_of, AreMarked}
use Rattle.leaf_set.proofs.BitFlags.{length-flags, joined-marked, flags-joined, as-many, count-same, marked-at}
use Rattle.leaf_set.proofs.bits.BitSetLeafSet.join.Goals as goal

pub join_marked-requires-clause-as_many : goal.join_marked-requires-clause-as_many
join_marked-requires-clause-as_many c =
    let s = c.self.inside in
    let o = c.other.inside in
    let same = count-same s.count o.count s.words.items o.words.items c.args.self.now c.args.other.now c.self.view_is c.other.view_is c.requires in
    ap length c.deref.ensures.value ∙ (as-many s.count o.count s.words.items s.marks.items o.words.items o.marks.items c.self.invariant c.other.invariant same).0 ∙ sym (ap length c.deref_mut.ensures.value)

pub join_marked-requires-clause-as_many_marks : goal.join_marked-requires-clause-as_many_marks
join_marked-requires-clause-as_many_marks c =
    let s = c.self.inside in
    let o = c.other.inside in
    let same = count-same s.count o.count s.words.items o.words.items c.args.self.now c.args.other.now c.self.view_is c.other.view_is c.requires in
    ap length c.deref-2.ensures.value ∙ (as-many s.count o.count s.words.items s.marks.items o.words.items o.marks.items c.self.invariant c.other.invariant same).1 ∙ sym (ap length c.deref_mut-2.ensures.value)

pub invariant_of-self : goal.invariant_of-self
invariant_of-self c =
    let s = c.self.inside in
    let o = c.other.inside in
    let same = count-same s.count o.count s.words.items o.words.items c.args.self.now c.args.other.now c.self.view_is c.other.view_is c.requires in
    let words = with_items_is s.words c.join_marked.new.words (c.join_marked.auto.words ∙ c.deref_mut.ensures.len) in
    let marks = with_items_is s.marks c.join_marked.new.marks (c.join_marked.auto.marks ∙ c.deref_mut-2.ensures.len) in
    let others : AreMarked s.count o.words.items o.marks.items = subst (λ (n : ℕ). AreMarked n o.words.items o.marks.items) same c.other.invariant in
    marked-at s.count c.join_marked.new.words c.join_marked.new.marks _ _ words marks
    (joined-marked s.count s.words.items s.marks.items o.words.items o.marks.items c.join_marked.new.words c.join_marked.new.marks c.self.invariant others
    (rw (c.deref_mut.ensures.value, c.deref.ensures.value) at c.join_marked.ensures.words)
    (rw (c.deref_mut-2.ensures.value, c.deref-2.ensures.value) at c.join_marked.ensures.marks)
    (c.join_marked.auto.words ∙ ap length c.deref_mut.ensures.value) (c.join_marked.auto.marks ∙ ap length c.deref_mut-2.ensures.value))

pub returns : goal.returns
returns c =
    let s = c.self.inside in
    let o = c.other.inside in
    let same = count-same s.count o.count s.words.items o.words.items c.args.self.now c.args.other.now c.self.view_is c.other.view_is c.requires in
    let words = with_items_is s.words c.join_marked.new.words (c.join_marked.auto.words ∙ c.deref_mut.ensures.len) in
    record {
      long =
          ap (λ (ws : List ℕ). length (flags_of ws s.count)) words ∙ length-flags c.join_marked.new.words s.count
          ∙ sym (length-flags s.words.items s.count) ∙ ap length c.self.view_is;
      either = λ k.
          ap (λ (ws : List ℕ). is_in (flags_of ws s.count) k) words
          ∙ flags-joined s.count o.count s.words.items o.words.items c.join_marked.new.words same (rw (c.deref_mut.ensures.value, c.deref.ensures.value) at c.join_marked.ensures.words) k
          ∙ (λ i. is_in (c.self.view_is i) k || is_in (c.other.view_is i) k);
    }
