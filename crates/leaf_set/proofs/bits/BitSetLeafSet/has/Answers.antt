use Rattle.std.proofs.Common.{◌∙◌, sym, ap}
use Rattle.leaf_set.specs.Members.{is_in}
use Rattle.leaf_set.specs.Words.{has}
use Rattle.leaf_set.proofs.BitFlags.{is_in-flags, leaf-within, word-within}
use Rattle.leaf_set.proofs.bits.BitSetLeafSet.has.Goals as goal

pub is_set-requires : goal.is_set-requires
is_set-requires c =
    let within = leaf-within c.self.inside.count c.args.leaf c.self.inside.words.items c.args.self.now c.self.view_is c.requires in
    rw c.deref.ensures.value (word-within c.self.inside.count c.args.leaf c.self.inside.words.items c.self.inside.marks.items c.self.invariant within).0

pub returns : goal.returns
returns c =
    let within = leaf-within c.self.inside.count c.args.leaf c.self.inside.words.items c.args.self.now c.self.view_is c.requires in
    c.is_set.ensures ∙ ap (λ words. has words c.args.leaf) c.deref.ensures.value
    ∙ sym (is_in-flags c.self.inside.words.items c.self.inside.count c.args.leaf within) ∙ ap (λ flags. is_in flags c.args.leaf) c.self.view_is
