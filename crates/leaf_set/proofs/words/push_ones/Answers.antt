use Rattle.std.proofs.Common.{◌++◌, ◌∙◌, length, append-nil, length-append, sym, ap, arith}
use Rattle.leaf_set.specs.Words.{ones_of}
use Rattle.leaf_set.proofs.TakenWords.{one-next, one-room, none-left}
use Rattle.leaf_set.proofs.words.push_ones.Goals as goal

pub push_reserved-requires : goal.push_reserved-requires
push_reserved-requires c =
    let some = one-room c.ones.left c.take_lowest-bit.new.word c.take_lowest-bit.result c.args.at c.take_lowest-bit.ensures in
    omega (arith, some, ap length c.ones.invariant.taken, length-append c.ones.into.items (ones_of c.ones.left c.args.at), length-append c.args.into.now.items (ones_of c.args.word c.args.at), c.requires.room, c.ones.invariant.capacity, c.ones.into.ok.0, c.args.into.now.ok.0)

pub ones-preserved : goal.ones-preserved
ones-preserved c = record {
  taken =
      one-next c.ones.left c.take_lowest-bit.new.word c.take_lowest-bit.result c.args.at c.ones.into.items c.push_reserved.new.self.items (c.args.into.now.items ++ ones_of c.args.word c.args.at) c.take_lowest-bit.ensures c.push_reserved.ensures.items c.ones.invariant.taken;
  capacity = c.push_reserved.ensures.capacity ∙ c.ones.invariant.capacity;
}

pub returns-clause-taken : goal.returns-clause-taken
returns-clause-taken c =
    sym (append-nil c.ones.into.items) ∙ ap (λ ls. c.ones.into.items ++ ls) (sym (none-left c.args.at))
    ∙ ap (λ left. c.ones.into.items ++ ones_of left c.args.at) (sym c.ones-test.false) ∙ c.ones.invariant.taken
