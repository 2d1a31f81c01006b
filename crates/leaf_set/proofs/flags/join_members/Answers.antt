use Rattle.std.proofs.Common.{◌∙◌, arith}
use Rattle.leaf_set.proofs.Flagged.{one-joined, one-left, all-joined}
use Rattle.leaf_set.proofs.flags.join_members.Goals as goal

pub loop-leaf-preserved : goal.loop-leaf-preserved
loop-leaf-preserved c = record {
  joined = one-joined c.args.members.now c.args.more.now c.loop-leaf.members c.join_member.new.members c.loop-leaf.leaf c.loop-leaf.invariant.joined c.loop-leaf.invariant.left c.join_member.ensures;
  left = one-left c.args.members.now c.args.more.now c.loop-leaf.members c.join_member.new.members c.loop-leaf.leaf c.loop-leaf.invariant.left c.join_member.ensures;
  same = c.join_member.auto.members ∙ c.loop-leaf.invariant.same;
  end = c.loop-leaf.invariant.end;
}

pub returns : goal.returns
returns c = record {
  long = c.loop-leaf.invariant.same;
  either = all-joined c.args.members.now c.args.more.now c.loop-leaf.members c.loop-leaf.leaf c.loop-leaf.invariant.joined c.loop-leaf.invariant.left
      (omega (arith, c.loop-leaf-test.false, c.requires, c.loop-leaf.invariant.end));
}
