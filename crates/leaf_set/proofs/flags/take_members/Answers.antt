use Rattle.std.proofs.Common.{◌<◌, ◌∙◌, List, ℕ, false, length, refl, ap, sym, subst, arith, length-set}
use Rattle.leaf_set.proofs.Emptied.{IsTaken, none-taken, one-taken, all-taken}
use Rattle.leaf_set.proofs.flags.take_members.Goals as goal

pub loop-leaf-init : goal.loop-leaf-init
loop-leaf-init c = record {
  taken = subst (λ (ls : List ℕ). IsTaken c.args.members.now.items c.args.members.now.items ls 0) (sym c.requires.empty) (none-taken c.args.members.now.items);
  same = refl;
  end = omega (arith, c.args.members.now.ok.0, c.len-count.ensures);
  capacity = refl;
}

pub take_member-requires-clause-room : goal.take_member-requires-clause-room
take_member-requires-clause-room c = let few = c.loop-leaf.invariant.taken.few in omega (arith, few, c.loop-leaf.into.ok.0, c.loop-leaf.invariant.capacity, c.loop-leaf.invariant.end, c.args.members.now.ok.0, c.requires.room)

pub loop-leaf-preserved : goal.loop-leaf-preserved
loop-leaf-preserved c =
    let lt : c.loop-leaf.leaf < length c.args.members.now.items = omega (arith, c.loop-leaf.invariant.end) in
    record {
      taken = one-taken c.args.members.now.items c.loop-leaf.members.items c.take_member.new.members.items c.loop-leaf.into.items c.take_member.new.into.items c.loop-leaf.leaf c.loop-leaf.invariant.taken lt c.take_member.ensures.taken c.take_member.ensures.left;
      same = ap length c.take_member.ensures.left ∙ length-set c.loop-leaf.members.items c.loop-leaf.leaf false ∙ c.loop-leaf.invariant.same;
      end = c.loop-leaf.invariant.end;
      capacity = c.take_member.ensures.capacity ∙ c.loop-leaf.invariant.capacity;
    }

pub returns-clause-taken : goal.returns-clause-taken
returns-clause-taken c =
    (all-taken c.args.members.now.items c.loop-leaf.members.items c.loop-leaf.into.items c.loop-leaf.leaf c.loop-leaf.invariant.taken (omega (arith, c.loop-leaf.invariant.end))).0

pub returns-clause-left : goal.returns-clause-left
returns-clause-left c =
    (all-taken c.args.members.now.items c.loop-leaf.members.items c.loop-leaf.into.items c.loop-leaf.leaf c.loop-leaf.invariant.taken (omega (arith, c.loop-leaf.invariant.end))).1
