use Rattle.std.proofs.Common.{[]}
use Rattle.rule_words.specs.Shown.{names_of}
use Rattle.rule_syntax.proofs.Gathered.{assigned_in, gathered_all, gathered_none, part_added, part_refused}
use Rattle.rule_syntax.proofs.assigned.assign_all.Goals as goal

pub loop-part-init : goal.loop-part-init
loop-part-init c =
    let names = names_of c.args.names.now in
    gathered_none names c.args.kind c.none-values.result (assigned_in c.args.kind c.args.parts.now) (c.none-values.ensures names c.args.kind)

pub loop-part-preserved : goal.loop-part-preserved
loop-part-preserved c =
    part_added (names_of c.args.names.now) c.args.kind c.loop-part.values c.assign.new.values c.args.parts.now c.loop-part.part-index (record { ref_ptr = (0, 0); now = [] }) c.in_ok-assign.field-0
    c.loop-part-test.true c.if-not-branch.false c.loop-part.invariant c.in_ok-assign.ensures

pub returns-then-not-branch : goal.returns-then-not-branch
returns-then-not-branch c =
    part_refused (names_of c.args.names.now) c.args.kind c.loop-part.values c.assign.new.values c.args.parts.now c.loop-part.part-index (record { ref_ptr = (0, 0); now = [] }) c.in_ok-assign.field-0
    c.loop-part-test.true c.if-not-branch.true c.loop-part.invariant c.in_ok-assign.ensures

pub returns : goal.returns
returns c = gathered_all (names_of c.args.names.now) c.args.kind c.loop-part.values c.args.parts.now c.loop-part.part-index c.loop-part-test.false c.loop-part.invariant
