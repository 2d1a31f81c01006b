use Rattle.std.proofs.Common.{◌∙◌, arith}
use Rattle.cell_table.specs.Told.{cell_at}
use Rattle.cell_engine.specs.declared.memo.Known.{Known}
use Rattle.cell_engine.specs.Step.{sees}
use Rattle.cell_engine.specs.Known.{seen_at}
use Rattle.cell_engine.proofs.Knowing.{sees_few, learnt, memo_more}
use Rattle.cell_engine.proofs.Takes.{depth_at}
use Rattle.cell_engine.proofs.memo.learn_at.Goals as goal

pub codes_at-rules-requires : goal.codes_at-rules-requires
codes_at-rules-requires c = omega (arith, (c.requires.memo.alike c.requires.some).single)

-- the desk is as deep as the plan's rules need
pub constant_for-made-requires-clause-depth : goal.constant_for-made-requires-clause-depth
constant_for-made-requires-clause-depth c =
    depth_at c.args.plan.now.rule_sets 0 c.args.desk.now.stack.depth c.codes_at-rules.result.now c.requires.ready.depth (omega (arith, (c.requires.memo.alike c.requires.some).single)) c.codes_at-rules.ensures

pub returns-then-is_free-clause-memo : goal.returns-then-is_free-clause-memo
returns-then-is_free-clause-memo c =
    let l = c.args.plan.now in
    let tb = c.args.table.now in
    let i = c.args.i in
    let memo = c.args.memo.now in
    let alike = c.requires.memo.alike c.requires.some in
    let none = c.requires.ready.variables ∙ alike.variables in
    let few = sees_few l c.args.t memo.own i tb c.emitted-own.result c.args.tally c.width-width.ensures.table c.requires.cell c.requires.ready.cells none alike.own_offset c.emitted-own.ensures c.requires.tally in
    let kept : Known = record { own = c.emitted-own.result; tally = c.args.tally; made = c.constant_for-made.result } in
    memo_more l memo.own c.slot-at.result memo.known.items kept c.requires.memo
    (learnt l memo.own c.codes_at-rules.result.now c.emitted-own.result c.args.tally c.constant_for-made.result (seen_at (sees l c.args.t tb i) (cell_at tb.cells i).variables)
    c.codes_at-rules.ensures alike few c.constant_for-made.ensures.delay c.constant_for-made.ensures.given)
