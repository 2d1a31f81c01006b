use Rattle.std.proofs.Common.{subst, arith}
use Rattle.source_text.specs.Shown.{texts}
use Rattle.state_tables.proofs.Entries.{drop_at}
use Rattle.std.proofs.lemmas.List.{drop_all}
use Rattle.state_tables.proofs.Holds.{none_read, so_far-holds, so_far-line, so_far-step, SoFar}
use Rattle.state_tables.proofs.read.holds.read_holds.Goals as goal

pub loop-entry-init : goal.loop-entry-init
loop-entry-init c = none_read c.args.names.now c.args.entries.now c.in-Ok.holds.items c.in-Ok.ensures

pub loop-entry-preserved : goal.loop-entry-preserved
loop-entry-preserved c =
    let names = texts c.args.names.now in
    let es = c.args.entries.now in
    let before = subst (λ rest. SoFar names es rest c.loop-entry.holds.items c.loop-entry.first) (drop_at es c.loop-entry.entry-index c.entry-item.result (omega arith) c.entry-item.is) c.loop-entry.invariant.1 in (
      c.read_hold.ensures.count,
      rw c.least-first.ensures (so_far-step names es c.entry-item.result _ c.loop-entry.holds.items c.read_hold.new.holds.items c.loop-entry.first c.read_hold.result before c.read_hold.ensures.holds c.read_hold.ensures.line),
      c.read_hold.ensures.within c.loop-entry.invariant.2,
    )

pub returns-clause-holds : goal.returns-clause-holds
returns-clause-holds c =
    let names = texts c.args.names.now in
    let es = c.args.entries.now in
    so_far-holds names es c.loop-entry.holds.items c.loop-entry.first
    (subst (λ rest. SoFar names es rest c.loop-entry.holds.items c.loop-entry.first) (drop_all c.loop-entry.entry-index es (omega arith)) c.loop-entry.invariant.1)

pub returns-clause-line : goal.returns-clause-line
returns-clause-line c =
    let names = texts c.args.names.now in
    let es = c.args.entries.now in
    so_far-line names es c.loop-entry.holds.items c.loop-entry.first
    (subst (λ rest. SoFar names es rest c.loop-entry.holds.items c.loop-entry.first) (drop_all c.loop-entry.entry-index es (omega arith)) c.loop-entry.invariant.1)
