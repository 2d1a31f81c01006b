use Rattle.std.proofs.Common.{subst, arith}
use Rattle.source_text.specs.Shown.{texts}
use Rattle.state_tables.proofs.Entries.{drop_at}
use Rattle.std.proofs.lemmas.List.{drop_all}
use Rattle.state_tables.proofs.Takes.{so_far-line, so_far-numbers, so_far-step, SoFar}
use Rattle.state_tables.proofs.read.takes.read_takes.Goals as goal

pub loop-entry-preserved : goal.loop-entry-preserved
loop-entry-preserved c =
    let names = texts c.args.names.now in
    let es = c.args.entries.now in
    let before = subst (λ rest. SoFar names es rest c.loop-entry.takes.items c.loop-entry.first) (drop_at es c.loop-entry.entry-index c.entry-item.result (omega arith) c.entry-item.is) c.loop-entry.invariant.0 in (
      rw c.least-first.ensures (so_far-step names es c.entry-item.result _ c.loop-entry.takes.items c.read_take.new.takes.items c.loop-entry.first c.in_ok-read_take.field-0 before c.in_ok-read_take.ensures.takes c.in_ok-read_take.ensures.line),
      c.in_ok-read_take.ensures.within c.loop-entry.invariant.1,
    )

pub returns-clause-takes : goal.returns-clause-takes
returns-clause-takes c =
    let names = texts c.args.names.now in
    let es = c.args.entries.now in
    so_far-numbers names es c.loop-entry.takes.items c.loop-entry.first
    (subst (λ rest. SoFar names es rest c.loop-entry.takes.items c.loop-entry.first) (drop_all c.loop-entry.entry-index es (omega arith)) c.loop-entry.invariant.0)

pub returns-clause-line : goal.returns-clause-line
returns-clause-line c =
    let names = texts c.args.names.now in
    let es = c.args.entries.now in
    so_far-line names es c.loop-entry.takes.items c.loop-entry.first
    (subst (λ rest. SoFar names es rest c.loop-entry.takes.items c.loop-entry.first) (drop_all c.loop-entry.entry-index es (omega arith)) c.loop-entry.invariant.0)
