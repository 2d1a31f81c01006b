use Rattle.std.proofs.Common.{◌≡◌, Err, ap, rules}
use Rattle.model_walk.specs.declared.refused.Stop.{Stop}
use Rattle.model_walk.specs.declared.refused.Stop.TheVariants as Stops
use Rattle.model_walk.specs.Shown.{refusal_of}
use Rattle.model_build.specs.Settled.{classes_of}
use Rattle.model_read.proofs.Joined.{stops_first}
use Rattle.model_read.proofs.phases.judge_read.Goals as goal

pub returns-in_err-walked-clause-refused : goal.returns-in_err-walked-clause-refused
returns-in_err-walked-clause-refused g c = λ why e.
    let is : c.from_residual.result ≡ Err c.in_err-walked.field-0.0 = search rules in
    let same : c.in_err-walked.field-0.0 ≡ Stops.Refused why = cc in
    stops_first (classes_of c.args.stock.now) c.args.sections.now (refusal_of why) (c.in_err-walked.ensures.refused why (ap (λ (s : Stop). Err s) same))

pub judge_met-requires : goal.judge_met-requires
judge_met-requires g c =
    let w = c.in_ok-walked.ensures in
    record { walk = w.walk; keys = w.keys; cells = w.cells; free = c.requires.free }

pub returns-clause-passed : goal.returns-clause-passed
returns-clause-passed g c = c.judge_met.ensures.passed

pub returns-clause-tree : goal.returns-clause-tree
returns-clause-tree g c = c.judge_met.ensures.tree

pub returns-clause-boxes : goal.returns-clause-boxes
returns-clause-boxes g c = c.judge_met.ensures.boxes

pub returns-clause-groups : goal.returns-clause-groups
returns-clause-groups g c = c.judge_met.ensures.groups

pub returns-clause-values : goal.returns-clause-values
returns-clause-values g c = c.judge_met.ensures.values

pub returns-clause-refused : goal.returns-clause-refused
returns-clause-refused g c = c.judge_met.ensures.refused
