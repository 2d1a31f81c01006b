use Rattle.std.proofs.Common.{true, false, ap}
use Rattle.model_walk.specs.Met.{sections_at}
use Rattle.model_walk.specs.MetTree.{met_with}
use Rattle.model_links.proofs.Counted.{limit-of}
use Rattle.model_links.proofs.limits.link_limit_refused.Goals as goal

pub returns-then-is_past : goal.returns-then-is_past
returns-then-is_past c =
    let w = c.args.walked.now in
    limit-of c.args.sections.now (met_with w.top) (sections_at c.deref.result.now) (sections_at w.sections.items) true c.has_more_links-has_more_links.result c.in_ok-ins.ins c.in_ok-outs.outs
    c.requires.met c.requires.sections (ap sections_at c.deref.ensures.value) c.if-is_past.ensures c.has_more_links-has_more_links.ensures c.in_ok-ins.ensures c.in_ok-outs.ensures

pub returns : goal.returns
returns c =
    let w = c.args.walked.now in
    limit-of c.args.sections.now (met_with w.top) (sections_at c.deref.result.now) (sections_at w.sections.items) false c.has_more_links-has_more_links.result c.in_ok-ins.ins c.in_ok-outs.outs
    c.requires.met c.requires.sections (ap sections_at c.deref.ensures.value) c.if-is_past.ensures c.has_more_links-has_more_links.ensures c.in_ok-ins.ensures c.in_ok-outs.ensures
