use Rattle.std.proofs.Common.{[], ◌+◌, map, drop, take, ap, ◌∙◌, option_to_list}
use Rattle.std.specs.Option.{option_map}
use Rattle.model_text.specs.Keyed.{least_refusal}
use Rattle.model_walk.specs.Shown.{refusal_of}
use Rattle.model_walk.specs.Least.{earlier_refusal}
use Rattle.model_links.specs.declared.section.FoundLink.{FoundLink}
use Rattle.model_links.specs.Lent.{link_of_lent, with_links}
use Rattle.model_links.specs.Judged.{refusal_after, refused_after}
use Rattle.model_links.proofs.Judging.{links_in, seen_step, judged_step, judged_end}
use Rattle.model_links.proofs.judge.first_refused.Goals as goal

pub loop-one-preserved : goal.loop-one-preserved
loop-one-preserved c =
    let f = c.args.face.now in
    let xs = c.args.found.now in
    let i = c.loop-one.one-index in
    let x = c.one-item.result in
    let seen = map link_of_lent c.loop-one.before.keys in
    record {
      seen = seen_step xs i x seen (map link_of_lent c.add_link.new.links.keys) c.loop-one-test.true
          (c.in_ok-add_link.ensures.ok ∙ ap (λ (y : FoundLink). with_links seen (option_to_list y.link)) c.one-item.is) c.loop-one.invariant.seen;
      judged = ap (λ o. earlier_refusal o (least_refusal (refused_after f (links_in (take (i + 1) xs)) (drop (i + 1) xs)))) c.least-first.ensures
          ∙ judged_step f xs i x seen (option_map refusal_of c.loop-one.first) (option_map refusal_of c.refused.result) (least_refusal (refused_after f [] xs)) c.loop-one-test.true
          (c.refused.ensures ∙ ap (refusal_after f seen) c.one-item.is) c.loop-one.invariant.seen c.loop-one.invariant.judged;
    }

pub returns : goal.returns
returns c =
    judged_end c.args.face.now (links_in (take c.loop-one.one-index c.args.found.now)) c.args.found.now c.loop-one.one-index (option_map refusal_of c.loop-one.first) _ c.loop-one-test.false
    c.loop-one.invariant.judged
