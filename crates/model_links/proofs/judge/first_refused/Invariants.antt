use Rattle.std.proofs.Common.{◌≡◌, map, take, drop, []}
use Rattle.std.specs.Option.{option_map}
use Rattle.model_text.specs.Keyed.{least_refusal}
use Rattle.model_walk.specs.Shown.{refusal_of}
use Rattle.model_walk.specs.Least.{earlier_refusal}
use Rattle.model_links.specs.Lent.{link_of_lent, with_links}
use Rattle.model_links.specs.Judged.{refused_after}
use Rattle.model_links.proofs.Judging.{links_in}
use Rattle.model_links.proofs.judge.first_refused.Given as goal

abbrev pub invariant-loop-one : goal.invariant-loop-one
invariant-loop-one l = record {
  seen : map link_of_lent l.before.keys ≡ with_links [] (links_in (take l.one-index l.found));
  judged : earlier_refusal (option_map refusal_of l.first) (least_refusal (refused_after l.face (links_in (take l.one-index l.found)) (drop l.one-index l.found))) ≡ least_refusal (refused_after l.face [] l.found);
}
