use Rattle.std.proofs.Common.{◌≡◌, map, take, drop}
use Rattle.std.specs.Option.{option_map}
use Rattle.model_text.specs.Keyed.{least_refusal}
use Rattle.model_text.specs.Links.{links_of}
use Rattle.model_walk.specs.Shown.{refusal_of}
use Rattle.model_walk.specs.Least.{earlier_refusal}
use Rattle.model_walk.specs.Met.{sections_at}
use Rattle.model_links.proofs.Judging.{all_refused, groups_in}
use Rattle.model_links.proofs.section.all_links.Given as goal

abbrev pub invariant-loop-section : goal.invariant-loop-section
invariant-loop-section l = record {
  next : l.next ≡ groups_in (take l.section-index (sections_at l.met));
  links : map (λ list. list.items) l.all.links.items ≡ map links_of (take l.section-index (sections_at l.met));
  refused : earlier_refusal (option_map refusal_of l.all.refused) (least_refusal (all_refused l.sections (drop l.section-index (sections_at l.met)))) ≡ least_refusal (all_refused l.sections (sections_at l.met));
}
