use Rattle.std.proofs.Common.{◌+◌, ◌∷◌, [], take, map, refl, ap, ◌∙◌, sym}
use Rattle.std.proofs.lemmas.List.{map-append}
use Rattle.model_text.specs.Keyed.{least_refusal}
use Rattle.model_text.specs.Spaces.{of_space}
use Rattle.model_walk.specs.Least.{earlier_refusal}
use Rattle.model_walk.specs.Placed.{plain_group, placed_of, values_before_files}
use Rattle.model_walk.specs.Met.{sections_at}
use Rattle.model_spaces.specs.Right.{CanBeRead}
use Rattle.model_spaces.proofs.Entries.{both_empty, gathered_more, least_more}
use Rattle.model_spaces.proofs.Whole.{all_of, all_more, at_group, none_least, sections_more}
use Rattle.model_spaces.proofs.groups.read_groups.Goals as goal

pub loop-section-init : goal.loop-section-init
loop-section-init c = record {
  refused = refl;
  read = λ none. record { groups = ap (map plain_group) c.in_ok-with_capacity.ensures.items; values = c.in_ok-with_capacity-2.ensures.items };
}

pub add_space-requires : goal.add_space-requires
add_space-requires c = at_group CanBeRead c.args.groups.now c.loop-section.section-index c.section-item.result c.section-item.is c.requires c.loop-section-test.true

pub loop-section-preserved : goal.loop-section-preserved
loop-section-preserved c =
    let d = c.section-item.result in
    let before = sections_at (take c.loop-section.section-index c.args.groups.now) in
    let s = d.now in
    let old = c.loop-section.spaces in
    let new = c.add_space.new.spaces in
    let more = sections_more c.args.groups.now c.loop-section.section-index d c.loop-section-test.true c.section-item.is in
    let all = ap all_of more ∙ all_more before s in
    record {
      refused = least_more (all_of before) (of_space s) _ _ _ all c.loop-section.invariant.refused (c.least-first.ensures ∙ ap (earlier_refusal _) c.in_ok-why.ensures.refused);
      read = λ none.
          let parts = both_empty (all_of before) (of_space s) (sym all ∙ none_least (all_of (sections_at (take (c.loop-section.section-index + 1) c.args.groups.now))) none) in
          let read = c.loop-section.invariant.read (ap least_refusal parts.0) in
          let passes = ap least_refusal parts.1 in
          record {
            groups = gathered_more (map placed_of) before (s ∷ []) (map plain_group old.groups.items) _ (map-append placed_of before (s ∷ [])) read.groups (c.in_ok-why.ensures.groups passes) ∙ ap (map placed_of) (sym more);
            values = gathered_more (map values_before_files) before (s ∷ []) old.values.items _ (map-append values_before_files before (s ∷ [])) read.values (c.in_ok-why.ensures.values passes) ∙ ap (map values_before_files) (sym more);
          };
    }
