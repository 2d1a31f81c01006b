use Rattle.std.proofs.Common.{◌≡◌, None, take}
use Rattle.std.specs.Option.{option_map}
use Rattle.model_text.specs.Keyed.{least_refusal}
use Rattle.model_walk.specs.Shown.{refusal_of}
use Rattle.model_walk.specs.Met.{sections_at}
use Rattle.model_spaces.specs.Right.{SaysGroups}
use Rattle.model_spaces.proofs.Whole.{all_of}
use Rattle.model_spaces.proofs.groups.read_groups.Given as goal

abbrev pub invariant-loop-section : goal.invariant-loop-section
invariant-loop-section l = record {
  refused : option_map refusal_of l.first ≡ least_refusal (all_of (sections_at (take l.section-index l.groups)));
  read : least_refusal (all_of (sections_at (take l.section-index l.groups))) ≡ None → SaysGroups (sections_at (take l.section-index l.groups)) l.spaces;
}
