use Rattle.std.proofs.Common.{◌≡◌, take, map}
use Rattle.std.specs.List.{flat_map}
use Rattle.std.specs.Option.{option_map}
use Rattle.model_text.specs.Keyed.{least_refusal}
use Rattle.model_text.specs.Rules as R
use Rattle.model_walk.specs.Shown.{item_of, refusal_of}
use Rattle.model_rules.proofs.named.absent.Given as goal

abbrev pub invariant-loop-item : goal.invariant-loop-item
invariant-loop-item l = option_map refusal_of l.first ≡ least_refusal (flat_map (R.absent l.sections) (map item_of (take l.item-index l.items)))
