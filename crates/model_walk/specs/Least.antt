-- The least of refusals that are met one after another.
use Rattle.std.specs.Prelude.{◌≡◌, Option, Some, None, List, ◌++◌}
use Rattle.model_text.specs.Refusals.{Refusal}
use Rattle.model_text.specs.Keyed.{lesser, least_refusal}

-- the one that comes before the other, the first where neither does
abbrev pub earlier_refusal : Option Refusal → Option Refusal → Option Refusal
earlier_refusal None b = b
earlier_refusal (Some a) b = Some (lesser a b)

-- the least of two parts' refusals is that of their least ones
abbrev pub LeastOfBoth : Type 0
LeastOfBoth =
    (xs ys : List Refusal) → least_refusal (xs ++ ys)
    ≡ earlier_refusal (least_refusal xs) (least_refusal ys)
