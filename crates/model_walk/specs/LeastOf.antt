-- What a part of a phase gives.
use Rattle.std.specs.Prelude.{◌≡◌, Option, List}
use Rattle.std.specs.Option.{option_map}
use Rattle.model_text.specs.Refusals.{Refusal}
use Rattle.model_text.specs.Keyed.{least_refusal}
use Rattle.model_walk.specs.declared.refused.Refused.{Refused}
use Rattle.model_walk.specs.Shown.{refusal_of}

-- the least of these refusals, or none where there are none
abbrev pub IsLeastOf : List Refusal → Option Refused → Type 0
IsLeastOf rs why = option_map refusal_of why ≡ least_refusal rs
