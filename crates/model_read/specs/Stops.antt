-- Why there is no model, where a phase stops.
use Rattle.std.specs.Prelude.{◌≡◌, Option, Some}
use Rattle.std.specs.declared.result.Result.{Result}
use Rattle.std.specs.declared.result.Result.TheVariants.{Err}
use Rattle.model_text.specs.Refusals.{Refusal}
use Rattle.model_walk.specs.declared.refused.Refused.{Refused}
use Rattle.model_walk.specs.declared.refused.Stop.{Stop}
use Rattle.model_walk.specs.declared.refused.Stop.TheVariants as stop
use Rattle.model_walk.specs.Shown.{refusal_of}
use Rattle.model_read.specs.declared.refusal.ModelRefusal.{ModelRefusal}
use Rattle.model_read.specs.declared.refusal.ModelRefusal.TheVariants as why

-- the refusal, or want of memory
abbrev pub refusal_of_stop : Stop → ModelRefusal
refusal_of_stop (stop.Refused r) = why.Refused r.line r.kind
refusal_of_stop stop.Memory = why.Memory

-- what is refused in code is what a phase refuses
abbrev pub RefusesAs : {T : Type 0} → Option Refusal → Result T Stop → Type 0
RefusesAs refused result =
    (r : Refused) → result ≡ Err (stop.Refused r) → refused ≡ Some (refusal_of r)
