-- Private: values whose texts are known.
use Rattle.std.specs.Prelude.{◌≡◌, ℕ, Option, IfSome}
use Rattle.quantity.specs.ValueTexts.{value_text}
use Rattle.frame_draw.specs.declared.known.Known.{Known}
use Rattle.frame_draw.specs.declared.known.KnownTexts.{KnownTexts}

-- the text of a value, if there is one, has so many decimals in so many places
abbrev pub IsKnown : ℕ → ℕ → Option Known → Type 0
IsKnown decimals width known = IfSome known (λ k. k.text ≡ value_text decimals width k.value)

-- texts of values that are kept
abbrev pub AreKnown : ℕ → ℕ → KnownTexts → Type 0
AreKnown decimals width k = IsKnown decimals width k.first × IsKnown decimals width k.second
