-- Private: how many values go with the words of another key.
use Rattle.std.specs.Prelude.{◌≡◌, ◌==◌, Bool, true, false, ◌&&◌, Option, Some, None, length, if◌then◌else◌, codes}
use Rattle.std.specs.List.{list_all}
use Rattle.quantity.specs.Bytes.{Bytes, words}
use Rattle.ma_lines.specs.Sections.{Section}
use Rattle.model_text.specs.Forms.{is_value_text, are_words, are_ports}
use Rattle.model_text.specs.Keyed.{value_of}
use Rattle.model_keys.specs.declared.wanted.Wanted.{Wanted}
use Rattle.model_keys.specs.declared.wanted.Wanted.TheVariants.{Nothing, Any, Exactly}
use Rattle.model_keys.specs.declared.wanted.WantedValues.{WantedValues}

-- the words are right as ports, or as variables
abbrev pub are_right : Bool → Bytes → Bool
are_right true = are_ports
are_right false = are_words 8

-- as many as there are words, where they are there and right
abbrev pub wanted_by : (Bytes → Bool) → Option Bytes → Wanted
wanted_by is_right None = Nothing
wanted_by is_right (Some names) = if is_right names then Exactly (length (words names)) else Any

-- values, as many as are wanted
abbrev pub fits : Wanted → Bytes → Bool
fits Nothing text = false
fits Any text = list_all is_value_text (words text)
fits (Exactly n) text = list_all is_value_text (words text) && (length (words text) == n)

-- what a section wants
pub record AreWanted (s : Section) (values : WantedValues) : Type 0 where
  pub variables : values.variables ≡ wanted_by (are_words 8) (value_of (codes "statevariables") s)
  pub ports : values.ports ≡ wanted_by are_ports (value_of (codes "neighborports") s)
