-- What is written is read back, and nothing else is read.
use Rattle.std.specs.Prelude.{◌≡◌, ℕ, Some, Option}
use Rattle.quantity.specs.declared.value.Value.{Value}
use Rattle.quantity.specs.Roots.{IsBounded}
use Rattle.quantity.specs.Bytes.{Bytes}
use Rattle.quantity.specs.ValueTexts.{text5, guessed_value}
use Rattle.quantity.specs.TimeBounds.{IsTime}
use Rattle.quantity.specs.Times.{time_text, read_time}
use Rattle.quantity.specs.Written.{if_written}

-- a value as it is written with five decimals, and as nothing else is
abbrev pub read_text5 : Bytes → Option Value
read_text5 text = if_written text5 text (guessed_value text)

-- what is written of a value or a time is read back as it
pub record ReadsWhatIsWritten : Type 0 where
  pub value : (v : Value) → IsBounded v → read_text5 (text5 v) ≡ Some v
  pub time : (t : ℕ) → IsTime t → read_time (time_text t) ≡ Some t

-- what is read is what is written of it
pub record ReadsNothingElse : Type 0 where
  pub value : (text : Bytes) (v : Value) → read_text5 text ≡ Some v → (text ≡ text5 v) × IsBounded v
  pub time : (text : Bytes) (t : ℕ) → read_time text ≡ Some t → (text ≡ time_text t) × IsTime t
