-- Private: parameters by the forms of their values.
use Rattle.std.specs.Prelude.{Option, ℤ}
use Rattle.quantity.specs.Bytes.{Bytes}
use Rattle.atomic_face.specs.Parameters.{time_word, period_word, value_word, count_word}
use Rattle.atomic_kinds.specs.declared.parameters.Form.{Form}
use Rattle.atomic_kinds.specs.declared.parameters.Form.TheVariants.{Time, Period, Value, Count}

-- the number that a text of this form gives
abbrev pub word_in : Form → Bytes → Option ℤ
word_in Time = time_word
word_in Period = period_word
word_in Value = value_word
word_in Count = count_word
