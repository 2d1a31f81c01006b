-- Private: words that are read one after another: what a reader has left.
use Rattle.std.specs.Prelude.{◌≡◌, ℕ, zero, suc, Option, Some, None, List, [], ◌∷◌, length}
use Rattle.std.specs.Option.{option_copied}
use Rattle.quantity.specs.declared.bounds.TheConstants.{MAX_TIME}
use Rattle.quantity.specs.declared.value.Value.{Value}
use Rattle.quantity.specs.Bytes.{Bytes}
use Rattle.quantity.specs.ValueTexts.{guessed_value}
use Rattle.quantity.specs.Written.{for_some, number_up_to}
use Rattle.run_model.specs.CellStep.{CellState}
use Rattle.text_forms.specs.StateOf.{all_in, ports_in, line_words}
use Rattle.state_lines.specs.declared.read.Words.{Words}

-- the words of what is left, if anything is
abbrev pub words_left : Option Bytes → List Bytes
words_left None = []
words_left (Some text) = line_words text

-- the words that a reader has left
abbrev pub all_left : Words → List Bytes
all_left w = words_left (option_copied w.left)

-- how much is left
abbrev pub size_left : Option Bytes → ℕ
size_left None = zero
size_left (Some text) = suc (length text)

-- how much a reader has left
abbrev pub left_size : Words → ℕ
left_size w = size_left (option_copied w.left)

-- what stands in front is read as the answer, and these words are left behind it
abbrev pub IsReadTo : {A : Type 0} → Option (A × List Bytes) → List Bytes → Option A → Type 0
IsReadTo read left None = read ≡ None
IsReadTo read left (Some x) = read ≡ Some (x, left)

-- the word in front is read so
abbrev pub one_in : {A : Type 0} → (Bytes → Option A) → List Bytes → Option (A × List Bytes)
one_in read [] = None
one_in read (w ∷ ws) = for_some (read w) (λ x. Some (x, ws))

-- the pair in front
abbrev pub pair_in : List Bytes → Option ((ℕ × Value) × List Bytes)
pair_in ws =
    for_some (one_in (number_up_to MAX_TIME) ws) (λ (t, rest).
    for_some (one_in guessed_value rest) (λ (v, rest). Some ((t, v), rest)))

-- a cell with so many ports
abbrev pub cell_in : ℕ → List Bytes → Option CellState
cell_in n ws =
    for_some (ports_in n ws) (λ (ports, rest).
    for_some (all_in guessed_value rest) (λ xs. Some (record {
      ports = ports;
      variables = xs;
    })))
