-- The lines of a text, one after another, and what stands behind each.
use Rattle.std.specs.Prelude.{ℕ, ◌+◌, Option, Some, None, List, [], ◌∷◌, codes}
use Rattle.std.specs.List.{slice_split}
use Rattle.std.specs.Option.{option_map}
use Rattle.std.specs.declared.result.Result.{Result}
use Rattle.std.specs.declared.result.Result.TheVariants.{Ok, Err}
use Rattle.quantity.specs.ByteNames.{line_feed}
use Rattle.quantity.specs.Bytes.{Bytes, is_byte}
use Rattle.quantity.specs.Written.{for_some}
use Rattle.run_model.specs.Cycle.{LeafState}
use Rattle.text_forms.specs.declared.refusal.StateRefusal.{StateRefusal}
use Rattle.text_forms.specs.declared.refusal.StateRefusal.TheVariants.{BadStateLine}
use Rattle.text_forms.specs.StateOf.{next_line, just, nothing_more}

-- what stands between line ends
abbrev pub parts_of : Bytes → List Bytes
parts_of text = slice_split (is_byte line_feed) text

-- the line in front, which has a line end, where it is read, and the parts behind it
abbrev pub line_in : {A : Type 0} → (Bytes → Option A) → List Bytes → Option (A × List Bytes)
line_in read (line ∷ next ∷ more) = for_some (read line) (λ x. Some (x, next ∷ more))
line_in read parts = None

-- the parts behind the line in front, where that is this text
abbrev pub behind_text : Bytes → List Bytes → Option (List Bytes)
behind_text text parts = option_map (λ p. p.1) (line_in (just text) parts)

-- the line of this number is `end`, and nothing is behind it
abbrev pub ended_at : ℕ → List Bytes → Result (List LeafState) StateRefusal
ended_at n parts =
    next_line n (just (codes "end")) parts (λ e rest. nothing_more (n + 1) [] rest)

-- no line is refused, or the one of this number is
abbrev pub refused_at : Option ℕ → Result (List LeafState) StateRefusal
refused_at None = Ok []
refused_at (Some n) = Err (BadStateLine n)
