-- The lines of a run's log and output.
use Rattle.std.specs.Prelude.{ℕ, Option, List, [], ◌∷◌, ◌++◌, take, slice_get}
use Rattle.std.specs.List.{filter, filter_map, flat_map, join_with_byte}
use Rattle.std.specs.Option.{option_map}
use Rattle.quantity.specs.Bytes.{Bytes}
use Rattle.quantity.specs.ValueTexts.{text5}
use Rattle.quantity.specs.Times.{time_text}
use Rattle.rule_tree.specs.Meaning.{coordinates}
use Rattle.cell_grid.specs.Space.{place_of, dims_of}
use Rattle.model_tree.specs.Tree.{Word, Tree, Leaf, atomic_leaf, cell_leaf, leaves, outs_of}
pub use Rattle.model_leaves.specs.LeafTexts.{name_at, further_ports}
use Rattle.model_leaves.specs.LeafTexts.{in_ports, out_ports}
use Rattle.run_model.specs.Run.{Cycle, PortRecord, StateRecord, OutRecord}
use Rattle.text_forms.specs.declared.letter.Letter.{Letter}
use Rattle.text_forms.specs.declared.letter.Letter.TheVariants.{Y, N, X, S}
use Rattle.text_forms.specs.Letters.{all_letters, has_letter}
use Rattle.text_forms.specs.LogLine.{LeafName, LogLine, given, moved, letter_of, line_text}

-- ---- how leaves and ports are called, as lines have it

-- a leaf's name, of a cell with as many coordinates as its space has
abbrev pub leaf_name : Leaf → LeafName
leaf_name (atomic_leaf name class settings) = record { name = name; at = [] }
leaf_name (cell_leaf g first cell) =
    record { name = g.name; at = take (dims_of g.space) (coordinates (place_of g.space cell)) }

-- the name of a leaf's output port
abbrev pub out_port_name : Leaf → ℕ → Word
out_port_name l k = name_at (out_ports l) k

-- the name of a leaf's input port
abbrev pub in_port_name : Leaf → ℕ → Word
in_port_name l k = name_at (in_ports l) k

-- ---- the log

-- the line of a value at a port
abbrev pub given_line : List Leaf → ℕ → Letter → (Leaf → ℕ → Word) → PortRecord → Option LogLine
given_line ls time letter port r =
    option_map (λ l. given letter time (leaf_name l) (port l r.port) r.value) (slice_get ls r.leaf)

-- the line of a leaf that moved
abbrev pub moved_line : List Leaf → ℕ → StateRecord → Option LogLine
moved_line ls time r =
    option_map (λ l. moved time (leaf_name l) r.value r.next) (slice_get ls r.leaf)

-- records that lines are of: of values at ports, with the names of these, or of leaves that moved
pub data LetterRecords : Type 0 where
  of_ports : (port : Leaf → ℕ → Word) (records : List PortRecord) → LetterRecords
  of_moves : (records : List StateRecord) → LetterRecords

-- which records of a cycle a letter is of
abbrev pub records_of : Cycle → Letter → LetterRecords
records_of c Y = of_ports out_port_name c.y
records_of c N = of_ports out_port_name c.n
records_of c X = of_ports in_port_name c.x
records_of c S = of_moves c.s

-- the lines of these records, which are those of this letter
abbrev pub lines_of_records : List Leaf → ℕ → Letter → LetterRecords → List LogLine
lines_of_records ls time letter (of_ports port rs) =
    filter_map (given_line ls time letter port) rs
lines_of_records ls time letter (of_moves rs) = filter_map (moved_line ls time) rs

-- the lines of a letter
abbrev pub lines_of_letter : List Leaf → Cycle → Letter → List LogLine
lines_of_letter ls c letter = lines_of_records ls c.time letter (records_of c letter)

-- all lines of a cycle, letter by letter
abbrev pub cycle_lines : List Leaf → Cycle → List LogLine
cycle_lines ls c = flat_map (lines_of_letter ls c) all_letters

-- the lines of the chosen letters
abbrev pub log_lines : List Leaf → List ℕ → List Cycle → List LogLine
log_lines ls letters cycles =
    filter (λ l. has_letter letters (letter_of l)) (flat_map (cycle_lines ls) cycles)

-- a line with its end
abbrev pub line_with_end : Bytes → Bytes
line_with_end line = line ++ 10 ∷ []

-- the log of some cycles, with the chosen letters
abbrev pub log_bytes : Tree → List ℕ → List Cycle → Bytes
log_bytes tree letters cycles =
    flat_map (λ l. line_with_end (line_text l)) (log_lines (leaves tree) letters cycles)

-- ---- the output

-- a line of the output: time, port and value
abbrev pub out_line : List Word → ℕ → OutRecord → Bytes
out_line outs time r =
    line_with_end (join_with_byte 32 (time_text time ∷ name_at outs r.port ∷ text5 r.value ∷ []))

-- the output of some cycles
abbrev pub out_bytes : Tree → List Cycle → Bytes
out_bytes tree cycles =
    flat_map (λ (c : Cycle). flat_map (out_line (outs_of tree) c.time) c.out) cycles
