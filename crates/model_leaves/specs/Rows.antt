-- Private: rows of a model's table as they are kept.
use Rattle.std.specs.Prelude.{List, [], ◌∷◌}
use Rattle.model_leaves.specs.declared.table.Row.{Row}
use Rattle.model_leaves.specs.declared.leaf_rows.Head.{Head}
use Rattle.model_leaves.specs.declared.leaf_rows.PortSpan.{PortSpan}

-- the part of a row, and the number there
abbrev pub head_of : Row → Head
head_of row = record { part = row.part; cell = row.cell }

-- where the names of its ports begin, and how many there are
abbrev pub span_of : Row → PortSpan
span_of row = record { first = row.first_port; count = row.ports }

-- the row of both
abbrev pub row_with : Head → PortSpan → Row
row_with head span =
    record { part = head.part; cell = head.cell; first_port = span.first; ports = span.count }

-- the rows of these, of which the last have this span
abbrev pub rows_of : List Head → List PortSpan → PortSpan → List Row
rows_of [] spans rest = []
rows_of (h ∷ hs) [] rest = row_with h rest ∷ rows_of hs [] rest
rows_of (h ∷ hs) (s ∷ ss) rest = row_with h s ∷ rows_of hs ss rest
