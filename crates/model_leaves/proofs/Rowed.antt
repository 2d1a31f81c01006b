-- Rows of a model's table as they are kept.
use Rattle.std.proofs.Common.{◌≡◌, ℕ, zero, suc, ◌<◌, ◌≤◌, List, [], ◌∷◌, length, get_or, map, take, drop, refl, sym, ap, ◌∙◌, arith}
use Rattle.std.proofs.lemmas.List.{length-drop}
use Rattle.std.specs.List.{All}
use Rattle.model_leaves.specs.declared.table.Row.{Row}
use Rattle.model_leaves.specs.declared.leaf_rows.Head.{Head}
use Rattle.model_leaves.specs.declared.leaf_rows.PortSpan.{PortSpan}
use Rattle.model_leaves.specs.Rows.{head_of, span_of, row_with, rows_of}

-- as many as there are heads
pub rows_long : (hs : List Head) (ss : List PortSpan) (rest : PortSpan) → length (rows_of hs ss rest) ≡ length hs
rows_long [] ss rest = refl
rows_long (h ∷ hs) [] rest = ap suc (rows_long hs [] rest)
rows_long (h ∷ hs) (s ∷ ss) rest = ap suc (rows_long hs ss rest)

-- each row is that of its head and its span
pub row_at : (hs : List Head) (ss : List PortSpan) (rest : PortSpan) (i : ℕ) (h : Head) (d : Row) → i < length hs → h ≡ get_or hs i h → row_with h (get_or ss i rest) ≡ get_or (rows_of hs ss rest) i d
row_at [] ss rest i h d lt is = absurd (omega arith)
row_at (x ∷ hs) [] rest zero h d lt is = ap (λ (k : Head). row_with k rest) is
row_at (x ∷ hs) (s ∷ ss) rest zero h d lt is = ap (λ (k : Head). row_with k s) is
row_at (x ∷ hs) [] rest (suc i) h d lt is = row_at hs [] rest i h d (omega arith) is
row_at (x ∷ hs) (s ∷ ss) rest (suc i) h d lt is = row_at hs ss rest i h d (omega arith) is

same_all : (rows : List Row) (rest : PortSpan) → ((i : ℕ) (d : Row) → i < length rows → span_of (get_or rows i d) ≡ rest) → rows_of (map head_of rows) [] rest ≡ rows
same_all [] rest same = refl
same_all (r ∷ rows) rest same =
    (λ j. row_with (head_of r) (sym (same 0 r (omega arith)) j) ∷ same_all rows rest (λ i d lt. same (suc i) d (omega arith)) j)

-- the rows are those of their heads and spans, where the last have the span that is kept once
pub rows_back : (rows : List Row) (own : ℕ) (rest : PortSpan) → ((i : ℕ) (d : Row) → i < length (drop own rows) → span_of (get_or (drop own rows) i d) ≡ rest) → rows_of (map head_of rows) (map span_of (take own rows)) rest ≡ rows
rows_back rows zero rest same = same_all rows rest same
rows_back [] (suc own) rest same = refl
rows_back (r ∷ rows) (suc own) rest same = ap (λ (rs : List Row). r ∷ rs) (rows_back rows own rest same)

at_all : (r : Row) (rows : List Row) (rest : PortSpan) → span_of r ≡ rest → ((i : ℕ) (d : Row) → i < length rows → span_of (get_or rows i d) ≡ rest) → (i : ℕ) (d : Row) → i < length (r ∷ rows) → span_of (get_or (r ∷ rows) i d) ≡ rest
at_all r rows rest is all zero d lt = is
at_all r rows rest is all (suc i) d lt = all i d (omega arith)

-- one more row at the end has the span
pub all_more : (rows : List Row) (k : ℕ) (rest : PortSpan) (row : Row) → k < length rows → row ≡ get_or rows k row → span_of row ≡ rest → All (λ (r : Row). span_of r ≡ rest) (drop (suc k) rows) → All (λ (r : Row). span_of r ≡ rest) (drop k rows)
all_more [] k rest row lt is same all = absurd (omega arith)
all_more (r ∷ rows) zero rest row lt is same all = at_all r rows rest (ap span_of (sym is) ∙ same) all
all_more (r ∷ rows) (suc k) rest row lt is same all = all_more rows k rest row (omega arith) is same all

-- none at the end yet
pub all_none : (rows : List Row) (k : ℕ) (rest : PortSpan) → length rows ≤ k → All (λ (r : Row). span_of r ≡ rest) (drop k rows)
all_none rows k rest le = λ i d lt. absurd (omega (arith, lt, le, length-drop k rows))
