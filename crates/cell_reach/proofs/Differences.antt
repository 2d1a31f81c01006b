-- Away from the edges a neighbour's number is that of the cell and a fixed difference.
use Rattle.std.proofs.Common.{◌≡◌, ℕ, suc, ◌+◌, ◌*◌, ◌<◌, ◌≤◌, Some, ℤ, pos, negsuc, ◌+ℤ◌, ◌*ℤ◌, ◌≤ℤ◌, ◌<ℤ◌, refl, sym, ap, ◌∙◌, arith, FitsSigned, w64}
use Rattle.std.specs.Int.RustNames.{unsigned_abs}
use Rattle.std.specs.Option.{option_map}
use Rattle.std.proofs.lemmas.Int.{ints, unsigned_abs-mul}
use Rattle.std.proofs.Math.Nat.{add-mul, mul-le-mul_left}
use Rattle.quantity.specs.declared.place.Offset.{Offset}
use Rattle.quantity.specs.declared.place.Place.{Place}
use Rattle.cell_grid.specs.declared.grid.Border.{Border}
use Rattle.cell_grid.specs.Space.{Space, plane_count, cell_count, place_of, number_of, of_border, coordinate_after_step, neighbour, neighbour_at}
use Rattle.cell_reach.specs.Neighbourhoods.{StaysInside, difference}
use Rattle.cell_grid.proofs.Places.{number-of_place, number-inside}
use Rattle.cell_grid.proofs.Borders.{of_border-below}
use Rattle.cell_grid.proofs.Opposites.{with_three}

-- ---- one coordinate

-- a coordinate that stays below the size is moved to a number below it
record Moves (border : Border) (n : ℕ) (z : ℤ) : Type 0 where
  to : ℕ
  is : z ≡ pos to
  inside : to < n
  moved : of_border border n z ≡ Some to

moves : (border : Border) (n : ℕ) (z : ℤ) → pos 0 ≤ℤ z → z <ℤ pos n → Moves border n z
moves border n (pos m) low high =
    let less : m < n = omega (arith, ints) in
    record { to = m; is = refl; inside = less; moved = of_border-below border n m less }
moves border n (negsuc m) low high = absurd (omega (arith, ints))

-- ---- numbers

sums : (a b i j : ℕ) (x y : ℤ) → pos a +ℤ x ≡ pos i → pos b +ℤ y ≡ pos j → pos (a + b) +ℤ (x +ℤ y) ≡ pos (i + j)
sums a b i j x y first second = omega (arith, ints)

times : (n r to : ℕ) (step : ℤ) → pos r +ℤ step ≡ pos to → pos (r * n) +ℤ step *ℤ pos n ≡ pos (to * n)
times n r to (pos a) is =
    let there : to ≡ r + a = omega (arith, ints) in
    ap pos (sym (ap (λ m. m * n) there ∙ add-mul r a n))
times n r to (negsuc a) is =
    let there : r ≡ to + suc a = omega (arith, ints) in
    let parts : r * n ≡ to * n + suc a * n = ap (λ m. m * n) there ∙ add-mul to (suc a) n in
    omega (arith, ints)

number-moved : (s : Space) (p q : Place) (o : Offset) → pos p.row +ℤ o.row ≡ pos q.row → pos p.column +ℤ o.column ≡ pos q.column → pos p.plane +ℤ o.plane ≡ pos q.plane
    → pos (number_of s p.row p.column p.plane) +ℤ difference s o ≡ pos (number_of s q.row q.column q.plane)
number-moved s p q o rows columns planes =
    let in_plane = sums (p.row * s.columns) p.column (q.row * s.columns) q.column (o.row *ℤ pos s.columns) o.column (times s.columns p.row q.row o.row rows) columns in
    let n : ℕ = plane_count s in
    let a : ℕ = p.row * s.columns + p.column in
    let i : ℕ = q.row * s.columns + q.column in
    let x : ℤ = o.row *ℤ pos s.columns +ℤ o.column in
    sums (a * n) p.plane (i * n) q.plane (x *ℤ pos n) o.plane (times n a i x in_plane) planes

-- ---- whole places

-- the neighbour of a cell inside is a cell so much further
pub record LeadsTo (s : Space) (p : Place) (o : Offset) : Type 0 where
  pub to : ℕ
  pub is : pos (number_of s p.row p.column p.plane) +ℤ difference s o ≡ pos to
  pub inside : to < cell_count s
  pub neighbour : neighbour_at s p o ≡ Some to

pub leads_to_further : (s : Space) (p : Place) (o : Offset) → StaysInside s p o → LeadsTo s p o
leads_to_further s p o stays =
    let row = moves s.border s.rows (pos p.row +ℤ o.row) stays.0.0 stays.0.1 in
    let column = moves s.border s.columns (pos p.column +ℤ o.column) stays.1.0 stays.1.1 in
    let plane = moves s.border (plane_count s) (pos p.plane +ℤ o.plane) stays.2.0 stays.2.1 in
    let q : Place = record { row = row.to; column = column.to; plane = plane.to } in
    record {
      to = number_of s row.to column.to plane.to;
      is = number-moved s p q o row.is column.is plane.is;
      inside = number-inside s q (row.inside, column.inside, plane.inside);
      neighbour = with_three (coordinate_after_step s.border s.rows p.row o.row) (coordinate_after_step s.border s.columns p.column o.column)
          (coordinate_after_step s.border (plane_count s) p.plane o.plane) (number_of s) row.to column.to plane.to row.moved column.moved plane.moved;
    }

pub equally_far : (s : Space) (cell : ℕ) (o : Offset) → cell < cell_count s → StaysInside s (place_of s cell) o → option_map pos (neighbour s cell o) ≡ Some (pos cell +ℤ difference s o)
equally_far s cell o here stays =
    let leads = leads_to_further s (place_of s cell) o stays in
    ap (option_map pos) leads.neighbour ∙ ap Some (sym leads.is ∙ ap (λ n. pos n +ℤ difference s o) (number-of_place s cell))

-- ---- bounds

abs-sum : (x p : ℤ) → unsigned_abs (x +ℤ p) ≤ unsigned_abs x + unsigned_abs p
abs-sum x p = omega (arith, ints)

pub few_wholes : (w : ℤ) (n : ℕ) (p z : ℤ) → unsigned_abs w ≤ 32768 → n ≤ 1048576 → unsigned_abs p ≤ 32768 → z ≡ w *ℤ pos n +ℤ p → unsigned_abs z ≤ 68719476736
few_wholes w n p z few size part is =
    let product : unsigned_abs (w *ℤ pos n) ≡ unsigned_abs w * n = unsigned_abs-mul w (pos n) in
    let most : unsigned_abs w * n ≤ unsigned_abs w * 1048576 = mul-le-mul_left (unsigned_abs w) size in
    omega (arith, abs-sum (w *ℤ pos n) p, ap unsigned_abs is)

-- wholes of a size stay far within a word
product_few : (w v : ℤ) (n : ℕ) → unsigned_abs w ≤ 68719476736 → v ≡ pos n → n ≤ 1048576 → unsigned_abs (w *ℤ v) ≤ 72057594037927936
product_few w v n few is size =
    let product : unsigned_abs (w *ℤ v) ≡ unsigned_abs w * n = ap (λ x. unsigned_abs (w *ℤ x)) is ∙ unsigned_abs-mul w (pos n) in
    let most : unsigned_abs w * n ≤ unsigned_abs w * 1048576 = mul-le-mul_left (unsigned_abs w) size in
    omega (arith, product)

within_word : (z : ℤ) → unsigned_abs z ≤ 72057594037960704 → FitsSigned w64 z
within_word (pos m) few = record { sfits = omega arith }
within_word (negsuc m) few = record { sfits = omega arith }

pub wholes_fit : (w v : ℤ) (n : ℕ) → unsigned_abs w ≤ 68719476736 → v ≡ pos n → n ≤ 1048576 → FitsSigned w64 (w *ℤ v)
wholes_fit w v n few is size = within_word (w *ℤ v) (omega (arith, product_few w v n few is size))

pub parts_fit : (w v p : ℤ) (n : ℕ) → unsigned_abs w ≤ 68719476736 → v ≡ pos n → n ≤ 1048576 → unsigned_abs p ≤ 32768 → FitsSigned w64 (w *ℤ v +ℤ p)
parts_fit w v p n few is size part = within_word (w *ℤ v +ℤ p) (omega (arith, product_few w v n few is size, abs-sum (w *ℤ v) p))
