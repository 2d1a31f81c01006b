-- Steps and their opposites.
use Rattle.std.proofs.Common.{◌≡◌, ℕ, suc, ◌+◌, ◌-◌, ◌*◌, ◌/◌, ◌%◌, ◌<◌, ◌≤◌, Bool, true, false, ltb, cond, Some, None, Option, ℤ, pos, negsuc, ◌+ℤ◌, neg_ℤ, refl, sym, ap, ◌∙◌, subst, arith}
use borrow.Author.Tests.{ltb-true}
use Rattle.std.specs.Int.{int_rem_euclid}
use Rattle.std.specs.Int.RustNames.{unsigned_abs}
use Rattle.std.proofs.lemmas.Nat.{div_below, mod_below, div-add-mod', mod-mul-add}
use Rattle.std.proofs.lemmas.Int.{ints, int_rem_euclid_is}
use Rattle.std.proofs.lemmas.Bool.{lt-ltb}
use Rattle.std.proofs.Math.Nat.{add-mul, le-mul_of_pos_right}
use Rattle.quantity.specs.declared.place.Offset.{Offset}
use Rattle.quantity.specs.declared.place.Place.{Place}
use Rattle.cell_grid.specs.declared.grid.Border.{Border}
use Rattle.cell_grid.specs.declared.grid.Border.TheVariants.{Wrapped, NoWrapped}
use Rattle.cell_grid.specs.Space.{Space, plane_count, cell_count, place_of, number_of, if_below, coordinate_after_step, for_some, neighbour}
use Rattle.cell_grid.specs.Watched.{IsInside, opposite}
use Rattle.cell_grid.proofs.Places.{sizes-from_cell, place-inside, number-of_place, place-of_number, number-inside}

-- ---- one coordinate of a wrapped space

whole_turns : (a n : ℕ) → 0 < n → a ≤ a * n
whole_turns a n some = le-mul_of_pos_right a some

-- so many turns, and those that are left of a
turns_left : (a q n : ℕ) → q ≤ a → a * n ≡ q * n + (a - q) * n
turns_left a q n few =
    let parts : a ≡ q + (a - q) = omega arith in
    ap (λ m. m * n) parts ∙ add-mul q (a - q) n

-- a steps on, and a steps back on a circle of n places
back-after_on : (n at a to : ℕ) → at < n → to ≡ (at + a) % n → (to + a * n - a) % n ≡ at
back-after_on n at a to inside is =
    let turns : a ≤ a * n = whole_turns a n (omega arith) in
    let few : (at + a) / n < a + 1 = div_below (at + a) n (a + 1) (omega arith) (omega (arith, add-mul a 1 n)) in
    let parts : a * n ≡ (at + a) / n * n + (a - (at + a) / n) * n = turns_left a ((at + a) / n) n (omega arith) in
    let sum : to + a * n - a ≡ (a - (at + a) / n) * n + at = omega (arith, div-add-mod' (at + a) n) in
    ap (λ m. m % n) sum ∙ mod-mul-add (a - (at + a) / n) n at inside

on-after_back : (n at a to : ℕ) → at < n → to ≡ (at + a * n - a) % n → (to + a) % n ≡ at
on-after_back n at a to inside is =
    let turns : a ≤ a * n = whole_turns a n (omega arith) in
    let m : ℕ = at + a * n - a in
    let few : m / n < a + 1 = div_below m n (a + 1) (omega arith) (omega (arith, add-mul a 1 n)) in
    let parts : a * n ≡ m / n * n + (a - m / n) * n = turns_left a (m / n) n (omega arith) in
    let sum : to + a ≡ (a - m / n) * n + at = omega (arith, div-add-mod' m n) in
    ap (λ m. m % n) sum ∙ mod-mul-add (a - m / n) n at inside

-- a number that is congruent to an integer gives its remainder
remainder : (n k m : ℕ) (z : ℤ) → 0 < n → z +ℤ pos (k * n) ≡ pos m → unsigned_abs (int_rem_euclid z (pos n)) ≡ m % n
remainder n k m z some is = ap unsigned_abs (int_rem_euclid_is z (pos n) n k m some refl is)

some_is : (m n : ℕ) → Some m ≡ Some n → m ≡ n
some_is m n is = cc

wrapped-back : (n at to : ℕ) (step : ℤ) → at < n → to < n → coordinate_after_step Wrapped n at step ≡ Some to → coordinate_after_step Wrapped n to (neg_ℤ step) ≡ Some at
wrapped-back n at to (pos a) inside here is =
    let turns : a ≤ a * n = whole_turns a n (omega arith) in
    let there : to ≡ (at + a) % n = sym (some_is ((at + a) % n) to is) in
    let m : ℕ = to + a * n - a in
    ap Some (remainder n a m (pos to +ℤ neg_ℤ (pos a)) (omega arith) (omega (arith, ints)) ∙ back-after_on n at a to inside there)
wrapped-back n at to (negsuc a) inside here is =
    let b : ℕ = suc a in
    let turns : b ≤ b * n = whole_turns b n (omega arith) in
    let m : ℕ = at + b * n - b in
    let there : to ≡ m % n =
    sym (some_is (unsigned_abs (int_rem_euclid (pos at +ℤ negsuc a) (pos n))) to is) ∙ remainder n b m (pos at +ℤ negsuc a) (omega arith) (omega (arith, ints)) in
    ap Some (on-after_back n at b to inside there)

-- ---- one coordinate of a space that is not wrapped

chosen : (b : Bool) (m n : ℕ) → cond b (Some m) None ≡ Some n → (b ≡ true) × (m ≡ n)
chosen true m n is = (refl, cc)
chosen false m n is = cc

pub below-is : (n to : ℕ) (z : ℤ) → if_below n z ≡ Some to → z ≡ pos to
below-is n to (pos m) is = ap pos (chosen (ltb m n) m to is).1
below-is n to (negsuc m) is = cc

bounded-back : (n at to : ℕ) (step : ℤ) → at < n → to < n → coordinate_after_step NoWrapped n at step ≡ Some to → coordinate_after_step NoWrapped n to (neg_ℤ step) ≡ Some at
bounded-back n at to step inside here is =
    let there : pos at +ℤ step ≡ pos to = below-is n to (pos at +ℤ step) is in
    let back : pos to +ℤ neg_ℤ step ≡ pos at = omega (arith, ints) in
    rw back (rw (lt-ltb at n inside) refl)

-- ---- one coordinate

moved-back : (border : Border) (n at to : ℕ) (step : ℤ) → at < n → to < n → coordinate_after_step border n at step ≡ Some to → coordinate_after_step border n to (neg_ℤ step) ≡ Some at
moved-back Wrapped n at to step inside here is = wrapped-back n at to step inside here is
moved-back NoWrapped n at to step inside here is = bounded-back n at to step inside here is

wrapped-inside : (n to : ℕ) (z : ℤ) → 0 < n → Some (unsigned_abs (int_rem_euclid z (pos n))) ≡ Some to → to < n
wrapped-inside n to (pos a) some is = omega (arith, mod_below a n some, some_is (a % n) to is)
wrapped-inside n to (negsuc a) some is = omega (arith, some_is (n - 1 - a % n) to is)

pub below-inside : (n to : ℕ) (z : ℤ) → if_below n z ≡ Some to → to < n
below-inside n to (pos m) is =
    let at = chosen (ltb m n) m to is in
    omega (arith, ltb-true m n at.0, at.1)
below-inside n to (negsuc m) is = cc

-- a coordinate that is moved stays inside
moved-inside : (border : Border) (n at to : ℕ) (step : ℤ) → 0 < n → coordinate_after_step border n at step ≡ Some to → to < n
moved-inside Wrapped n at to step some is = wrapped-inside n to (pos at +ℤ step) some is
moved-inside NoWrapped n at to step some is = below-inside n to (pos at +ℤ step) is

-- ---- whole places

-- the neighbour of x by o stands at p
record MovesTo (s : Space) (x : ℕ) (o : Offset) (p : Place) : Type 0 where
  row : coordinate_after_step s.border s.rows (place_of s x).row o.row ≡ Some p.row
  column : coordinate_after_step s.border s.columns (place_of s x).column o.column ≡ Some p.column
  plane : coordinate_after_step s.border (plane_count s) (place_of s x).plane o.plane ≡ Some p.plane

pub with_three : (a b c : Option ℕ) (go : ℕ → ℕ → ℕ → ℕ) (i j k : ℕ) → a ≡ Some i → b ≡ Some j → c ≡ Some k
    → for_some a (λ i. for_some b (λ j. for_some c (λ k. Some (go i j k)))) ≡ Some (go i j k)
with_three a b c go i j k first second third = rw (first, second, third) refl

three-from_some : (a b c : Option ℕ) (go : ℕ → ℕ → ℕ → ℕ) (n : ℕ)
    → for_some a (λ i. for_some b (λ j. for_some c (λ k. Some (go i j k)))) ≡ Some n
    → (i : ℕ) × (j : ℕ) × (k : ℕ) × (a ≡ Some i) × (b ≡ Some j) × (c ≡ Some k) × (go i j k ≡ n)
three-from_some (Some i) (Some j) (Some k) go n is = (i, j, k, refl, refl, refl, some_is (go i j k) n is)
three-from_some (Some i) (Some j) None go n is = cc
three-from_some (Some i) None c go n is = cc
three-from_some None b c go n is = cc

neighbour-is : (s : Space) (x : ℕ) (o : Offset) (p : Place) → MovesTo s x o p → neighbour s x o ≡ Some (number_of s p.row p.column p.plane)
neighbour-is s x o p moves =
    with_three (coordinate_after_step s.border s.rows (place_of s x).row o.row) (coordinate_after_step s.border s.columns (place_of s x).column o.column)
    (coordinate_after_step s.border (plane_count s) (place_of s x).plane o.plane) (number_of s) p.row p.column p.plane moves.row moves.column moves.plane

-- a neighbour stands somewhere inside
record Reached (s : Space) (x : ℕ) (o : Offset) (cell : ℕ) : Type 0 where
  place : Place
  inside : IsInside s place
  moves : MovesTo s x o place
  number : number_of s place.row place.column place.plane ≡ cell

reached-neighbour : (s : Space) (x cell : ℕ) (o : Offset) → x < cell_count s → neighbour s x o ≡ Some cell → Reached s x o cell
reached-neighbour s x cell o x_here is =
    let sizes = sizes-from_cell s x x_here in
    let from : Place = place_of s x in
    let to = three-from_some (coordinate_after_step s.border s.rows from.row o.row) (coordinate_after_step s.border s.columns from.column o.column)
    (coordinate_after_step s.border (plane_count s) from.plane o.plane) (number_of s) cell is in
    record {
      place = record { row = to.0; column = to.1; plane = to.2 };
      inside = (
        moved-inside s.border s.rows from.row to.0 o.row sizes.0 to.3,
        moved-inside s.border s.columns from.column to.1 o.column sizes.1 to.4,
        moved-inside s.border (plane_count s) from.plane to.2 o.plane sizes.2 to.5,
      );
      moves = record { row = to.3; column = to.4; plane = to.5 };
      number = to.6;
    }

moves_to-neighbour : (s : Space) (x cell : ℕ) (o : Offset) → x < cell_count s → neighbour s x o ≡ Some cell → MovesTo s x o (place_of s cell)
moves_to-neighbour s x cell o x_here is =
    let to = reached-neighbour s x cell o x_here is in
    let Moves : Place → Type 0 = λ p. MovesTo s x o p in
    let at : to.place ≡ place_of s cell = sym (place-of_number s to.place to.inside) ∙ ap (place_of s) to.number in
    subst Moves at to.moves

-- a neighbour is a cell of the space
pub neighbour-inside : (s : Space) (x cell : ℕ) (o : Offset) → x < cell_count s → neighbour s x o ≡ Some cell → cell < cell_count s
neighbour-inside s x cell o x_here is =
    let to = reached-neighbour s x cell o x_here is in
    let Below : ℕ → Type 0 = λ n. n < cell_count s in
    subst Below to.number (number-inside s to.place to.inside)

moves-back : (s : Space) (x cell : ℕ) (o : Offset) → x < cell_count s → cell < cell_count s → MovesTo s x o (place_of s cell) → MovesTo s cell (opposite o) (place_of s x)
moves-back s x cell o x_here cell_here moves =
    let from : IsInside s (place_of s x) = place-inside s x x_here in
    let to : IsInside s (place_of s cell) = place-inside s cell cell_here in
    record {
      row = moved-back s.border s.rows (place_of s x).row (place_of s cell).row o.row from.0 to.0 moves.row;
      column = moved-back s.border s.columns (place_of s x).column (place_of s cell).column o.column from.1 to.1 moves.column;
      plane = moved-back s.border (plane_count s) (place_of s x).plane (place_of s cell).plane o.plane from.2 to.2 moves.plane;
    }

-- an offset that leads from x to the cell leads back by its opposite
pub leads_back : (s : Space) (x cell : ℕ) (o : Offset) → x < cell_count s → cell < cell_count s → neighbour s x o ≡ Some cell → neighbour s cell (opposite o) ≡ Some x
leads_back s x cell o x_here cell_here is =
    neighbour-is s cell (opposite o) (place_of s x) (moves-back s x cell o x_here cell_here (moves_to-neighbour s x cell o x_here is))
    ∙ ap Some (number-of_place s x)

neg-neg : (z : ℤ) → neg_ℤ (neg_ℤ z) ≡ z
neg-neg z = omega (arith, ints)

offset : ℤ → ℤ → ℤ → Offset
offset row column plane = record { row = row; column = column; plane = plane }

pub same_offset : (o p : Offset) → o.row ≡ p.row → o.column ≡ p.column → o.plane ≡ p.plane → o ≡ p
unfolding offset
same_offset o p rows columns planes =
    ap (λ z. offset z o.column o.plane) rows ∙ ap (λ z. offset p.row z o.plane) columns ∙ ap (λ z. offset p.row p.column z) planes

opposite-opposite : (o : Offset) → opposite (opposite o) ≡ o
opposite-opposite o = same_offset (opposite (opposite o)) o (neg-neg o.row) (neg-neg o.column) (neg-neg o.plane)

pub opposite-from_parts : (o p : Offset) → p.row ≡ neg_ℤ o.row → p.column ≡ neg_ℤ o.column → p.plane ≡ neg_ℤ o.plane → p ≡ opposite o
opposite-from_parts o p rows columns planes = same_offset p (opposite o) rows columns planes

-- an offset whose opposite leads from the cell to x leads on from x
pub leads_on : (s : Space) (x cell : ℕ) (o : Offset) → x < cell_count s → cell < cell_count s → neighbour s cell (opposite o) ≡ Some x → neighbour s x o ≡ Some cell
leads_on s x cell o x_here cell_here back =
    let Leads : Offset → Type 0 = λ p. neighbour s x p ≡ Some cell in
    subst Leads (opposite-opposite o) (leads_back s cell x (opposite o) cell_here x_here back)
