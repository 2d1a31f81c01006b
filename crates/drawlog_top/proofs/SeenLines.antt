-- What lines of a log show: it is in the space, and its times never fall.
use Rattle.std.proofs.Common.{◌≡◌, ℕ, ◌+◌, ◌<◌, ◌≤◌, ◌==◌, ◌&&◌, Bool, true, false, cond, Option, Some, None, List, [], ◌∷◌, ◌++◌, refl, ap, subst, arith, nat_le}
use Rattle.std.specs.Prelude.{Result, Ok, Err}
use Rattle.std.specs.List.{AllByRecursion}
use Rattle.std.specs.Option.{option_map}
use Rattle.std.specs.Str.{bytes_eq}
use Rattle.std.proofs.lemmas.Bool.Decides.{nat_tests}
use Rattle.quantity.specs.Bytes.{Bytes}
use Rattle.quantity.specs.declared.place.Place.{Place}
use Rattle.quantity.specs.declared.value.Value.{Value}
use Rattle.cell_grid.specs.Space.{Space, cell_at_place, cell_count, dims_of}
use Rattle.cell_grid.proofs.Places.{inside-from_cell_at, number-inside}
use Rattle.model_tree.specs.Tree.{Word}
use Rattle.text_forms.specs.LogLine.{LogLine, given, moved, read_line}
use Rattle.text_forms.specs.Frames.{ShownCell, cell_of_coordinates, is_drawn, shown_at, shown_of, line_time, not_before}
use Rattle.text_forms.specs.Frames.{and_shown, only_end, lines_from}
use Rattle.frame_draw.specs.Instants.{IsShownAt}
use Rattle.frame_draw.specs.Turns.{NeverFall}
use Rattle.drawlog_top.specs.Seen.{Seen, what_line_shows, seen_at, seen_line}

-- ---- one line before others

-- what lines show, of which the first is read so
abbrev after_line : Space → Word → ℕ → List Bytes → Option LogLine → Result (List ShownCell) ℕ
after_line s group line rest o = elim o [ None ↦ Err line | Some l ↦ and_shown line (shown_of s group l) (lines_from s group (line + 1) (line_time l) rest) ]

-- a line that is not refused
pub seen_next : (s : Space) (group : Word) (line before : ℕ) (part next : Bytes) (more : List Bytes) (x : Seen) → what_line_shows s group before part ≡ Some x
    → lines_from s group line before (part ∷ next ∷ more) ≡ and_shown line (Some x.shown) (lines_from s group (line + 1) x.time (next ∷ more))
seen_next s group line before part next more x is = by (not_before before (read_line part)) is
  where
    by_shown : (t : ℕ) (o : Option (List ShownCell)) → option_map (seen_at t) o ≡ Some x
        → and_shown line o (lines_from s group (line + 1) t (next ∷ more)) ≡ and_shown line (Some x.shown) (lines_from s group (line + 1) x.time (next ∷ more))
    by_shown t None is = cc
    by_shown t (Some here) is =
        let e : seen_at t here ≡ x = cc in
        ap (λ (y : Seen). and_shown line (Some y.shown) (lines_from s group (line + 1) y.time (next ∷ more))) e

    by : (o : Option LogLine) → seen_line s group o ≡ Some x
        → after_line s group line (next ∷ more) o
        ≡ and_shown line (Some x.shown) (lines_from s group (line + 1) x.time (next ∷ more))
    by None is = cc
    by (Some l) is = by_shown (line_time l) (shown_of s group l) is

-- a line that is refused
pub refused_here : (s : Space) (group : Word) (line before : ℕ) (part next : Bytes) (more : List Bytes) → what_line_shows s group before part ≡ None → lines_from s group line before (part ∷ next ∷ more) ≡ Err line
refused_here s group line before part next more is = by (not_before before (read_line part)) is
  where
    by_shown : (t : ℕ) (o : Option (List ShownCell)) → option_map (seen_at t) o ≡ None → (r : Result (List ShownCell) ℕ) → and_shown line o r ≡ Err line
    by_shown t None is r = refl
    by_shown t (Some here) is r = cc

    by : (o : Option LogLine) → seen_line s group o ≡ None
        → after_line s group line (next ∷ more) o ≡ Err line
    by None is = refl
    by (Some l) is = by_shown (line_time l) (shown_of s group l) is (lines_from s group (line + 1) (line_time l) (next ∷ more))

-- ---- cells in the space

at_place : (s : Space) (p : Place) (cell : ℕ) (b : Bool) → cond b (cell_at_place s p) None ≡ Some cell → cell < cell_count s
at_place s p cell true is =
    let inside = inside-from_cell_at s p cell is in
    subst (λ (n : ℕ). n < cell_count s) inside.1 (number-inside s p inside.0)
at_place s p cell false is = absurd cc

cell_inside : (s : Space) (at : List ℕ) (cell : ℕ) → cell_of_coordinates s at ≡ Some cell → cell < cell_count s
cell_inside s [] cell is = absurd cc
cell_inside s (i ∷ []) cell is = absurd cc
cell_inside s (i ∷ j ∷ []) cell is = at_place s (record { row = i; column = j; plane = 0 }) cell (dims_of s == 2) is
cell_inside s (i ∷ j ∷ k ∷ []) cell is = at_place s (record { row = i; column = j; plane = k }) cell (dims_of s == 3) is
cell_inside s (i ∷ j ∷ k ∷ m ∷ ms) cell is = absurd cc

-- ---- what one line shows

abbrev Here : Space → ℕ → List ShownCell → Type 0
Here s t shown = AllByRecursion (IsShownAt (cell_count s) t) shown

nothing_here : (s : Space) (t : ℕ) (here : List ShownCell) (o : Option (List ShownCell)) → o ≡ Some [] → o ≡ Some here → Here s t here
nothing_here s t here o none is = let e : [] ≡ here = cc in subst (Here s t) e tt

value_here : (s : Space) (t : ℕ) (v : Value) (here : List ShownCell) (o : Option ℕ) → ((cell : ℕ) → o ≡ Some cell → cell < cell_count s) → shown_at t v o ≡ Some here → Here s t here
value_here s t v here None inside is = absurd cc
value_here s t v here (Some cell) inside is =
    let one : ShownCell = record { time = t; cell = cell; value = v } in
    let e : one ∷ [] ≡ here = cc in
    subst (Here s t) e ((refl, inside cell refl), tt)

line_here : (s : Space) (group : Word) (l : LogLine) (here : List ShownCell) → shown_of s group l ≡ Some here → Here s (line_time l) here
line_here s group (moved time leaf state next) here is = nothing_here s time here (Some []) refl is
line_here s group (given letter time leaf port v) here is =
    by (is_drawn letter && bytes_eq leaf.name group) is
  where
    by : (b : Bool) → cond b (shown_at time v (cell_of_coordinates s leaf.at)) (Some []) ≡ Some here → Here s time here
    by true is = value_here s time v here (cell_of_coordinates s leaf.at) (cell_inside s leaf.at) is
    by false is = nothing_here s time here (Some []) refl is

-- ---- what all lines show

-- times never fall from this one on, and all cells are in the space
pub record IsShownFrom (s : Space) (before : ℕ) (shown : List ShownCell) : Type 0 where
  pub never_fall : NeverFall before shown
  pub inside : AllByRecursion (λ (x : ShownCell). x.cell < cell_count s) shown

later : (t u : ℕ) (ss : List ShownCell) → t ≤ u → NeverFall u ss → NeverFall t ss
later t u [] le h = tt
later t u (s ∷ ss) le h = let first = h.0 in (omega (arith, le, first), h.1)

join_up : (s : Space) (t u : ℕ) (here more : List ShownCell) → t ≤ u → Here s u here → NeverFall u more → NeverFall t (here ++ more)
join_up s t u [] more le h up = later t u more le up
join_up s t u (x ∷ xs) more le h up =
    let at = h.0.0 in (omega (arith, le, at), join_up s x.time u xs more (omega (arith, at)) h.1 up)

join_inside : (s : Space) (u : ℕ) (here more : List ShownCell) → Here s u here → AllByRecursion (λ (x : ShownCell). x.cell < cell_count s) more → AllByRecursion (λ (x : ShownCell). x.cell < cell_count s) (here ++ more)
join_inside s u [] more h inside = inside
join_inside s u (x ∷ xs) more h inside = (h.0.1, join_inside s u xs more h.1 inside)

no_more : (s : Space) (before : ℕ) (shown : List ShownCell) (r : Result (List ShownCell) ℕ) → r ≡ Ok [] → r ≡ Ok shown → IsShownFrom s before shown
no_more s before shown r none is = let e : [] ≡ shown = cc in subst (IsShownFrom s before) e (record { never_fall = tt; inside = tt })

no_end : (s : Space) (line before : ℕ) (part : Bytes) (shown : List ShownCell) → only_end line part ≡ Ok shown → IsShownFrom s before shown
no_end s line before [] shown is = no_more s before shown (Ok []) refl is
no_end s line before (c ∷ cs) shown is = absurd cc

in_turn : (before : ℕ) (o : Option LogLine) (l : LogLine) → not_before before o ≡ Some l → before ≤ line_time l
in_turn before None l is = absurd cc
in_turn before (Some m) l is = by (nat_le before (line_time m)) refl is
  where
    by : (b : Bool) → nat_le before (line_time m) ≡ b → cond b (Some m) None ≡ Some l → before ≤ line_time l
    by true le is =
        let e : m ≡ l = cc in
        let here : before ≤ line_time m = grind (arith, nat_tests) in
        subst (λ (x : LogLine). before ≤ line_time x) e here
    by false le is = absurd cc

-- what these parts show, from each time on
abbrev Behind : Space → Word → ℕ → List Bytes → Type 0
Behind s group line parts = (t : ℕ) (shown : List ShownCell) → lines_from s group line t parts ≡ Ok shown → IsShownFrom s t shown

pub shown_from : (s : Space) (group : Word) (line before : ℕ) (parts : List Bytes) (shown : List ShownCell) → lines_from s group line before parts ≡ Ok shown → IsShownFrom s before shown
shown_from s group line before [] shown is = no_more s before shown (Ok []) refl is
shown_from s group line before (part ∷ []) shown is = no_end s line before part shown is
shown_from s group line before (part ∷ next ∷ more) shown is =
    by (not_before before (read_line part)) (in_turn before (read_line part)) (λ t. shown_from s group (line + 1) t (next ∷ more)) is
  where
    by_both : (l : LogLine) → before ≤ line_time l → Behind s group (line + 1) (next ∷ more) → (o : Option (List ShownCell)) → shown_of s group l ≡ o → (r : Result (List ShownCell) ℕ) → lines_from s group (line + 1) (line_time l) (next ∷ more) ≡ r
        → and_shown line o r ≡ Ok shown → IsShownFrom s before shown
    by_both l le behind None here r rest is = absurd cc
    by_both l le behind (Some x) here (Err n) rest is = absurd cc
    by_both l le behind (Some x) here (Ok xs) rest is =
        let e : x ++ xs ≡ shown = cc in
        let at = line_here s group l x here in
        let then' = behind (line_time l) xs rest in
        subst (IsShownFrom s before) e (record { never_fall = join_up s before (line_time l) x xs le at then'.never_fall; inside = join_inside s (line_time l) x xs at then'.inside })

    by : (o : Option LogLine) → ((l : LogLine) → o ≡ Some l → before ≤ line_time l) → Behind s group (line + 1) (next ∷ more)
        → after_line s group line (next ∷ more) o ≡ Ok shown → IsShownFrom s before shown
    by None le behind is = absurd cc
    by (Some l) le behind is = by_both l (le l refl) behind (shown_of s group l) refl (lines_from s group (line + 1) (line_time l) (next ∷ more)) refl is
