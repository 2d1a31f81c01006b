-- Zones laid over the cells of a space.
use Rattle.std.proofs.Common.{◌≡◌, ℕ, ◌+◌, ◌-◌, ◌*◌, ◌<◌, ◌≤◌, Bool, true, false, cond, ◌&&◌, ◌||◌, nat_le, nat_lt, ltb, Option, Some, List, [], ◌∷◌, length, get_or, set, take, drop, refl, sym, ◌∙◌, ap, inl, inr, arith, get_or-set_same, get_or-set_other}
use Rattle.std.specs.Prelude.{slice_get}
use Rattle.std.specs.List.{list_any, position, position_from}
use Rattle.std.specs.Option.{unwrap_or}
use Rattle.std.proofs.lemmas.Bool.{and_parts, and_from, cases_eq, cases_lt, le-leb, leb-true, lt-ltb, ltb-true, le-ltb, false_from_ne_true}
use Rattle.std.proofs.lemmas.Nat.{mul-le}
use Rattle.std.proofs.lemmas.List.{drop_all, drop_more}
use Rattle.std.proofs.lemmas.List.Folds.{list_any_more}
use Rattle.std.proofs.lemmas.Iterator.Adapters.{position_from-zero}
use Rattle.quantity.specs.declared.place.Place.{Place}
use Rattle.quantity.specs.declared.bounds.TheConstants.{MAX_CELLS}
use Rattle.quantity.specs.Digits.{is_between}
use Rattle.cell_grid.specs.Space.{Space, cell_count, plane_count, place_of, number_of}
use Rattle.cell_grid.specs.Watched.{CanHold, IsInside}
use Rattle.cell_grid.specs.Zones.{range_holds}
use Rattle.cell_grid.specs.Numbered.{zone_number}
use Rattle.cell_grid.specs.Laying.{Lays, is_from, in_part, Fits}
use Rattle.cell_grid.proofs.Places.{place-inside, number-inside, number-of_place, place-of_number}

-- ---- numbers from a first one on

from-parts : (first count n : ℕ) → is_from first count n ≡ true → (first ≤ n) × (n < first + count)
from-parts first count n is =
    let both = and_parts (nat_le first n) (nat_lt n (first + count)) is in
    (leb-true first n both.0, ltb-true n (first + count) both.1)

from-is : (first count n : ℕ) → first ≤ n → n < first + count → is_from first count n ≡ true
from-is first count n low high =
    and_from (nat_le first n) (nat_lt n (first + count)) (le-leb first n low) (lt-ltb n (first + count) high)

-- ---- a part of a space

abbrev pub place : ℕ → ℕ → ℕ → Place
place row column plane = record { row = row; column = column; plane = plane }

same_place : (p q : Place) → p.row ≡ q.row → p.column ≡ q.column → p.plane ≡ q.plane → p ≡ q
same_place p q rows columns planes = λ i. place (rows i) (columns i) (planes i)

-- where a place stands in a part that begins at another
abbrev pub behind : Place → Place → Place
behind low p = place (p.row - low.row) (p.column - low.column) (p.plane - low.plane)

-- the place of a part that begins at another
abbrev pub ahead : Place → Place → Place
ahead low p = place (low.row + p.row) (low.column + p.column) (low.plane + p.plane)

pub record AreFrom (part : Space) (low p : Place) : Type 0 where
  pub rows : low.row ≤ p.row
  pub columns : low.column ≤ p.column
  pub planes : low.plane ≤ p.plane
  pub inside : IsInside part (behind low p)

part-parts : (part : Space) (low p : Place) → in_part part low p ≡ true → AreFrom part low p
part-parts part low p is =
    let a = is_from low.row part.rows p.row in
    let b = is_from low.column part.columns p.column in
    let c = is_from low.plane (plane_count part) p.plane in
    let one = and_parts (a && b) c is in
    let two = and_parts a b one.0 in
    let rows = from-parts low.row part.rows p.row two.0 in
    let columns = from-parts low.column part.columns p.column two.1 in
    let planes = from-parts low.plane (plane_count part) p.plane one.1 in
    record {
      rows = rows.0;
      columns = columns.0;
      planes = planes.0;
      inside = (omega (arith, rows.0, rows.1), omega (arith, columns.0, columns.1), omega (arith, planes.0, planes.1));
    }

ahead-in : (part : Space) (low p : Place) → IsInside part p → in_part part low (ahead low p) ≡ true
ahead-in part low p inside =
    let a = from-is low.row part.rows (low.row + p.row) (omega arith) (omega (arith, inside.0)) in
    let b = from-is low.column part.columns (low.column + p.column) (omega arith) (omega (arith, inside.1)) in
    let c = from-is low.plane (plane_count part) (low.plane + p.plane) (omega arith) (omega (arith, inside.2)) in
    and_from (is_from low.row part.rows (low.row + p.row) && is_from low.column part.columns (low.column + p.column)) (is_from low.plane (plane_count part) (low.plane + p.plane))
    (and_from (is_from low.row part.rows (low.row + p.row)) (is_from low.column part.columns (low.column + p.column)) a b) c

pub ahead-inside : (part s : Space) (low p : Place) → Fits part s low → IsInside part p → IsInside s (ahead low p)
ahead-inside part s low p fits inside =
    (omega (arith, fits.rows, inside.0), omega (arith, fits.columns, inside.1), omega (arith, fits.planes, inside.2))

behind-ahead : (low p : Place) → behind low (ahead low p) ≡ p
behind-ahead low p = same_place (behind low (ahead low p)) p (omega arith) (omega arith) (omega arith)

ahead-behind : (part : Space) (low p : Place) → AreFrom part low p → ahead low (behind low p) ≡ p
ahead-behind part low p h =
    same_place (ahead low (behind low p)) p (omega (arith, h.rows)) (omega (arith, h.columns)) (omega (arith, h.planes))

abbrev pub number_at : Space → Place → ℕ
number_at s p = number_of s p.row p.column p.plane

-- a place of the part whose cell there has a number below
abbrev pub before : Space → Place → ℕ → Place → Bool
before part low k p = in_part part low p && ltb (number_at part (behind low p)) k

no-more : (b : Bool) (n k : ℕ) → (b ≡ true → n ≡ k → ⊥) → (b && ltb n (k + 1)) ≡ (b && ltb n k)
no-more false n k other = refl
no-more true n k other =
    let apart = other refl in
    elim (cases_lt n k) as (λ _. ltb n (k + 1) ≡ ltb n k) [
      | inl lt ↦ lt-ltb n (k + 1) (omega (arith, lt)) ∙ sym (lt-ltb n k lt)
      | inr le ↦ le-ltb n (k + 1) (omega (arith, le, apart)) ∙ sym (le-ltb n k le)
    ]

none-before : (b : Bool) (n : ℕ) → (b && ltb n 0) ≡ false
none-before true n = le-ltb n 0 (omega arith)
none-before false n = refl

all-before : (b : Bool) (n k : ℕ) → (b ≡ true → n < k) → (b && ltb n k) ≡ b
all-before true n k lt = lt-ltb n k (lt refl)
all-before false n k lt = refl

pub nothing-laid : (part s : Space) (low : Place) (number : ℕ) (old : List ℕ) → Lays (before part low 0) number s old old
nothing-laid part s low number old cell lt =
    let p = place_of s cell in
    ap (λ b. cond b number (get_or old cell 0)) (sym (none-before (in_part part low p) (number_at part (behind low p))))

pub all-laid : (part s : Space) (low : Place) (number n : ℕ) (old new : List ℕ) → cell_count part ≤ n → Lays (before part low n) number s old new → Lays (in_part part low) number s old new
all-laid part s low number n old new le laid cell lt =
    let p = place_of s cell in
    laid cell lt
    ∙ ap (λ b. cond b number (get_or old cell 0))
    (all-before (in_part part low p) (number_at part (behind low p)) n (λ is. let few = number-inside part (behind low p) (part-parts part low p is).inside in omega (arith, few, le)))

-- one cell more of the part
pub cell-laid : (part s : Space) (low : Place) (number k at : ℕ) (old now : List ℕ) → Fits part s low → k < cell_count part → at ≡ number_at s (ahead low (place_of part k)) → length now ≡ cell_count s
    → Lays (before part low k) number s old now → Lays (before part low (k + 1)) number s old (set now at number)
cell-laid part s low number k at old now fits here is long laid cell lt =
    let p = place_of s cell in
    let q = ahead low (place_of part k) in
    let within = ahead-inside part s low (place_of part k) fits (place-inside part k here) in
    elim (cases_eq cell at) as (λ _. get_or (set now at number) cell 0 ≡ cond (before part low (k + 1) p) number (get_or old cell 0)) [
      | inl same ↦
          let there : p ≡ q = ap (place_of s) (same ∙ is) ∙ place-of_number s q within in
          let spot : number_at part (behind low p) ≡ k = ap (λ r. number_at part (behind low r)) there ∙ ap (number_at part) (behind-ahead low (place_of part k)) ∙ number-of_place part k in
          let passes : before part low (k + 1) p ≡ true =
          and_from (in_part part low p) (ltb (number_at part (behind low p)) (k + 1))
          (ap (in_part part low) there ∙ ahead-in part low (place_of part k) (place-inside part k here))
          (lt-ltb (number_at part (behind low p)) (k + 1) (omega (arith, spot))) in
          ap (λ j. get_or (set now at number) j 0) same ∙ get_or-set_same now at number 0 (omega (arith, lt, same, long))
          ∙ ap (λ b. cond b number (get_or old cell 0)) (sym passes)
      | inr other ↦
          get_or-set_other now at cell number 0 other ∙ laid cell lt
          ∙ ap (λ b. cond b number (get_or old cell 0))
          (sym (no-more (in_part part low p) (number_at part (behind low p)) k (λ in_it spot.
          let from = part-parts part low p in_it in
          let back : place_of part k ≡ behind low p = ap (place_of part) (sym spot) ∙ place-of_number part (behind low p) from.inside in
          let there : q ≡ p = ap (ahead low) back ∙ ahead-behind part low p from in
          other (sym (number-of_place s cell) ∙ ap (number_at s) (sym there) ∙ sym is))))
    ]

-- ---- a range

range-same : (part s : Space) (low high : Place)
    → ((n : ℕ) → n < s.rows → is_between low.row high.row n ≡ is_from low.row part.rows n)
    → ((n : ℕ) → n < s.columns → is_between low.column high.column n ≡ is_from low.column part.columns n)
    → ((n : ℕ) → n < plane_count s → is_between low.plane high.plane n ≡ is_from low.plane (plane_count part) n)
    → (p : Place) → IsInside s p → range_holds p (low, high) ≡ in_part part low p
range-same part s low high rows columns planes p inside = λ i.
    rows p.row inside.0 i && columns p.column inside.1 i && planes p.plane inside.2 i

pub range-laid : (part s : Space) (low high : Place) (number : ℕ) (old new : List ℕ)
    → ((n : ℕ) → n < s.rows → is_between low.row high.row n ≡ is_from low.row part.rows n)
    → ((n : ℕ) → n < s.columns → is_between low.column high.column n ≡ is_from low.column part.columns n)
    → ((n : ℕ) → n < plane_count s → is_between low.plane high.plane n ≡ is_from low.plane (plane_count part) n)
    → Lays (in_part part low) number s old new → Lays (λ p. range_holds p (low, high)) number s old new
range-laid part s low high number old new rows columns planes laid cell lt =
    laid cell lt ∙ ap (λ b. cond b number (get_or old cell 0)) (sym (range-same part s low high rows columns planes (place_of s cell) (place-inside s cell lt)))

-- a part that can't be made has no cell
pub none-held : (part s : Space) (low high : Place) (number : ℕ) (old : List ℕ) → (CanHold part.rows part.columns part.planes → ⊥) → cell_count s ≤ MAX_CELLS
    → part.rows ≤ s.rows → part.columns ≤ s.columns → plane_count part ≤ plane_count s
    → ((n : ℕ) → n < s.rows → is_between low.row high.row n ≡ is_from low.row part.rows n)
    → ((n : ℕ) → n < s.columns → is_between low.column high.column n ≡ is_from low.column part.columns n)
    → ((n : ℕ) → n < plane_count s → is_between low.plane high.plane n ≡ is_from low.plane (plane_count part) n)
    → Lays (λ p. range_holds p (low, high)) number s old old
none-held part s low high number old none few r c d rows columns planes cell lt =
    let p = place_of s cell in
    let same = range-same part s low high rows columns planes p (place-inside s cell lt) in
    ap (λ b. cond b number (get_or old cell 0))
    (sym (false_from_ne_true (range_holds p (low, high)) (λ is.
    let inside = (part-parts part low p (sym same ∙ is)).inside in
    let flat = mul-le part.rows part.columns s.rows s.columns r c in
    let all = mul-le (part.rows * part.columns) (plane_count part) (s.rows * s.columns) (plane_count s) flat d in
    none (omega (arith, inside.0), omega (arith, inside.1), omega (arith, inside.2), omega (arith, all, few)))))

pub range-fits : (part s : Space) (low : Place) → CanHold part.rows part.columns part.planes
    → (0 < part.rows → low.row + part.rows ≤ s.rows) → (0 < part.columns → low.column + part.columns ≤ s.columns) → (0 < plane_count part → low.plane + plane_count part ≤ plane_count s)
    → Fits part s low
range-fits part s low held rows columns planes = record { rows = rows held.0; columns = columns held.1; planes = planes held.2 }

-- ---- ranges of a zone

abbrev pub in_first : List (Place × Place) → ℕ → Place → Bool
in_first ranges k p = list_any (range_holds p) (take k ranges)

one-of : (a b : Bool) (number other : ℕ) → cond b number (cond a number other) ≡ cond (a || b) number other
one-of true true number other = refl
one-of true false number other = refl
one-of false b number other = refl

pub ranges-laid : (ranges : List (Place × Place)) (k : ℕ) (corners : Place × Place) (s : Space) (number : ℕ) (old now new : List ℕ) → k < length ranges → corners ≡ get_or ranges k corners
    → Lays (in_first ranges k) number s old now → Lays (λ p. range_holds p corners) number s now new → Lays (in_first ranges (k + 1)) number s old new
ranges-laid ranges k corners s number old now new here is laid one cell lt =
    let p = place_of s cell in
    one cell lt ∙ ap (λ m. cond (range_holds p corners) number m) (laid cell lt)
    ∙ one-of (in_first ranges k p) (range_holds p corners) number (get_or old cell 0)
    ∙ ap (λ b. cond b number (get_or old cell 0)) (ap (λ x. in_first ranges k p || range_holds p x) is ∙ sym (list_any_more (range_holds p) ranges k corners here))

-- ---- all zones

some-of : {A : Type 0} (xs : List A) (k : ℕ) → k < length xs → A
some-of [] k lt = absurd (omega arith)
some-of (x ∷ xs) k lt = x

first-of : (b : Bool) (numbers : List ℕ) (k other : ℕ) (o : Option ℕ) → cond b (unwrap_or (slice_get numbers k) 0) (zone_number numbers other o) ≡ zone_number numbers other (cond b (Some k) o)
first-of true numbers k other o = refl
first-of false numbers k other o = refl

pub no-zones : {A : Type 0} (test : A → Bool) (zones : List A) (numbers : List ℕ) (left other : ℕ) → left ≡ length zones → other ≡ zone_number numbers other (position_from test left (drop left zones))
no-zones test zones numbers left other is =
    ap (λ zs. zone_number numbers other (position_from test left zs)) (sym (drop_all left zones (omega (arith, is))))

pub zone-laid : {A : Type 0} (test : A → Bool) (zones : List A) (numbers : List ℕ) (left k other now new : ℕ) → left ≡ k + 1 → left ≤ length zones
    → now ≡ zone_number numbers other (position_from test left (drop left zones)) → ((d : A) → new ≡ cond (test (get_or zones k d)) (unwrap_or (slice_get numbers k) 0) now)
    → new ≡ zone_number numbers other (position_from test k (drop k zones))
zone-laid test zones numbers left k other now new is few before one =
    let lt : k < length zones = omega (arith, is, few) in
    let d = some-of zones k lt in
    let rest = position_from test (k + 1) (drop (k + 1) zones) in
    one d
    ∙ ap (λ m. cond (test (get_or zones k d)) (unwrap_or (slice_get numbers k) 0) m) (before ∙ ap (λ n. zone_number numbers other (position_from test n (drop n zones))) is)
    ∙ first-of (test (get_or zones k d)) numbers k other rest
    ∙ ap (λ zs. zone_number numbers other (position_from test k zs)) (sym (drop_more zones k d lt))

pub all-zones : {A : Type 0} (test : A → Bool) (zones : List A) (numbers : List ℕ) (left other now : ℕ) → left ≡ 0
    → now ≡ zone_number numbers other (position_from test left (drop left zones)) → now ≡ zone_number numbers other (position test zones)
all-zones test zones numbers left other now is before =
    before ∙ ap (λ n. zone_number numbers other (position_from test n (drop n zones))) is ∙ ap (zone_number numbers other) (sym (position_from-zero test zones))
