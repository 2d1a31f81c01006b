-- A cell's watchers are the cells that its offsets' opposites reach.
use Rattle.std.proofs.Common.{◌≡◌, ℕ, ◌<◌, ◌≤◌, Bool, true, false, ◌||◌, ◌&&◌, ltb, eqb, List, [], ◌∷◌, ◌++◌, ◌+◌, length, get_or, take, Option, Some, None, inl, inr, refl, sym, ap, ◌∙◌, arith}
use Rattle.std.specs.Ordering.{nat_cmp}
use Rattle.std.specs.List.{Any, list_any, dedup, filter_map, cons_option, range_with_len}
use Rattle.std.specs.Option.{option_to_list}
use Rattle.std.specs.List.Sorted.{IsPermutation, IsSorted, IsStrictlyIncreasing}
use Rattle.std.proofs.lemmas.Bool.{cases_lt, eqb-true, eq-eqb, lt-ltb, le-ltb, false_from_ne_true, and_left, and_right}
use Rattle.std.proofs.lemmas.List.{take_more}
use Rattle.std.proofs.lemmas.List.Elements.{filter_map-append}
use Rattle.std.proofs.lemmas.List.Folds.{Any-from_list_any, list_any-from_Any}
use Rattle.std.proofs.lemmas.List.Kept.{IsStrictlyIncreasing-filter}
use Rattle.std.proofs.lemmas.List.Sorted.{list_any-IsPermutation}
use Rattle.std.proofs.lemmas.Map.Keys.{IsStrictlyIncreasing-dedup, sorted_from_strictly_increasing}
use Rattle.quantity.specs.declared.place.Offset.{Offset}
use Rattle.cell_grid.specs.Space.{Space, cell_count, neighbour}
use Rattle.cell_grid.specs.Watched.{opposite, is_this_cell, leads_to, watchers}
use Rattle.cell_grid.proofs.Opposites.{leads_back, leads_on, neighbour-inside}
use Rattle.cell_grid.proofs.Rising.{has, same_answer, same_rising, no_members, has-dedup, has-filter, has-range, range-rises}

-- ---- the members of the definition

pub has-watchers : (s : Space) (offsets : List Offset) (cell x : ℕ) → has (watchers s offsets cell) x ≡ ltb x (cell_count s) && leads_to s offsets cell x
has-watchers s offsets cell x =
    has-filter (leads_to s offsets cell) (range_with_len 0 (cell_count s)) x ∙ ap (λ b. b && leads_to s offsets cell x) (has-range (cell_count s) x)

pub watchers-rise : (s : Space) (offsets : List Offset) (cell : ℕ) → IsStrictlyIncreasing (watchers s offsets cell)
watchers-rise s offsets cell =
    IsStrictlyIncreasing-filter (leads_to s offsets cell) (range_with_len 0 (cell_count s)) (range-rises (cell_count s))

some-from_is_cell : (cell : ℕ) (m : Option ℕ) → is_this_cell cell m ≡ true → m ≡ Some cell
some-from_is_cell cell (Some n) is = ap Some (eqb-true n cell is)
some-from_is_cell cell None is = cc

is_cell-at_some : (cell : ℕ) (m : Option ℕ) → m ≡ Some cell → is_this_cell cell m ≡ true
is_cell-at_some cell m is = rw is (eq-eqb cell cell refl)

pub Any-from_leads_to : (s : Space) (offsets : List Offset) (cell x : ℕ) → leads_to s offsets cell x ≡ true → Any (λ o. neighbour s x o ≡ Some cell) offsets
Any-from_leads_to s offsets cell x is =
    let found = Any-from_list_any (λ o. is_this_cell cell (neighbour s x o)) offsets is in
    (found.0, found.1, found.2, found.3, some-from_is_cell cell (neighbour s x found.1) found.4)

pub leads_to-from_Any : (s : Space) (offsets : List Offset) (cell x : ℕ) → Any (λ o. neighbour s x o ≡ Some cell) offsets → leads_to s offsets cell x ≡ true
leads_to-from_Any s offsets cell x at =
    list_any-from_Any (λ o. is_this_cell cell (neighbour s x o)) offsets (at.0, at.1, at.2, at.3, is_cell-at_some cell (neighbour s x at.1) at.4)

-- ---- the members of what is reached by the opposites

-- the cell that has this cell as its neighbour by the offset
abbrev pub watcher : Space → ℕ → Offset → Option ℕ
watcher s cell o = neighbour s cell (opposite o)

has-cons_option : (m : Option ℕ) (xs : List ℕ) (x : ℕ) → has (cons_option m xs) x ≡ is_this_cell x m || has xs x
has-cons_option (Some n) xs x = refl
has-cons_option None xs x = refl

has-filter_map : (h : Offset → Option ℕ) (offsets : List Offset) (x : ℕ) → has (filter_map h offsets) x ≡ list_any (λ o. is_this_cell x (h o)) offsets
has-filter_map h [] x = refl
has-filter_map h (o ∷ os) x = has-cons_option (h o) (filter_map h os) x ∙ ap (λ b. is_this_cell x (h o) || b) (has-filter_map h os x)

any_agree : (p q : Offset → Bool) → ((o : Offset) → p o ≡ q o) → (offsets : List Offset) → list_any p offsets ≡ list_any q offsets
any_agree p q agree [] = refl
any_agree p q agree (o ∷ os) = rw (agree o, any_agree p q agree os) refl

one_offset : (s : Space) (cell x : ℕ) → cell < cell_count s → x < cell_count s → (o : Offset) → is_this_cell x (watcher s cell o) ≡ is_this_cell cell (neighbour s x o)
one_offset s cell x cell_here x_here o =
    same_answer (is_this_cell x (watcher s cell o)) (is_this_cell cell (neighbour s x o))
    (λ is. is_cell-at_some cell (neighbour s x o) (leads_on s x cell o x_here cell_here (some-from_is_cell x (watcher s cell o) is)))
    (λ is. is_cell-at_some x (watcher s cell o) (leads_back s x cell o x_here cell_here (some-from_is_cell cell (neighbour s x o) is)))

none_outside : (s : Space) (offsets : List Offset) (cell x : ℕ) → cell < cell_count s → cell_count s ≤ x → list_any (λ o. is_this_cell x (watcher s cell o)) offsets ≡ false
none_outside s offsets cell x cell_here outside =
    false_from_ne_true (list_any (λ o. is_this_cell x (watcher s cell o)) offsets) (λ is.
    let found = Any-from_list_any (λ o. is_this_cell x (watcher s cell o)) offsets is in
    let here = neighbour-inside s cell x (opposite found.1) cell_here (some-from_is_cell x (watcher s cell found.1) found.4) in
    absurd (omega (arith, here)))

pub same_members : (s : Space) (offsets : List Offset) (cell x : ℕ) → cell < cell_count s → has (filter_map (watcher s cell) offsets) x ≡ has (watchers s offsets cell) x
same_members s offsets cell x cell_here =
    has-filter_map (watcher s cell) offsets x
    ∙ elim (cases_lt x (cell_count s)) [
      | inl here ↦ any_agree (λ o. is_this_cell x (watcher s cell o)) (λ o. is_this_cell cell (neighbour s x o)) (one_offset s cell x cell_here here) offsets
          ∙ sym (has-watchers s offsets cell x ∙ ap (λ b. b && leads_to s offsets cell x) (lt-ltb x (cell_count s) here))
      | inr outside ↦ none_outside s offsets cell x cell_here outside
          ∙ sym (has-watchers s offsets cell x ∙ ap (λ b. b && leads_to s offsets cell x) (le-ltb x (cell_count s) outside))
    ]

-- no neighbour is outside, so nothing watches there
pub no_watchers : (s : Space) (offsets : List Offset) (cell : ℕ) → cell_count s ≤ cell → watchers s offsets cell ≡ []
no_watchers s offsets cell outside =
    no_members (watchers s offsets cell) (λ x. has-watchers s offsets cell x ∙ elim (cases_lt x (cell_count s)) [
      | inl here ↦ and_right (ltb x (cell_count s)) (leads_to s offsets cell x) (none_leads x here)
      | inr past ↦ and_left (ltb x (cell_count s)) (leads_to s offsets cell x) (le-ltb x (cell_count s) past)
    ])
  where
    none_leads : (x : ℕ) → x < cell_count s → leads_to s offsets cell x ≡ false
    none_leads x here =
        false_from_ne_true (leads_to s offsets cell x) (λ is.
        let found = Any-from_leads_to s offsets cell x is in
        let inside = neighbour-inside s x cell found.1 here found.4 in
        absurd (omega (arith, inside)))

-- one offset more
one_item : (m : Option ℕ) → cons_option m [] ≡ option_to_list m
one_item (Some n) = refl
one_item None = refl

pub filter_map_more : {X : Type 0} (h : X → Option ℕ) (offsets : List X) (i : ℕ) (d : X) (m : Option ℕ) → i < length offsets → m ≡ h (get_or offsets i d)
    → filter_map h (take i offsets) ++ option_to_list m ≡ filter_map h (take (i + 1) offsets)
filter_map_more h offsets i d m here is =
    sym (ap (filter_map h) (take_more offsets i d here)
    ∙ filter_map-append h (take i offsets) (get_or offsets i d ∷ [])
    ∙ ap (λ l. filter_map h (take i offsets) ++ l) (one_item (h (get_or offsets i d)) ∙ ap option_to_list (sym is)))

-- ---- what is reached, put in order and without repeats, is the definition's list

pub watchers-are : (s : Space) (offsets : List Offset) (cell : ℕ) (found ordered left : List ℕ) → cell < cell_count s
    → found ≡ filter_map (watcher s cell) offsets → IsPermutation found ordered → IsSorted nat_cmp ordered → left ≡ dedup eqb ordered
    → left ≡ watchers s offsets cell
watchers-are s offsets cell found ordered left here is moved rises kept =
    kept
    ∙ same_rising (dedup eqb ordered) (watchers s offsets cell)
    (sorted_from_strictly_increasing (dedup eqb ordered) (IsStrictlyIncreasing-dedup ordered rises))
    (sorted_from_strictly_increasing (watchers s offsets cell) (watchers-rise s offsets cell))
    (λ x. has-dedup ordered x ∙ sym (list_any-IsPermutation (λ y. eqb y x) found ordered moved) ∙ ap (λ l. has l x) is ∙ same_members s offsets cell x here)
