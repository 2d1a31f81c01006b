-- Tallies while what one cell shows changes: before offset k cells see it by the new value, from
-- there on by the old one.
use Rattle.std.proofs.Common.{◌≡◌, ℕ, ◌+◌, ◌<◌, ◌≤◌, Option, Some, None, List, [], ◌∷◌, ◌++◌, map, length, get_or, set, take, drop, append_assoc, append-nil, inl, inr, ℤ, pos, refl, sym, ◌∙◌, ap, subst, arith}
use Rattle.std.specs.Prelude.{IfSome}
use Rattle.std.proofs.lemmas.Bool.{cases_eq}
use Rattle.std.proofs.lemmas.List.{length-map, length-append, get_or-map, get_or-set_same, get_or-set_other, take-append-drop, take_all, drop_all, drop_more, map_more}
use Rattle.quantity.specs.declared.place.Offset.{Offset}
use Rattle.quantity.specs.declared.value.Value.{Value}
use Rattle.quantity.specs.declared.value.Value.TheVariants.{Undefined}
use Rattle.rule_tree.specs.declared.node.Count.{Count}
use Rattle.rule_tree.specs.declared.node.Count.TheVariants.{Ones, Zeros, Undefs}
use Rattle.rule_tree.specs.Meaning.{neighbour_count}
use Rattle.rule_eval.specs.declared.tally.Tally.{Tally}
use Rattle.rule_eval.specs.Tallies.{IsTally, CanMove, moved_tally}
use Rattle.rule_eval.proofs.Tallied.{counted-cons, is_moved, can_move}
use Rattle.cell_grid.specs.Space.{cell_count, neighbour}
use Rattle.cell_grid.specs.Watched.{opposite}
use Rattle.cell_grid.proofs.Opposites.{leads_back, leads_on, neighbour-inside}
use Rattle.cell_reach.specs.Neighbourhoods.{Neighbourhood, neighbours, opposite_neighbourhood, further}
use Rattle.cell_engine.specs.Step.{out_of}
use Rattle.cell_engine.specs.Tallied.{no_tally, moved_at, AreTallies, midway, AreMidway}

-- ---- what is seen midway

module _ (old new : List Value) (ms : List (Option ℕ)) (k : ℕ) where
  pub midway_here : k < length ms → midway old new k ms ≡ map (out_of new) (take k ms) ++ out_of old (get_or ms k None) ∷ map (out_of old) (drop (k + 1) ms)
  midway_here lt = ap (λ (rest : List (Option ℕ)). map (out_of new) (take k ms) ++ map (out_of old) rest) (drop_more ms k None lt)

  pub midway_next : k < length ms → midway old new (k + 1) ms ≡ map (out_of new) (take k ms) ++ out_of new (get_or ms k None) ∷ map (out_of old) (drop (k + 1) ms)
  midway_next lt =
      ap (λ (vs : List Value). vs ++ map (out_of old) (drop (k + 1) ms)) (map_more (out_of new) ms k None lt)
      ∙ append_assoc (map (out_of new) (take k ms)) (out_of new (get_or ms k None) ∷ []) (map (out_of old) (drop (k + 1) ms))

  pub midway_long : length (midway old new k ms) ≡ length ms
  midway_long =
      let both = length-append (map (out_of new) (take k ms)) (map (out_of old) (drop k ms)) in
      let first = length-map (take k ms) (out_of new) in
      let rest = length-map (drop k ms) (out_of old) in
      let split = length-append (take k ms) (drop k ms) in
      let whole = ap length (take-append-drop k ms) in
      omega (arith, both, first, rest, split, whole)

  pub midway_all : length ms ≤ k → midway old new k ms ≡ map (out_of new) ms
  midway_all past = (λ j. map (out_of new) (take_all k ms past j) ++ map (out_of old) (drop_all k ms past j)) ∙ append-nil (map (out_of new) ms)

-- at the end all is seen by the new value
pub all_moved : (n : Neighbourhood) (old new : List Value) (k : ℕ) (ts : List Tally) → length n.offsets ≤ k → AreMidway n old new k ts → AreTallies n new ts
all_moved n old new k ts past mid x below =
    let long : length (neighbours n x) ≤ k = omega (arith, past, length-map n.offsets (neighbour n.space x)) in
    subst (λ (vs : List Value). IsTally (get_or ts x no_tally) vs) (midway_all old new (neighbours n x) k long) (mid x below)

-- ---- what a neighbour shows where one cell changes

some_same : (a b : ℕ) → Some a ≡ Some b → a ≡ b
some_same a b e = cc

none_some : (m : Option ℕ) (x : ℕ) → None ≡ m → m ≡ Some x → ⊥
none_some m x a b = cc

out_other : (es : List Value) (i : ℕ) (v : Value) (m : Option ℕ) → (m ≡ Some i → ⊥) → out_of (set es i v) m ≡ out_of es m
out_other es i v None apart = refl
out_other es i v (Some n) apart = get_or-set_other es i n v Undefined (λ e. apart (ap Some e))

no_offset : Offset
no_offset = record { row = pos 0; column = pos 0; plane = pos 0 }

-- ---- one offset more

module _ (n : Neighbourhood) (es : List Value) (i : ℕ) (before : Value) (was is : Tally) (here : i < cell_count n.space) (long : length es ≡ cell_count n.space)
    (old_is : IsTally was (before ∷ [])) (new_is : IsTally is (get_or es i Undefined ∷ [])) where
  abbrev old : List Value
  old = set es i before

  watcher-of : (k : ℕ) → k < length n.offsets → get_or (neighbours (opposite_neighbourhood n) i) k None ≡ neighbour n.space i (opposite (get_or n.offsets k no_offset))
  watcher-of k lt =
      let many : k < length (map opposite n.offsets) = omega (arith, lt, length-map n.offsets opposite) in
      get_or-map (neighbour n.space i) (map opposite n.offsets) k no_offset None many ∙ ap (neighbour n.space i) (get_or-map opposite n.offsets k no_offset no_offset lt)

  neighbour-of : (x k : ℕ) → k < length n.offsets → get_or (neighbours n x) k None ≡ neighbour n.space x (get_or n.offsets k no_offset)
  neighbour-of x k lt = get_or-map (neighbour n.space x) n.offsets k no_offset None lt

  long-of : (x k : ℕ) → k < length n.offsets → k < length (neighbours n x)
  long-of x k lt = omega (arith, lt, length-map n.offsets (neighbour n.space x))

  -- the cell that an offset's opposite leads to has the changed one there
  leads-there : (x k : ℕ) → x < cell_count n.space → k < length n.offsets → get_or (neighbours (opposite_neighbourhood n) i) k None ≡ Some x → get_or (neighbours n x) k None ≡ Some i
  leads-there x k x_here lt is_x = neighbour-of x k lt ∙ leads_on n.space x i (get_or n.offsets k no_offset) x_here here (sym (watcher-of k lt) ∙ is_x)

  -- and no other has
  leads-from : (x k : ℕ) → x < cell_count n.space → k < length n.offsets → get_or (neighbours n x) k None ≡ Some i → get_or (neighbours (opposite_neighbourhood n) i) k None ≡ Some x
  leads-from x k x_here lt is_i = watcher-of k lt ∙ leads_back n.space x i (get_or n.offsets k no_offset) x_here here (sym (neighbour-of x k lt) ∙ is_i)

  -- what stands before offset k and behind it
  abbrev first : List (Option ℕ) → ℕ → List Value
  first ms k = map (out_of es) (take k ms)

  abbrev rest : List (Option ℕ) → ℕ → List Value
  rest ms k = map (out_of old) (drop (k + 1) ms)

  by_old : (ms : List (Option ℕ)) (k : ℕ) → k < length ms → get_or ms k None ≡ Some i → midway old es k ms ≡ first ms k ++ before ∷ rest ms k
  by_old ms k lt at =
      midway_here old es ms k lt ∙ ap (λ (v : Value). first ms k ++ v ∷ rest ms k) (ap (out_of old) at ∙ get_or-set_same es i before Undefined (omega (arith, here, long)))

  tallied : (t : Tally) (ms : List (Option ℕ)) (k : ℕ) → k < length ms → IsTally t (midway old es k ms) → get_or ms k None ≡ Some i → IsTally t (first ms k ++ before ∷ rest ms k)
  tallied t ms k lt mid at = subst (λ (vs : List Value). IsTally t vs) (by_old ms k lt at) mid

  here_can : (t : Tally) (ms : List (Option ℕ)) (k : ℕ) → k < length ms → IsTally t (midway old es k ms) → get_or ms k None ≡ Some i → length ms ≤ 128 → CanMove t was is
  here_can t ms k lt mid at few =
      can_move t was is (first ms k) (rest ms k) before (get_or es i Undefined) (tallied t ms k lt mid at) old_is new_is
      (subst (λ m. m ≤ 128) (sym (midway_long old es ms k) ∙ ap length (by_old ms k lt at)) few)

  here_moved : (t : Tally) (ms : List (Option ℕ)) (k : ℕ) → k < length ms → IsTally t (midway old es k ms) → get_or ms k None ≡ Some i → IsTally (moved_tally t was is) (midway old es (k + 1) ms)
  here_moved t ms k lt mid at =
      subst (λ (vs : List Value). IsTally (moved_tally t was is) vs) (sym (midway_next old es ms k lt ∙ ap (λ (v : Value). first ms k ++ v ∷ rest ms k) (ap (out_of es) at)))
      (is_moved t was is (first ms k) (rest ms k) before (get_or es i Undefined) (tallied t ms k lt mid at) old_is new_is)

  other_kept : (t : Tally) (ms : List (Option ℕ)) (k : ℕ) → k < length ms → IsTally t (midway old es k ms) → (get_or ms k None ≡ Some i → ⊥) → IsTally t (midway old es (k + 1) ms)
  other_kept t ms k lt mid apart =
      subst (λ (vs : List Value). IsTally t vs)
      (midway_here old es ms k lt ∙ ap (λ (v : Value). first ms k ++ v ∷ rest ms k) (out_other es i before (get_or ms k None) apart) ∙ sym (midway_next old es ms k lt))
      mid

  one_more : (ts : List Tally) (k x : ℕ) (w : Option ℕ) → k < length n.offsets → length ts ≡ cell_count n.space → x < length ts → w ≡ get_or (neighbours (opposite_neighbourhood n) i) k None
      → IsTally (get_or ts x no_tally) (midway old es k (neighbours n x)) → IsTally (get_or (moved_at w was is ts) x no_tally) (midway old es (k + 1) (neighbours n x))
  one_more ts k x None lt whole below at mid =
      let x_here : x < cell_count n.space = omega (arith, below, whole) in
      other_kept (get_or ts x no_tally) (neighbours n x) k (long-of x k lt) mid (λ e. none_some (get_or (neighbours (opposite_neighbourhood n) i) k None) x at (leads-from x k x_here lt e))
  one_more ts k x (Some y) lt whole below at mid =
      let x_here : x < cell_count n.space = omega (arith, below, whole) in
      elim (cases_eq x y) [
        | inl same ↦
            let there : get_or (neighbours n x) k None ≡ Some i = leads-there x k x_here lt (sym at ∙ ap Some (sym same)) in
            let moved : get_or (set ts y (moved_tally (get_or ts y no_tally) was is)) x no_tally ≡ moved_tally (get_or ts x no_tally) was is =
            ap (λ (z : ℕ). get_or (set ts z (moved_tally (get_or ts z no_tally) was is)) x no_tally) (sym same) ∙ get_or-set_same ts x (moved_tally (get_or ts x no_tally) was is) no_tally below in
            subst (λ (t : Tally). IsTally t (midway old es (k + 1) (neighbours n x))) (sym moved) (here_moved (get_or ts x no_tally) (neighbours n x) k (long-of x k lt) mid there)
        | inr apart ↦
            let stays : get_or (set ts y (moved_tally (get_or ts y no_tally) was is)) x no_tally ≡ get_or ts x no_tally = get_or-set_other ts y x (moved_tally (get_or ts y no_tally) was is) no_tally apart in
            subst (λ (t : Tally). IsTally t (midway old es (k + 1) (neighbours n x))) (sym stays)
            (other_kept (get_or ts x no_tally) (neighbours n x) k (long-of x k lt) mid (λ e. apart (sym (some_same y x (at ∙ leads-from x k x_here lt e)))))
      ]

  pub midway_more : (ts us : List Tally) (k : ℕ) (w : Option ℕ) → k < length n.offsets → length ts ≡ cell_count n.space → w ≡ get_or (neighbours (opposite_neighbourhood n) i) k None → us ≡ moved_at w was is ts → length us ≡ length ts
      → AreMidway n old es k ts → AreMidway n old es (k + 1) us
  midway_more ts us k w lt whole at moved many mid x below =
      let inside : x < length ts = omega (arith, below, many) in
      subst (λ (xs : List Tally). IsTally (get_or xs x no_tally) (midway old es (k + 1) (neighbours n x))) (sym moved) (one_more ts k x w lt whole inside at (mid x inside))

  -- the one that is moved is a cell's, and can be moved
  pub within_at : (ts : List Tally) (k : ℕ) (w : Option ℕ) → k < length n.offsets → length ts ≡ cell_count n.space → w ≡ get_or (neighbours (opposite_neighbourhood n) i) k None → IfSome w (λ x. x < length ts)
  within_at ts k None lt whole at = tt
  within_at ts k (Some x) lt whole at =
      let x_here : x < cell_count n.space = neighbour-inside n.space i x (opposite (get_or n.offsets k no_offset)) here (sym (watcher-of k lt) ∙ sym at) in
      omega (arith, x_here, whole)

  pub can_at : (ts : List Tally) (k : ℕ) (w : Option ℕ) → k < length n.offsets → length n.offsets ≤ 128 → length ts ≡ cell_count n.space → w ≡ get_or (neighbours (opposite_neighbourhood n) i) k None → AreMidway n old es k ts
      → IfSome w (λ x. CanMove (get_or ts x no_tally) was is)
  can_at ts k None lt few whole at mid = tt
  can_at ts k (Some x) lt few whole at mid =
      let x_here : x < cell_count n.space = neighbour-inside n.space i x (opposite (get_or n.offsets k no_offset)) here (sym (watcher-of k lt) ∙ sym at) in
      let short : length (neighbours n x) ≤ 128 = omega (arith, few, length-map n.offsets (neighbour n.space x)) in
      here_can (get_or ts x no_tally) (neighbours n x) k (long-of x k lt) (mid x (omega (arith, x_here, whole))) (leads-there x k x_here lt (sym at)) short

-- a cell that is so much further is the one that is found by the offset
pub at_difference : (cell : ℕ) (ds : List ℤ) (ms : List (Option ℕ)) (k x : ℕ) → k < length ds → ms ≡ map (λ (d : ℤ). Some (further cell d)) ds → x ≡ further cell (get_or ds k (pos 0)) → Some x ≡ get_or ms k None
at_difference cell ds ms k x lt lead is =
    ap Some is ∙ sym (ap (λ (os : List (Option ℕ)). get_or os k None) lead ∙ get_or-map (λ (d : ℤ). Some (further cell d)) ds k (pos 0) None lt)

-- each offset has its difference
pub as_many : (n : Neighbourhood) (cell : ℕ) (ds : List ℤ) → neighbours (opposite_neighbourhood n) cell ≡ map (λ (d : ℤ). Some (further cell d)) ds → length ds ≡ length n.offsets
as_many n cell ds lead =
    sym (length-map ds (λ (d : ℤ). Some (further cell d))) ∙ sym (ap length lead) ∙ length-map (map opposite n.offsets) (neighbour n.space cell) ∙ length-map n.offsets opposite

-- ---- where the cell is counted as before

module _ (es : List Value) (i : ℕ) (before : Value) (c : Count) (here : i < length es) (same : neighbour_count c (before ∷ []) ≡ neighbour_count c (get_or es i Undefined ∷ [])) where
  alike : (m : Option ℕ) → neighbour_count c (out_of (set es i before) m ∷ []) ≡ neighbour_count c (out_of es m ∷ [])
  alike None = refl
  alike (Some j) =
      elim (cases_eq j i) [
        | inl at ↦
            ap (λ (v : Value). neighbour_count c (v ∷ [])) (ap (λ (k : ℕ). get_or (set es i before) k Undefined) at ∙ get_or-set_same es i before Undefined here) ∙ same
            ∙ sym (ap (λ (k : ℕ). neighbour_count c (get_or es k Undefined ∷ [])) at)
        | inr apart ↦ ap (λ (v : Value). neighbour_count c (v ∷ [])) (get_or-set_other es i j before Undefined apart)
      ]

  all_alike : (ms : List (Option ℕ)) → neighbour_count c (map (out_of (set es i before)) ms) ≡ neighbour_count c (map (out_of es) ms)
  all_alike [] = refl
  all_alike (m ∷ ms) =
      counted-cons c (out_of (set es i before) m) (map (out_of (set es i before)) ms) ∙ (λ k. alike m k + all_alike ms k) ∙ sym (counted-cons c (out_of es m) (map (out_of es) ms))

pub same_shown : (n : Neighbourhood) (es : List Value) (i : ℕ) (before : Value) (was is : Tally) (ts : List Tally) → i < length es → IsTally was (before ∷ []) → IsTally is (get_or es i Undefined ∷ [])
    → was.ones ≡ is.ones → was.zeros ≡ is.zeros → was.undefs ≡ is.undefs → AreTallies n (set es i before) ts → AreTallies n es ts
same_shown n es i before was is ts here old new ones zeros undefs are x below =
    let t = are x below in
    let ms = neighbours n x in
    record {
      ones = t.ones ∙ all_alike es i before Ones here (sym old.ones ∙ ones ∙ new.ones) ms;
      zeros = t.zeros ∙ all_alike es i before Zeros here (sym old.zeros ∙ zeros ∙ new.zeros) ms;
      undefs = t.undefs ∙ all_alike es i before Undefs here (sym old.undefs ∙ undefs ∙ new.undefs) ms;
    }
