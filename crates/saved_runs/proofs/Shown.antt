-- What a cell has emitted at the end of a run is what it showed last.
use Rattle.std.proofs.Common.{◌≡◌, ℕ, zero, suc, ◌+◌, ◌-◌, ◌≤◌, Bool, true, false, cond, Option}
use Rattle.std.proofs.Common.{Some, None, List, [], ◌∷◌, ◌++◌, map, refl, sym, ap, ◌∙◌, arith}
use Rattle.std.specs.Prelude.{◌&&◌, ◌==◌, nat_lt, nat_le, slice_get, IsSomeAnd}
use Rattle.std.specs.List.{All, filter_map, cons_option, last_or}
use Rattle.std.specs.Option.{unwrap_or}
use Rattle.std.proofs.lemmas.List.Elements.{All-head, All-tail}
use Rattle.std.proofs.lemmas.Bool.Decides.{nat_tests}
use Rattle.quantity.specs.declared.value.Value.{Value}
use Rattle.quantity.specs.declared.value.Value.TheVariants.{Undefined}
use Rattle.cell_grid.specs.Space.{Space, cell_count}
use Rattle.model_tree.specs.Tree.{Leaf, atomic_leaf, cell_leaf}
use Rattle.run_model.specs.CellStep.{PortState}
use Rattle.run_model.specs.Cycle.{LeafState, box_state, cell_state, initial_leaf, emitted_values}
use Rattle.run_model.specs.Run.{PortRecord, Cycle}
use Rattle.run_model.specs.Emitted.{emitted_at, last_of, last_given, IsCell}
use Rattle.text_forms.specs.Frames.{ShownCell, value_until, value_drawn, shown_by, shown_in}
use Rattle.answer_model.specs.RunFiles.{emitted_of}

-- ---- the last of some shown values

-- whether this is a value of the cell up to the end
abbrev is_of : ℕ → ℕ → ShownCell → Bool
is_of t cell s = nat_le s.time t && (s.cell == cell)

-- the last value of the cell, or else this one
abbrev last_shown : ℕ → ℕ → List ShownCell → Value → Value
last_shown t cell [] v = v
last_shown t cell (s ∷ ss) v = last_shown t cell ss (cond (is_of t cell s) s.value v)

found : (t cell : ℕ) (ss : List ShownCell) (o : Option Value) (v : Value)
    → unwrap_or (last_or o (filter_map (value_until t cell) ss)) v
    ≡ last_shown t cell ss (unwrap_or o v)
found t cell [] o v = refl
found t cell (s ∷ ss) o v = go (is_of t cell s) (λ q. found t cell ss q v)
  where
    go : (b : Bool) → ((q : Option Value)
        → unwrap_or (last_or q (filter_map (value_until t cell) ss)) v
        ≡ last_shown t cell ss (unwrap_or q v))
        → unwrap_or (last_or o (cons_option (cond b (Some s.value) None)
        (filter_map (value_until t cell) ss))) v
        ≡ last_shown t cell ss (cond b s.value (unwrap_or o v))
    go true rest = rest (Some s.value)
    go false rest = rest o

in_turn : (t cell : ℕ) (xs ys : List ShownCell) (v : Value)
    → last_shown t cell (xs ++ ys) v ≡ last_shown t cell ys (last_shown t cell xs v)
in_turn t cell [] ys v = refl
in_turn t cell (x ∷ xs) ys v = in_turn t cell xs ys (cond (is_of t cell x) x.value v)

-- ---- of the records of a cycle

module _ (s : Space) (first end cell : ℕ) where
  inside : ℕ → Bool
  inside leaf = nat_le first leaf && nat_lt leaf (first + cell_count s)

  -- the records show the cell where it is in the space
  shown_by_records : (time : ℕ) (rs : List PortRecord) (v : Value) → time ≤ end
      → last_shown end cell (filter_map (shown_by s first time) rs) v
      ≡ cond (nat_lt cell (cell_count s)) (last_of (first + cell) rs v) v
  shown_by_records time [] v le = none (nat_lt cell (cell_count s))
    where
      none : (b : Bool) → v ≡ cond b v v
      none true = refl
      none false = refl
  shown_by_records time (r ∷ rs) v le =
      within (nat_le first r.leaf && nat_lt r.leaf (first + cell_count s)) refl
      (λ w. shown_by_records time rs w le)
    where
      early : nat_le time end ≡ true
      early = grind (arith, nat_tests)

      rest_is : Value → Type 0
      rest_is w = last_shown end cell (filter_map (shown_by s first time) rs) w
          ≡ cond (nat_lt cell (cell_count s)) (last_of (first + cell) rs w) w

      -- a record in the space shows the cell just where it is of its leaf
      same_cell : (leaf n : ℕ) → (nat_le first leaf && nat_lt leaf (first + n)) ≡ true
          → (leaf - first == cell) ≡ (leaf == first + cell)
      same_cell leaf n e = grind (arith, nat_tests)

      not_in : (leaf n : ℕ) → (nat_le first leaf && nat_lt leaf (first + n)) ≡ false
          → nat_lt cell n ≡ true → (leaf == first + cell) ≡ false
      not_in leaf n e h = grind (arith, nat_tests)

      not_past : (leaf n : ℕ) → (nat_le first leaf && nat_lt leaf (first + n)) ≡ true
          → nat_lt cell n ≡ false → (leaf - first == cell) ≡ false
      not_past leaf n e h = grind (arith, nat_tests)

      within : (b : Bool) → (nat_le first r.leaf && nat_lt r.leaf (first + cell_count s)) ≡ b
          → ((w : Value) → rest_is w)
          → last_shown end cell
          (cons_option (cond b (Some (record {
            time = time;
            cell = r.leaf - first;
            value =
                r.value;
          })) None) (filter_map (shown_by s first time) rs)) v
          ≡ cond (nat_lt cell (cell_count s))
          (last_of (first + cell) rs (cond (r.leaf == first + cell) r.value v)) v
      within true e rest = there (nat_lt cell (cell_count s)) refl
        where
          there : (b : Bool) → nat_lt cell (cell_count s) ≡ b
              → last_shown end cell (filter_map (shown_by s first time) rs)
              (cond (nat_le time end && (r.leaf - first == cell)) r.value v)
              ≡ cond b (last_of (first + cell) rs (cond (r.leaf == first + cell) r.value v)) v
          there true f =
              ap (λ b. last_shown end cell (filter_map (shown_by s first time) rs)
              (cond (b && (r.leaf - first == cell)) r.value v)) early
              ∙ ap (λ b. last_shown end cell (filter_map (shown_by s first time) rs)
              (cond b r.value v)) (same_cell r.leaf (cell_count s) e)
              ∙ rest (cond (r.leaf == first + cell) r.value v)
              ∙ ap (λ b. cond b (last_of (first + cell) rs (cond (r.leaf == first + cell) r.value
              v)) (cond (r.leaf == first + cell) r.value v)) f
          there false f =
              ap (λ b. last_shown end cell (filter_map (shown_by s first time) rs)
              (cond (b && (r.leaf - first == cell)) r.value v)) early
              ∙ ap (λ b. last_shown end cell (filter_map (shown_by s first time) rs)
              (cond b r.value v)) (not_past r.leaf (cell_count s) e f)
              ∙ rest v
              ∙ ap (λ b. cond b (last_of (first + cell) rs v) v) f
      within false e rest = there (nat_lt cell (cell_count s)) refl
        where
          there : (b : Bool) → nat_lt cell (cell_count s) ≡ b
              → last_shown end cell (filter_map (shown_by s first time) rs) v
              ≡ cond b (last_of (first + cell) rs (cond (r.leaf == first + cell) r.value v)) v
          there true f =
              rest v ∙ ap (λ b. cond b (last_of (first + cell) rs v) v) f
              ∙ ap (λ b. last_of (first + cell) rs (cond b r.value v))
              (sym (not_in r.leaf (cell_count s) e f))
          there false f = rest v ∙ ap (λ b. cond b (last_of (first + cell) rs v) v) f

  abbrev IsWithin : Cycle → Type 0
  IsWithin c = c.time ≤ end

  -- and so do all cycles
  shown_by_cycles : (cs : List Cycle) (v : Value) → All IsWithin cs
      → last_shown end cell (shown_in s first cs) v ≡ cond (nat_lt cell (cell_count s))
      (last_given (first + cell) cs v) v
  shown_by_cycles [] v h = none (nat_lt cell (cell_count s))
    where
      none : (b : Bool) → v ≡ cond b v v
      none true = refl
      none false = refl
  shown_by_cycles (c ∷ cs) v h =
      in_turn end cell (filter_map (shown_by s first c.time) c.y) (shown_in s first cs) v
      ∙ ap (last_shown end cell (shown_in s first cs))
      (shown_by_records c.time c.y v (All-head IsWithin c cs h))
      ∙ shown_by_cycles cs (cond (nat_lt cell (cell_count s)) (last_of (first + cell) c.y v) v)
      (All-tail IsWithin c cs h)
      ∙ by (nat_lt cell (cell_count s))
    where
      by : (b : Bool) → cond b (last_given (first + cell) cs (cond b (last_of (first + cell) c.y v)
          v)) (cond b (last_of (first + cell) c.y v) v)
          ≡ cond b (last_given (first + cell) cs (last_of (first + cell) c.y v)) v
      by true = refl
      by false = refl

-- the value of a cell at the end is what its leaf gave last, or else this one
pub value_shown : (s : Space) (first end cell : ℕ) (start : ℕ → Value) (cs : List Cycle)
    → All (λ (c : Cycle). c.time ≤ end) cs
    → value_drawn start (shown_in s first cs) end cell ≡ cond (nat_lt cell (cell_count s))
    (last_given (first + cell) cs (start cell)) (start cell)
value_shown s first end cell start cs h = found end cell (shown_in s first cs) None (start cell)
    ∙ shown_by_cycles s first end cell cs (start cell) h

-- ---- what a leaf has emitted

pub emitted_is : (states : List LeafState) (leaf : ℕ) → emitted_of (slice_get states leaf)
    ≡ emitted_at states leaf
emitted_is states leaf = go (slice_get states leaf)
  where
    first_port : (ps : List PortState)
        → (let x : Value = elim (slice_get ps 0) [ None ↦ Undefined | Some p ↦ p.emitted ] in x)
        ≡ unwrap_or (slice_get (map (λ (p : PortState). p.emitted) ps) 0) Undefined
    first_port [] = refl
    first_port (p ∷ ps) = refl

    go : (o : Option LeafState)
        → emitted_of o ≡ unwrap_or (slice_get (emitted_values o) 0) Undefined
    go None = refl
    go (Some (box_state b)) = refl
    go (Some (cell_state c)) = first_port c.ports

-- a cell that starts has emitted nothing
pub nothing_emitted : (ls : List Leaf) (k : ℕ) → IsSomeAnd (slice_get ls k) IsCell
    → emitted_at (map initial_leaf ls) k ≡ Undefined
nothing_emitted [] k h = absurd h
nothing_emitted (atomic_leaf name class settings ∷ ls) zero h = absurd h
nothing_emitted (cell_leaf g first cell ∷ ls) zero h = refl
nothing_emitted (l ∷ ls) (suc k) h = nothing_emitted ls k h
