-- What a table keeps: what is read from its lists is what the cells have, and a written place is a changed cell.
use Rattle.std.proofs.Common.{◌≡◌, ◌≢◌, ℕ, zero, suc, ◌+◌, ◌*◌, ◌<◌, ◌≤◌, Bool, true, false, Option, Some, None, List, [], ◌∷◌, ◌++◌, map, length, get_or, set, take, drop, refl, sym, ◌∙◌, ap, subst, arith, inl, inr}
use Rattle.std.specs.Prelude.{◌==◌, ◌⊎◌, if◌then◌else◌}
use Rattle.std.specs.List.{range_with_len}
use Rattle.std.proofs.lemmas.List.{get_or-set_same, get_or-set_other}
use Rattle.std.proofs.lemmas.Nat.{mul-le}
use Rattle.std.proofs.Math.Nat.{add-mul}
use Rattle.quantity.specs.declared.value.Value.{Value}
use Rattle.quantity.specs.declared.value.Value.TheVariants.{Undefined}
use Rattle.quantity.specs.Arithmetic.{same_value}
use Rattle.quantity.specs.declared.delay.DelayKind.{DelayKind}
use Rattle.quantity.specs.Delay.{delay_list_after}
use Rattle.run_model.specs.CellStep.{PortState, CellState, port_emitted, port_took}
use Rattle.cell_table.specs.declared.table.CellTable.TheInside.{Inside}
use Rattle.cell_table.specs.Told.{cell_at, values_emitted, values_computed}
use Rattle.cell_table.specs.Table.{Table, IsTable, IsLaid, port_in, variable_in, cell_in, cells_in, changed_cell, changed_port, with_variables, no_port, port_at, given_by_port, pair_at}
use Rattle.cell_table.proofs.Laid as laid

abbrev pub ports_of : Inside → ℕ → PortState
ports_of s = port_in s.emitted.items s.computed.items s.delays.lists

abbrev pub variables_of : Inside → ℕ → Value
variables_of s = variable_in s.variables.items

abbrev pub seen_as : Inside → Table
seen_as s = record { width = s.port_count; variables = s.variable_count; cells = cells_in (ports_of s) (variables_of s) s.port_count s.variable_count s.cells }

abbrev pub Laid : Inside → Type 0
Laid s = IsLaid s.cells s.port_count s.variable_count s.emitted.items s.computed.items s.delays.lists s.variables.items

pub is_table : (s : Inside) → Laid s → IsTable (seen_as s)
is_table s h =
    record {
      numbers = laid.numbers (ports_of s) (variables_of s) s.port_count s.variable_count s.cells;
      width = h.width;
      variables = h.count;
      cells = omega (arith, laid.cells_long (ports_of s) (variables_of s) s.port_count s.variable_count s.cells, h.cells);
    }

pub is_table_seen : (s : Inside) (t : Table) → seen_as s ≡ t → Laid s → IsTable t
is_table_seen s t is h = subst (λ (u : Table). IsTable u) is (is_table s h)

pub cells_seen : (s : Inside) (t : Table) → seen_as s ≡ t → s.cells ≡ length t.cells
cells_seen s t is = sym (laid.cells_long (ports_of s) (variables_of s) s.port_count s.variable_count s.cells) ∙ ap (λ (u : Table). length u.cells) is

pub width_seen : (s : Inside) (t : Table) → seen_as s ≡ t → s.port_count ≡ t.width
width_seen s t is = ap (λ (u : Table). u.width) is

pub count_seen : (s : Inside) (t : Table) → seen_as s ≡ t → s.variable_count ≡ t.variables
count_seen s t is = ap (λ (u : Table). u.variables) is

fused : {A B : Type 0} (f : A → B) (F : ℕ → A) (b n : ℕ) → map f (map F (range_with_len b n)) ≡ map (λ k. f (F k)) (range_with_len b n)
fused f F b zero = refl
fused f F b (suc n) = ap (λ ys. f (F b) ∷ ys) (fused f F (b + 1) n)

-- ---- the first pair at a time

none_some : {A : Type 0} {a : A} → None ≡ Some a → ⊥
none_some e = cc

pair_value : (a b : ℕ × Value) → Some a ≡ Some b → a.1 ≡ b.1
pair_value a b e = ap (λ (o : Option (ℕ × Value)). elim o [ None ↦ a.1 | Some x ↦ x.1 ]) e

abbrev port_of : Value → Value → List (ℕ × Value) → PortState
port_of e c l = record { emitted = e; computed = c; pairs = l }

abbrev emitted_part : PortState → Value
emitted_part p = p.emitted

pub emitted_is : (t at : ℕ) (v e c : Value) (l : List (ℕ × Value)) → pair_at t l ≡ Some (at, v)
    → port_of v c (drop 1 l) ≡ port_emitted t (port_of e c l)
emitted_is t at v e c [] is = absurd (none_some is)
emitted_is t at v e c (q ∷ qs) is = by (q.0 == t) is
  where
    by : (b : Bool) → (if b then Some q else None) ≡ Some (at, v)
        → port_of v c qs ≡ (if b then port_of q.1 c qs else port_of e c (q ∷ qs))
    by true h = ap (λ x. port_of x c qs) (sym (pair_value q (at, v) h))
    by false h = absurd (none_some h)

pub given_is : (t at : ℕ) (v e c : Value) (l : List (ℕ × Value)) → pair_at t l ≡ Some (at, v) → Some v ≡ given_by_port t (port_of e c l)
given_is t at v e c [] is = absurd (none_some is)
given_is t at v e c (q ∷ qs) is = by (q.0 == t) is
  where
    by : (b : Bool) → (if b then Some q else None) ≡ Some (at, v)
        → Some v ≡ (if b then Some (emitted_part (if b then port_of q.1 c qs else port_of e c (q ∷ qs))) else None)
    by true h = ap Some (sym (pair_value q (at, v) h))
    by false h = absurd (none_some h)

pub not_given : (t : ℕ) (e c : Value) (l : List (ℕ × Value)) → pair_at t l ≡ None → None ≡ given_by_port t (port_of e c l)
not_given t e c [] is = refl
not_given t e c (q ∷ qs) is = by (q.0 == t) is
  where
    by : (b : Bool) → (if b then Some q else None) ≡ None
        → None ≡ (if b then Some (emitted_part (if b then port_of q.1 c qs else port_of e c (q ∷ qs))) else None)
    by true h = absurd (none_some (sym h))
    by false h = refl

pub not_emitted : (t : ℕ) (e c : Value) (l : List (ℕ × Value)) → pair_at t l ≡ None
    → port_emitted t (port_of e c l) ≡ port_of e c l
not_emitted t e c [] is = refl
not_emitted t e c (q ∷ qs) is = by (q.0 == t) is
  where
    by : (b : Bool) → (if b then Some q else None) ≡ None
        → (if b then port_of q.1 c qs else port_of e c (q ∷ qs)) ≡ port_of e c (q ∷ qs)
    by true h = absurd (none_some (sym h))
    by false h = refl

-- ---- one cell

module _ (s : Inside) (t : Table) (is : seen_as s ≡ t) (h : Laid s) (i : ℕ) (here : i < length t.cells) where
  pub in_n : i < s.cells
  in_n = omega (arith, here, cells_seen s t is)

  pub row : i * s.port_count + s.port_count ≤ s.cells * s.port_count
  row = laid.within_piece i s.cells s.port_count in_n

  pub variable_row : i * s.variable_count + s.variable_count ≤ s.cells * s.variable_count
  variable_row = laid.within_piece i s.cells s.variable_count in_n

  pub most : s.cells * s.port_count ≤ 4194304
  most = mul-le s.cells s.port_count 1048576 4 h.cells h.width

  pub few : i * s.port_count + s.port_count ≤ 4194304
  few = omega (arith, row, most)

  cell : cell_at t.cells i ≡ cell_in (ports_of s) (variables_of s) s.port_count s.variable_count i
  cell = sym (ap (λ (u : Table). cell_at u.cells i) is) ∙ laid.cell_is (ports_of s) (variables_of s) s.port_count s.variable_count s.cells i in_n

  pub emitted_read : (p : ℕ) → p < s.port_count → get_or s.emitted.items (i * s.port_count + p) Undefined ≡ get_or (values_emitted (cell_at t.cells i)) p Undefined
  emitted_read p lt = sym (ap (λ (c : CellState). get_or (values_emitted c) p Undefined) cell ∙ laid.part_is (ports_of s) (variables_of s) s.port_count s.variable_count s.cells (λ q. q.emitted) i p lt)

  pub emitted_past : (p : ℕ) → s.port_count ≤ p → Undefined ≡ get_or (values_emitted (cell_at t.cells i)) p Undefined
  emitted_past p le = sym (ap (λ (c : CellState). get_or (values_emitted c) p Undefined) cell ∙ laid.part_past (ports_of s) (variables_of s) s.port_count s.variable_count s.cells (λ q. q.emitted) i p le)

  pub computed_read : (p : ℕ) → p < s.port_count → get_or s.computed.items (i * s.port_count + p) Undefined ≡ get_or (values_computed (cell_at t.cells i)) p Undefined
  computed_read p lt = sym (ap (λ (c : CellState). get_or (values_computed c) p Undefined) cell ∙ laid.part_is (ports_of s) (variables_of s) s.port_count s.variable_count s.cells (λ q. q.computed) i p lt)

  pub computed_past : (p : ℕ) → s.port_count ≤ p → Undefined ≡ get_or (values_computed (cell_at t.cells i)) p Undefined
  computed_past p le = sym (ap (λ (c : CellState). get_or (values_computed c) p Undefined) cell ∙ laid.part_past (ports_of s) (variables_of s) s.port_count s.variable_count s.cells (λ q. q.computed) i p le)

  pub port_seen : (p : ℕ) → p < s.port_count → port_at t i p ≡ ports_of s (i * s.port_count + p)
  port_seen p lt = ap (λ (c : CellState). get_or c.ports p no_port) cell ∙ laid.port_is (ports_of s) (variables_of s) s.port_count s.variable_count s.cells i p lt

  pub port_none : (p : ℕ) → s.port_count ≤ p → port_at t i p ≡ no_port
  port_none p le = ap (λ (c : CellState). get_or c.ports p no_port) cell ∙ laid.port_past (ports_of s) (variables_of s) s.port_count s.variable_count s.cells i p le

  pub emitted_all : take s.port_count (drop (i * s.port_count) s.emitted.items) ≡ values_emitted (cell_at t.cells i)
  emitted_all =
      sym (laid.piece_is Undefined s.emitted.items (i * s.port_count) s.port_count (omega (arith, row, h.emitted)))
      ∙ sym (ap values_emitted cell ∙ fused (λ (q : PortState). q.emitted) (ports_of s) (i * s.port_count) s.port_count)

  pub variables_all : take s.variable_count (drop (i * s.variable_count) s.variables.items) ≡ (cell_at t.cells i).variables
  variables_all =
      sym (laid.piece_is Undefined s.variables.items (i * s.variable_count) s.variable_count (omega (arith, variable_row, h.variables)))
      ∙ sym (ap (λ (c : CellState). c.variables) cell)

  -- a table whose ports differ in one place
  pub written : (G : ℕ → PortState) (p : ℕ) (f : PortState → PortState) → p < s.port_count → G (i * s.port_count + p) ≡ f (ports_of s (i * s.port_count + p))
      → ((m : ℕ) → m ≢ i * s.port_count + p → G m ≡ ports_of s m)
      → record { width = s.port_count; variables = s.variable_count; cells = cells_in G (variables_of s) s.port_count s.variable_count s.cells } ≡ changed_cell i (changed_port p f) t
  written G p f lt this other =
      let cells = laid.port_changed (ports_of s) G (variables_of s) s.port_count s.variable_count s.cells i p f lt this other in
      (λ k. record { width = s.port_count; variables = s.variable_count; cells = cells k }) ∙ ap (changed_cell i (changed_port p f)) is

  pub emit_written : (p t0 at : ℕ) (v : Value) (ls : List (List (ℕ × Value))) → p < s.port_count → pair_at t0 (get_or s.delays.lists (i * s.port_count + p) []) ≡ Some (at, v)
      → ls ≡ set s.delays.lists (i * s.port_count + p) (drop 1 (get_or s.delays.lists (i * s.port_count + p) []))
      → record { width = s.port_count; variables = s.variable_count; cells = cells_in (port_in (set s.emitted.items (i * s.port_count + p) v) s.computed.items ls) (variables_of s) s.port_count s.variable_count s.cells } ≡ changed_cell i (changed_port p (port_emitted t0)) t
  emit_written p t0 at v ls lt first taken =
      let k : ℕ = i * s.port_count + p in
      let inside : k < s.cells * s.port_count = omega (arith, row, lt) in
      let l = get_or s.delays.lists k [] in
      let e : get_or (set s.emitted.items k v) k Undefined ≡ v = get_or-set_same s.emitted.items k v Undefined (omega (arith, inside, h.emitted)) in
      let d : get_or ls k [] ≡ drop 1 l = ap (λ (xs : List (List (ℕ × Value))). get_or xs k []) taken ∙ get_or-set_same s.delays.lists k (drop 1 l) [] (omega (arith, inside, h.lists)) in
      written (port_in (set s.emitted.items k v) s.computed.items ls) p (port_emitted t0) lt
      ((λ j. record { emitted = e j; computed = get_or s.computed.items k Undefined; pairs = d j }) ∙ emitted_is t0 at v (get_or s.emitted.items k Undefined) (get_or s.computed.items k Undefined) l first)
      (λ m ne.
      let a = get_or-set_other s.emitted.items k m v Undefined ne in
      let b : get_or ls m [] ≡ get_or s.delays.lists m [] = ap (λ (xs : List (List (ℕ × Value))). get_or xs m []) taken ∙ get_or-set_other s.delays.lists k m (drop 1 l) [] ne in
      λ j. record { emitted = a j; computed = get_or s.computed.items m Undefined; pairs = b j })

  pub take_written : (p at : ℕ) (kind : DelayKind) (v : Value) (ls : List (List (ℕ × Value))) → p < s.port_count → same_value v (get_or s.computed.items (i * s.port_count + p) Undefined) ≡ false
      → ls ≡ set s.delays.lists (i * s.port_count + p) (delay_list_after kind (get_or s.delays.lists (i * s.port_count + p) []) at v)
      → record { width = s.port_count; variables = s.variable_count; cells = cells_in (port_in s.emitted.items (set s.computed.items (i * s.port_count + p) v) ls) (variables_of s) s.port_count s.variable_count s.cells } ≡ changed_cell i (changed_port p (port_took kind at v)) t
  take_written p at kind v ls lt new put =
      let k : ℕ = i * s.port_count + p in
      let inside : k < s.cells * s.port_count = omega (arith, row, lt) in
      let l = delay_list_after kind (get_or s.delays.lists k []) at v in
      let e : get_or (set s.computed.items k v) k Undefined ≡ v = get_or-set_same s.computed.items k v Undefined (omega (arith, inside, h.computed)) in
      let d : get_or ls k [] ≡ l = ap (λ (xs : List (List (ℕ × Value))). get_or xs k []) put ∙ get_or-set_same s.delays.lists k l [] (omega (arith, inside, h.lists)) in
      written (port_in s.emitted.items (set s.computed.items k v) ls) p (port_took kind at v) lt
      ((λ j. record { emitted = get_or s.emitted.items k Undefined; computed = e j; pairs = d j })
      ∙ sym (ap (λ (b : Bool). if b then ports_of s k else record { emitted = get_or s.emitted.items k Undefined; computed = v; pairs = l }) new))
      (λ m ne.
      let a = get_or-set_other s.computed.items k m v Undefined ne in
      let b : get_or ls m [] ≡ get_or s.delays.lists m [] = ap (λ (xs : List (List (ℕ × Value))). get_or xs m []) put ∙ get_or-set_other s.delays.lists k m l [] ne in
      λ j. record { emitted = get_or s.emitted.items m Undefined; computed = a j; pairs = b j })

  -- a value that was computed last changes nothing
  pub took_nothing : (p at : ℕ) (kind : DelayKind) (v : Value) → p < s.port_count → same_value v (get_or s.computed.items (i * s.port_count + p) Undefined) ≡ true
      → t ≡ changed_cell i (changed_port p (port_took kind at v)) t
  took_nothing p at kind v lt same =
      let k : ℕ = i * s.port_count + p in
      sym is ∙ written (ports_of s) p (port_took kind at v) lt
      (sym (ap (λ (b : Bool). if b then ports_of s k else record { emitted = get_or s.emitted.items k Undefined; computed = v; pairs = delay_list_after kind (get_or s.delays.lists k []) at v }) same)) (λ m ne. refl)

  -- a port that gives nothing stays
  pub emitted_nothing : (p t0 : ℕ) → p < s.port_count → pair_at t0 (get_or s.delays.lists (i * s.port_count + p) []) ≡ None → t ≡ changed_cell i (changed_port p (port_emitted t0)) t
  emitted_nothing p t0 lt none =
      let k : ℕ = i * s.port_count + p in
      sym is ∙ written (ports_of s) p (port_emitted t0) lt (sym (not_emitted t0 (get_or s.emitted.items k Undefined) (get_or s.computed.items k Undefined) (get_or s.delays.lists k []) none)) (λ m ne. refl)

  pub variables_written : (new xs : List Value) → length new ≡ s.variable_count → xs ≡ take (i * s.variable_count) s.variables.items ++ new ++ drop (i * s.variable_count + length new) s.variables.items
      → record { width = s.port_count; variables = s.variable_count; cells = cells_in (ports_of s) (variable_in xs) s.port_count s.variable_count s.cells } ≡ changed_cell i (with_variables new) t
  variables_written new xs long wrote =
      let old = s.variables.items in
      let first : ℕ = i * s.variable_count in
      let fits : first ≤ length old = omega (arith, variable_row, h.variables) in
      let cells = laid.variables_changed (ports_of s) (variables_of s) (variable_in xs) s.port_count s.variable_count s.cells i new long
      (λ k lt. ap (λ ys. get_or ys (first + k) Undefined) wrote ∙ laid.piece_read Undefined old new first k fits lt)
      (λ j m ne low high. ap (λ ys. get_or ys m Undefined) wrote ∙ elsewhere j m ne low high) in
      (λ k. record { width = s.port_count; variables = s.variable_count; cells = cells k }) ∙ ap (changed_cell i (with_variables new)) is
    where
      elsewhere : (j m : ℕ) → j ≢ i → j * s.variable_count ≤ m → m < j * s.variable_count + s.variable_count
          → get_or (take (i * s.variable_count) s.variables.items ++ new ++ drop (i * s.variable_count + length new) s.variables.items) m Undefined ≡ get_or s.variables.items m Undefined
      elsewhere j m ne low high =
          let fits : i * s.variable_count ≤ length s.variables.items = omega (arith, variable_row, h.variables) in
          elim (side j m ne low high) [ inl before ↦ laid.piece_before Undefined s.variables.items new (i * s.variable_count) m fits before | inr behind ↦ laid.piece_behind Undefined s.variables.items new (i * s.variable_count) m fits behind ]
        where
          side : (j m : ℕ) → j ≢ i → j * s.variable_count ≤ m → m < j * s.variable_count + s.variable_count → (m < i * s.variable_count) ⊎ (i * s.variable_count + length new ≤ m)
          side j m ne low high = elim (laid.order i j) [
            | inl le ↦
                let rows : (i + 1) * s.variable_count ≤ j * s.variable_count = mul-le (i + 1) s.variable_count j s.variable_count (omega (arith, le, ne)) (omega arith) in
                inr (omega (arith, rows, add-mul i 1 s.variable_count, low, long))
            | inr lt ↦
                let rows : (j + 1) * s.variable_count ≤ i * s.variable_count = mul-le (j + 1) s.variable_count i s.variable_count (omega (arith, lt)) (omega arith) in
                inl (omega (arith, rows, add-mul j 1 s.variable_count, high))
          ]

  -- a port past the last
  pub past : (p : ℕ) → s.port_count ≤ p → length (cell_at t.cells i).ports ≤ p
  past p le = omega (arith, ap (λ (c : CellState). length c.ports) cell, laid.ports_long (ports_of s) (variables_of s) s.port_count s.variable_count s.cells i, le)
