-- What a cell sees of its neighbours, as the values of one list.
use Rattle.std.proofs.Common.{◌≡◌, ℕ, zero, suc, ◌+◌, ◌*◌, ◌/◌, ◌<◌, ◌≤◌, Option, Some, None, List, [], ◌∷◌, ◌++◌, map, length, get_or, set, take, drop, replicate, refl, sym, ◌∙◌, ap, subst, arith, zero-add, ℤ}
use Rattle.std.specs.Prelude.{slice_get, IfSome}
use Rattle.std.specs.List.{All, flat_map, range_with_len}
use Rattle.std.specs.Option.{option_map}
use Rattle.std.proofs.lemmas.List.{length-map, length-replicate}
use Rattle.std.proofs.Math.Nat.{mul-div_cancel}
use Rattle.quantity.specs.declared.place.Offset.{Offset}
use Rattle.quantity.specs.declared.value.Value.{Value}
use Rattle.quantity.specs.declared.value.Value.TheVariants.{Undefined}
use Rattle.rule_eval.specs.declared.view.View.{View}
use Rattle.rule_eval.specs.Seen.{IsView, offset_count, neighbours_of, sight_of_view}
use Rattle.cell_grid.specs.Space.{Space, cell_count, neighbour, place_of, dims_of}
use Rattle.cell_reach.specs.Neighbourhoods.{Neighbourhood, further, neighbours, AreDifferences}
use Rattle.cell_grid.proofs.Opposites.{neighbour-inside}
use Rattle.model_tree.specs.Tree.{Group}
use Rattle.run_model.specs.CellStep.{PortState, CellState}
use Rattle.run_model.specs.Cycle.{cell_state, emitted_values, seen_of}
use Rattle.cell_table.specs.Table.{Table, IsTable}
use Rattle.cell_table.specs.Told.{no_cell, cell_at, values_emitted, OnlyCell}
use Rattle.cell_engine.specs.Layout.{Layout, StandsFor}
use Rattle.cell_engine.specs.Cells.{sight_in}
use Rattle.cell_engine.specs.Step.{given_by, out_of, out_further, AreCells, IsBelow, near, sees, at_port, LooksAt}
use Rattle.cell_engine.proofs.Pieces.{AreLong, pieces_from, pieces_long}
use Rattle.cell_engine.proofs.Sees.{mapped-at}

-- ---- neighbours are cells

if_some : (o : Option ℕ) (P : ℕ → Type 0) → ((n : ℕ) → o ≡ Some n → P n) → IfSome o P
if_some None P h = tt
if_some (Some n) P h = h n refl

pub are_cells : (n : Neighbourhood) (i : ℕ) → i < cell_count n.space → AreCells (cell_count n.space) (neighbours n i)
are_cells n i here = all n.offsets
  where
    all : (os : List Offset) → AreCells (cell_count n.space) (map (neighbour n.space i) os)
    all [] j e lt = absurd (omega (arith, lt))
    all (o ∷ os) zero e lt = if_some (neighbour n.space i o) (λ m. m < cell_count n.space) (λ m is. neighbour-inside n.space i m o here is)
    all (o ∷ os) (suc j) e lt = all os j e (omega (arith, lt))

-- the same of cells that are found so
pub found_cells : (l : Layout) (n : Neighbourhood) (m i : ℕ) (around : List (Option ℕ)) → n ≡ near l → m ≡ cell_count l.space → i < cell_count l.space → around ≡ neighbours n i → AreCells m around
found_cells l n m i around is many here found =
    subst (λ (k : ℕ). AreCells k around) (sym many)
    (subst (λ (os : List (Option ℕ)). AreCells (cell_count l.space) os) (sym (found ∙ ap (λ (h : Neighbourhood). neighbours h i) is)) (are_cells (near l) i here))

-- ---- as many values for each neighbour

long_of : (t : Table) → IsTable t → (o : Option ℕ) → IfSome o (λ n. n < length t.cells) → length (given_by t o) ≡ t.width
long_of t is None h = length-replicate t.width Undefined
long_of t is (Some n) h =
    let c = cell_at t.cells n in
    length-map c.ports (λ (p : PortState). p.emitted) ∙ (is.numbers n no_cell h).0

given_long : (t : Table) → IsTable t → (ns : List (Option ℕ)) → AreCells (length t.cells) ns → AreLong (given_by t) t.width ns
given_long t is ns cells j e lt = long_of t is (get_or ns j e) (cells j e lt)

-- ---- the view of a cell

module _ (v : View) (t : ℕ) (l : Layout) (tb : Table) (i : ℕ) (port : Value) (is : IsTable tb) (long : length tb.cells ≡ cell_count l.space) (here : i < cell_count l.space) (looks : LooksAt v t l tb i port) where
  abbrev ns : List (Option ℕ)
  ns = neighbours (near l) i

  cells : AreCells (length tb.cells) ns
  cells = subst (λ (n : ℕ). AreCells n (neighbours (near l) i)) (sym long) (are_cells (near l) i here)

  many : length ns ≡ length l.offsets
  many = length-map l.offsets (neighbour l.space i)

  whole : length v.neighbours.now ≡ length ns * tb.width
  whole = ap length looks.seen ∙ pieces_long (given_by tb) tb.width (neighbours (near l) i) (given_long tb is (neighbours (near l) i) cells)

  count : offset_count v ≡ length ns
  count =
      let some : 0 < tb.width = omega (arith, looks.ports) in
      (λ k. whole k / looks.ports k) ∙ mul-div_cancel (length ns) some

  pub is_view : length l.offsets ≤ 128 → IsView v
  is_view few =
      record {
        ports = omega (arith, is.width, looks.ports);
        whole = whole ∙ (λ k. sym count k * sym looks.ports k);
        few = omega (arith, few, count, many);
      }

  neighbours_are : neighbours_of v ≡ map (given_by tb) (neighbours (near l) i)
  neighbours_are =
      (λ k. map (λ (j : ℕ). take (looks.ports k) (drop (j * looks.ports k) (looks.seen k))) (range_with_len 0 (count k)))
      ∙ pieces_from (given_by tb) tb.width ns [] 0 (omega arith) (given_long tb is ns cells)

  -- a view shows what the cell sees
  pub shows : sight_of_view v ≡ record (at_port port (sees l t tb i)) { variables = (cell_at tb.cells i).variables }
  shows =
      λ k. record { time = looks.time k; place = looks.place k; dims = looks.dims k; neighbours = neighbours_are k; port = looks.port k; variables = looks.variables k }

-- ---- what a cell sees is what the reference's cell sees

seen_same : (g : Group) (tb : Table) (o : Option ℕ) → tb.width ≡ suc (length g.port_values) → ((n : ℕ) → o ≡ Some n → n < length tb.cells)
    → given_by tb o ≡ seen_of (map cell_state tb.cells) g (option_map (λ n. 0 + n) o)
seen_same g tb None wide within = ap (λ (n : ℕ). replicate n Undefined) wide
seen_same g tb (Some n) wide within =
    sym (ap (λ (m : ℕ). emitted_values (slice_get (map cell_state tb.cells) m)) (zero-add n) ∙ ap emitted_values (mapped-at tb.cells n (within n refl)))

all_seen : (g : Group) (tb : Table) (i : ℕ) → i < cell_count g.space → length tb.cells ≡ cell_count g.space → tb.width ≡ suc (length g.port_values) → (os : List Offset)
    → map (given_by tb) (map (neighbour g.space i) os) ≡ map (λ (o : Offset). seen_of (map cell_state tb.cells) g (option_map (λ n. 0 + n) (neighbour g.space i o))) os
all_seen g tb i here long wide [] = refl
all_seen g tb i here long wide (o ∷ os) =
    let head = seen_same g tb (neighbour g.space i o) wide (λ n is. let inside = neighbour-inside g.space i n o here is in omega (arith, inside, long)) in
    let rest = all_seen g tb i here long wide os in
    λ k. head k ∷ rest k

pub sees_group : (t : ℕ) (g : Group) (l : Layout) (tb : Table) (i : ℕ) → length tb.cells ≡ cell_count l.space → i < cell_count l.space → tb.width ≡ l.ports + 1 → StandsFor g l
    → sees l t tb i ≡ sight_in t g tb.cells i
sees_group t g l tb i long here wide st =
    let wide_g : tb.width ≡ suc (length g.port_values) = omega (arith, wide, st.ports) in
    let long_g : length tb.cells ≡ cell_count g.space = long ∙ ap cell_count st.space in
    let here_g : i < cell_count g.space = subst (λ (s : Space). i < cell_count s) st.space here in
    let seen = (λ k. map (given_by tb) (map (neighbour (st.space k) i) (st.offsets k))) ∙ all_seen g tb i here_g long_g wide_g g.offsets in
    λ k. record (sight_in t g tb.cells i) { place = place_of (st.space k) i; dims = dims_of (st.space k); neighbours = seen k }

-- ---- one port

single : (vs : List Value) → length vs ≡ 1 → vs ≡ get_or vs 0 Undefined ∷ []
single [] h = absurd (omega (arith, h))
single (v ∷ []) h = refl
single (v ∷ w ∷ vs) h = absurd (omega (arith, h))

-- the values that all cells gave, where each has one port
abbrev pub AreOuts : Table → List Value → Type 0
AreOuts tb es =
    (n p : ℕ) → n < length tb.cells → p < tb.width → get_or es (n * tb.width + p) Undefined ≡ get_or (values_emitted (cell_at tb.cells n)) p Undefined

module _ (tb : Table) (is : IsTable tb) (one : tb.width ≡ 1) (es : List Value) (outs : AreOuts tb es) where
  out_is : (o : Option ℕ) → IfSome o (λ n. n < length tb.cells) → given_by tb o ≡ out_of es o ∷ []
  out_is None h = ap (λ n. replicate n Undefined) one
  out_is (Some n) h =
      let c = cell_at tb.cells n in
      let alone : length (values_emitted c) ≡ 1 = length-map c.ports (λ (p : PortState). p.emitted) ∙ (is.numbers n no_cell h).0 ∙ one in
      let place : n * tb.width + 0 ≡ n = ap (λ w. n * w + 0) one ∙ omega arith in
      let read : get_or es n Undefined ≡ get_or (values_emitted c) 0 Undefined = ap (λ k. get_or es k Undefined) (sym place) ∙ outs n 0 h (omega (arith, one)) in
      single (values_emitted c) alone ∙ ap (λ v. v ∷ []) (sym read)

  pub outs_are : (ns : List (Option ℕ)) → AreCells (length tb.cells) ns → map (out_of es) ns ≡ flat_map (given_by tb) ns
  outs_are [] cells = refl
  outs_are (o ∷ ns) cells =
      let head = out_is o (cells 0 o (omega arith)) in
      let rest = outs_are ns (λ j d lt. cells (suc j) d (omega (arith, lt))) in
      (λ k. out_of es o ∷ rest k) ∙ sym (λ k. head k ++ flat_map (given_by tb) ns)

-- a whole look
pub looked : (l : Layout) (tb : Table) (i : ℕ) (es : List Value) → IsTable tb → tb.width ≡ 1 → AreOuts tb es → length tb.cells ≡ cell_count l.space → i < cell_count l.space
    → map (out_of es) (neighbours (near l) i) ≡ flat_map (given_by tb) (neighbours (near l) i)
looked l tb i es is one outs long here =
    outs_are tb is one es outs (neighbours (near l) i) (subst (λ (n : ℕ). AreCells n (neighbours (near l) i)) (sym long) (are_cells (near l) i here))

outs_further : (es : List Value) (cell : ℕ) (ds : List ℤ) → map (out_further es cell) ds ≡ map (out_of es) (map (λ d. Some (further cell d)) ds)
outs_further es cell [] = refl
outs_further es cell (d ∷ ds) = ap (λ vs. out_further es cell d ∷ vs) (outs_further es cell ds)

-- the same by differences
module _ (l : Layout) (n : Neighbourhood) (i : ℕ) (es : List Value) (ds : List ℤ) (is : n ≡ near l) (far : AreDifferences n i ds) where
  pub looked_further : map (out_further es i) ds ≡ map (out_of es) (neighbours (near l) i)
  looked_further = outs_further es i ds ∙ ap (map (out_of es)) (sym far.lead ∙ ap (λ (h : Neighbourhood). neighbours h i) is)

  pub leads_below : length es ≡ cell_count l.space → All (IsBelow (length es) i) ds
  leads_below long = subst (λ (k : ℕ). All (IsBelow k i) ds) (ap (λ (h : Neighbourhood). cell_count h.space) is ∙ sym long) far.inside

pub long_look : (l : Layout) (tb : Table) (i : ℕ) → IsTable tb → length tb.cells ≡ cell_count l.space → i < cell_count l.space
    → length (flat_map (given_by tb) (neighbours (near l) i)) ≡ length l.offsets * tb.width
long_look l tb i is long here =
    let cells = subst (λ (n : ℕ). AreCells n (neighbours (near l) i)) (sym long) (are_cells (near l) i here) in
    pieces_long (given_by tb) tb.width (neighbours (near l) i) (given_long tb is (neighbours (near l) i) cells)
    ∙ ap (λ n. n * tb.width) (length-map l.offsets (neighbour l.space i))

-- ---- what a cell sees stays while only it changes, and not what it emitted

kept : (i : ℕ) (cells : List CellState) (c : CellState) → values_emitted c ≡ values_emitted (cell_at cells i) → (n : ℕ) → values_emitted (cell_at (set cells i c) n) ≡ values_emitted (cell_at cells n)
kept i [] c e n = refl
kept zero (d ∷ ds) c e zero = e
kept zero (d ∷ ds) c e (suc n) = refl
kept (suc i) (d ∷ ds) c e zero = refl
kept (suc i) (d ∷ ds) c e (suc n) = kept i ds c e n

pub sees_still : (l : Layout) (t : ℕ) (a b : Table) (i j : ℕ) → OnlyCell j a.cells b.cells → b.width ≡ a.width → sees l t b i ≡ sees l t a i
sees_still l t a b i j only wide = λ k. record (sees l t a i) { neighbours = map (λ (o : Option ℕ). same o k) (neighbours (near l) i) }
  where
    same : (o : Option ℕ) → given_by b o ≡ given_by a o
    same None = ap (λ n. replicate n Undefined) wide
    same (Some n) = ap (λ (cs : List CellState). values_emitted (cell_at cs n)) only.others ∙ kept j a.cells (cell_at b.cells j) only.emitted n
