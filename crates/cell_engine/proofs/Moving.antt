-- A step of a store, as the reference has it.
use Rattle.std.proofs.Common.{◌≡◌, ℕ, zero, suc, ◌+◌, ◌<◌, ◌≤◌, Bool, true, List, [], ◌∷◌, ◌++◌, length, get_or, take, drop, sym, ◌∙◌, ap, subst, arith}
use Rattle.std.specs.Prelude.{slice_get}
use Rattle.std.specs.List.{All}
use Rattle.std.specs.Option.{unwrap_or}
use Rattle.std.proofs.lemmas.List.{take_at}
use Rattle.std.specs.declared.result.Result.{Result}
use Rattle.rule_tree.specs.Expression.{Rule}
use Rattle.rule_tree.specs.Meaning.{Sight}
use Rattle.rule_forms.specs.Depth.{rule_depth}
use Rattle.atomic_face.specs.Classes.{Bag}
use Rattle.cell_grid.specs.Space.{cell_count}
use Rattle.model_tree.specs.Tree.{Word, Group}
use Rattle.model_tree.specs.Pull.{cell_ports}
use Rattle.model_tree.specs.Sound.{is_sound_group}
use Rattle.run_model.specs.CellStep.{CellState, cell_moved}
use Rattle.cell_table.specs.Table.{Table, HasShape}
use Rattle.cell_table.specs.Told.{cell_at, OnlyCell}
use Rattle.run_model.specs.declared.stop.LeafStop.{LeafStop}
use Rattle.cell_engine.specs.Layout.{Layout, StandsFor}
use Rattle.cell_engine.specs.Cells.{Cells, computed_at, Computes}
use Rattle.cell_engine.specs.Step.{sees, IsOfGroup}
use Rattle.cell_engine.specs.Store.{IsReady}
use Rattle.cell_engine.proofs.Looking.{sees_group}
use Rattle.cell_engine.proofs.Ready.{ready_after}

-- a cell that moves over what it sees of a table moves as the reference's cell
pub moves_so : (U : Type 0) (r : Result U LeafStop) (g : Group) (l : Layout) (tb : Table) (s : Cells) (i t : ℕ) (woken : Bool) (bag : Bag) (ports : List Word) (new : List CellState)
    → record { layout = l; cells = tb.cells } ≡ s → length tb.cells ≡ cell_count l.space → i < cell_count l.space → tb.width ≡ l.ports + 1
    → StandsFor g s.layout → is_sound_group g ≡ true → ports ≡ cell_ports g i
    → (IsOfGroup g l ports i → Computes i tb.cells new (cell_moved g i t woken (sees l t tb i) bag (cell_at tb.cells i)) r)
    → Computes i s.cells new (computed_at t g s.cells i woken bag) r
moves_so U r g l tb s i t woken bag ports new is long here wide st sound named h =
    let P : Cells → Type 0 = λ x. StandsFor g x.layout → Computes i x.cells new (computed_at t g x.cells i woken bag) r in
    let at_tables : StandsFor g l → Computes i tb.cells new (computed_at t g tb.cells i woken bag) r = λ st_l.
    subst (λ (x : Sight). Computes i tb.cells new (cell_moved g i t woken x bag (cell_at tb.cells i)) r) (sees_group t g l tb i long here wide st_l)
    (h (record { stands = st_l; sound = sound; ports_are = named })) in
    subst P is at_tables st

pub only_so : (l : Layout) (tb : Table) (s : Cells) (i : ℕ) (new : List CellState) → record { layout = l; cells = tb.cells } ≡ s → OnlyCell i tb.cells new → OnlyCell i s.cells new
only_so l tb s i new is h = subst (λ (x : Cells). OnlyCell i x.cells new) is h

-- a cell of the store is a cell of its space
pub within_space : (l : Layout) (tb : Table) (s : Cells) (i : ℕ) → record { layout = l; cells = tb.cells } ≡ s → length tb.cells ≡ cell_count l.space → i < length s.cells → i < cell_count l.space
within_space l tb s i is long here =
    subst (λ (n : ℕ). i < n) (sym (ap (λ (x : Cells). length x.cells) is) ∙ long) here

-- the store stays ready where its lists keep their room
pub ready_still : (l : Layout) (t u : Table) (p r c d p' r' c' d' : ℕ) → HasShape t u → p' ≡ p → r' ≡ r → c' ≡ c → d' ≡ d → IsReady l t p r c d → IsReady l u p' r' c' d'
ready_still l t u p r c d p' r' c' d' shape ep er ec ed h =
    let now = ready_after l t u p r c d shape.width shape.variables shape.cells h in
    record {
      width = now.width;
      variables = now.variables;
      cells = now.cells;
      places = ep ∙ now.places;
      room = er ∙ now.room;
      changed = ec ∙ now.changed;
      depth = subst (λ (k : ℕ). All (λ (rules : List Rule). All (λ (rule : Rule). rule_depth rule ≤ k) rules) l.rule_sets) (sym ed) now.depth;
    }

-- a list whose first part was written anew keeps its length
pub kept_long : {A : Type 0} (n : ℕ) (xs ys : List A) → length ys ≡ n → length xs ≡ n → length (take n (ys ++ drop (length ys) xs)) ≡ length xs
kept_long n xs ys e h = ap length (take_at ys (drop (length ys) xs) n e) ∙ e ∙ sym h

-- the name that stands at a port's number
pub named_port : (ports names : List Word) (k n : ℕ) (w : Word) → n < length ports → k ≡ n → w ≡ get_or ports k w → ports ≡ names → w ≡ unwrap_or (slice_get names n) []
named_port ports names k n w here at is same =
    read ports n w here (is ∙ ap (λ j. get_or ports j w) at) ∙ ap (λ ws. unwrap_or (slice_get ws n) []) same
  where
    read : (ws : List Word) (j : ℕ) (v : Word) → j < length ws → v ≡ get_or ws j v → v ≡ unwrap_or (slice_get ws j) []
    read [] j v lt eq = absurd (omega (arith, lt))
    read (x ∷ ws) zero v lt eq = eq
    read (x ∷ ws) (suc j) v lt eq = read ws j v (omega (arith, lt)) eq
