-- A step of one cell or one box, as it is told.
use Rattle.std.proofs.Common.{◌≡◌, ℕ, suc, ◌<◌, ◌≤◌, Option, Some, None, ℤ, List, [], ◌∷◌, map, length, Ok, Err, refl, sym, ◌∙◌, ap, subst, arith}
use Rattle.std.specs.Prelude.{slice_get, slice_set, slice_index_or}
use Rattle.std.specs.List.{HoldsAt}
use Rattle.std.specs.declared.result.Result.{Result}
use Rattle.std.proofs.lemmas.List.{get_or-set_same}
use Rattle.quantity.specs.declared.value.Value.{Value}
use Rattle.quantity.specs.declared.value.Value.TheVariants.{Undefined}
use Rattle.rule_tree.specs.declared.outcome.RuleStop.TheVariants as rules
use Rattle.atomic_face.specs.declared.model.AdvanceRefusal.{AdvanceRefusal}
use Rattle.atomic_face.specs.declared.model.AdvanceRefusal.TheVariants as advance
use Rattle.atomic_face.specs.Classes.{Bag, moved_state}
use Rattle.atomic_face.specs.Moves.{next_of_box, with_state}
use Rattle.atomic_face.specs.BoxCalls.{AdvanceGives}
use Rattle.atomic_face.specs.StockView.{Stocked}
use Rattle.atomic_face.specs.Stocked.{ChangesBox}
use Rattle.run_model.specs.CellStep.{PortState, CellState, Stepped, cell_next}
use Rattle.run_model.specs.Cycle.{cell_state}
use Rattle.run_model.specs.Run as run
use Rattle.cell_table.specs.Told.{no_cell, cell_at, values_computed, OnlyCell}
use Rattle.cell_engine.specs.Cells.{Computes}
use Rattle.cycle_steps.specs.declared.told.Told.{Told}
use Rattle.run_model.specs.declared.stop.LeafStop.{LeafStop}
use Rattle.run_model.specs.declared.stop.LeafStop.TheVariants.{Rule, Memory}
use Rattle.run_leaves.specs.Seated.{HasPort}
use Rattle.run_leaves.specs.Moving.{MovesCell, HasMovedCell, MovesBox, GoesTo, with_box}
use Rattle.run_leaves.proofs.Places.{get-set, index-get}

-- ---- a cell

first-computed : (ps : List PortState) → 1 ≤ length ps → Some (slice_index_or (map (λ (p : PortState). p.computed) ps) 0 Undefined) ≡ run.computed_of (cell_state (record { ports = ps; variables = [] }))
first-computed [] le = absurd (omega (arith, le))
first-computed (p ∷ ps) le = refl

ports-long : (old new : List CellState) (i : ℕ) → OnlyCell i old new → length (cell_at new i).ports ≡ length (cell_at old i).ports
ports-long old new i only =
    sym (mapped (cell_at new i).ports) ∙ ap (λ (vs : List Value). length vs) only.emitted ∙ mapped (cell_at old i).ports
  where
    mapped : (ps : List PortState) → length (map (λ (p : PortState). p.emitted) ps) ≡ length ps
    mapped [] = refl
    mapped (p ∷ ps) = ap (λ n. suc n) (mapped ps)

-- a cell keeps its ports, however its step ends
pub port-stays : (old new : List CellState) (i : ℕ) → OnlyCell i old new → HasPort (cell_at old i) → HasPort (cell_at new i)
port-stays old new i only has = let long = ports-long old new i only in omega (arith, has, long)

told-by : (old new : List CellState) (i : ℕ) (c : CellState) (v : Value) (t : Told) → i < length old → HasPort (cell_at new i) → new ≡ slice_set old i c
    → v ≡ slice_index_or (values_computed (cell_at new i)) 0 Undefined → t.value ≡ Some v → t.next ≡ cell_next (cell_at new i) → HasMovedCell old new i c t
told-by old new i c v t lt has made is value next =
    let here : cell_at new i ≡ c = ap (λ cs. cell_at cs i) made ∙ get_or-set_same old i c no_cell lt in
    record {
      cells = made;
      value = value ∙ ap (λ (w : Value). Some w) is ∙ first-computed (cell_at new i).ports has ∙ ap (λ (x : CellState). run.computed_of (cell_state x)) here;
      next = next ∙ ap cell_next here;
    }

pub moves-ok : {U : Type 0} (u : U) (old new : List CellState) (i : ℕ) (step : Stepped) (v : Value) (t : Told) → i < length old → HasPort (cell_at old i) → OnlyCell i old new
    → Computes i old new step (let r : Result U LeafStop = Ok u in r) → v ≡ slice_index_or (values_computed (cell_at new i)) 0 Undefined → t.value ≡ Some v → t.next ≡ cell_next (cell_at new i) → MovesCell old new i step (Ok t)
moves-ok u old new i (Ok c) v t lt has only made is value next = told-by old new i c v t lt (port-stays old new i only has) made is value next
moves-ok u old new i (Err why) v t lt has only made is value next = made

pub moves-err : (U : Type 0) (old new : List CellState) (i : ℕ) (step : Stepped) (stop : LeafStop) → Computes i old new step (let r : Result U LeafStop = Err stop in r) → MovesCell old new i step (Err stop)
moves-err U old new i (Ok c) Memory made = tt
moves-err U old new i (Ok c) (Rule stop) made = made
moves-err U old new i (Err why) Memory made = tt
moves-err U old new i (Err why) (Rule stop) made = made

-- ---- a box

pub box-moves : {U : Type 0} (u : U) (t : ℕ) (bag : Bag) (at : ℕ) (old new : List Stocked) (told : Told)
    → ChangesBox (λ b s. AdvanceGives t bag b s (Ok u)) at old new → told.value ≡ None → HoldsAt (λ (s : Stocked). told.next ≡ next_of_box s.box) new at → MovesBox t bag at old new (Ok told)
box-moves u t bag at old new told changes value there =
    let made : Stocked = record changes.before { box = changes.after } in
    let stands : slice_get new at ≡ Some made = ap (λ ss. slice_get ss at) changes.list ∙ get-set old at changes.before made changes.stood in
    let box = with_state changes.before.box changes.after.state in
    record {
      before = changes.before;
      stood = changes.stood;
      goes = subst (λ o. GoesTo old new at changes.before o (Ok told)) (sym changes.made.0) (record {
        stock = changes.list ∙ ap (λ b. slice_set old at (with_box changes.before b)) changes.made.1;
        value = value;
        next = there made ∙ ap (λ (s : Stocked). next_of_box s.box) (index-get new at made made stands) ∙ ap next_of_box changes.made.1;
      });
    }

-- the call refuses for this reason
abbrev pub Refuses : {U : Type 0} → ℕ → Bag → ℕ → List Stocked → List Stocked → Result U AdvanceRefusal → Type 0
Refuses t bag at old new r = ChangesBox (λ b s. AdvanceGives t bag b s r) at old new

pub box-overflows : (U : Type 0) (why : AdvanceRefusal) (t : ℕ) (bag : Bag) (at : ℕ) (old new : List Stocked) → why ≡ advance.Overflow
    → (let r : Result U AdvanceRefusal = Err why in Refuses t bag at old new r) → new ≡ old → (let told : Result Told LeafStop = Err (Rule rules.Overflow) in MovesBox t bag at old new told)
box-overflows U why t bag at old new is refuses same =
    let changes = subst (λ (w : AdvanceRefusal). let r : Result U AdvanceRefusal = Err w in Refuses t bag at old new r) is refuses in
    record {
      before = changes.before;
      stood = changes.stood;
      goes = subst (λ o. let told : Result Told LeafStop = Err (Rule rules.Overflow) in GoesTo old new at changes.before o told) (sym changes.made.0) (refl, same);
    }

pub box-refused : (U : Type 0) (why : AdvanceRefusal) (t : ℕ) (bag : Bag) (at : ℕ) (old new : List Stocked) → (let r : Result U AdvanceRefusal = Err why in Refuses t bag at old new r) → new ≡ old
    → (let told : Result Told LeafStop = Err Memory in MovesBox t bag at old new told)
box-refused U why t bag at old new changes same =
    let b = changes.before.box in
    record { before = changes.before; stood = changes.stood; goes = stays (moved_state b.kind b.settings b.state t bag) }
  where
    stays : (words : Option (List ℤ)) → (let told : Result Told LeafStop = Err Memory in GoesTo old new at changes.before words told)
    stays None = same
    stays (Some words) = same
