-- One part of a cell's step after another.
use Rattle.std.proofs.Common.{◌≡◌, ℕ, ◌+◌, ◌<◌, List, [], length, drop, get_or, set, refl, sym, ◌∙◌, ap, subst, Ok, Err}
use Rattle.std.specs.declared.result.Result.{Result}
use Rattle.std.proofs.lemmas.List.{set-set, get_or-set_same, drop_more}
use Rattle.quantity.specs.declared.value.Value.{Value}
use Rattle.rule_tree.specs.Meaning.{Sight}
use Rattle.atomic_face.specs.Classes.{Bag}
use Rattle.atomic_face.specs.declared.class.PortNo.{PortNo}
use Rattle.model_tree.specs.Tree.{Group}
use Rattle.quantity.specs.Written.{for_ok}
use Rattle.run_model.specs.CellStep.{CellState, Stepped, step_by_value, all_treated}
use Rattle.cell_table.specs.Told.{no_cell, cell_at}
use Rattle.run_model.specs.declared.stop.LeafStop.{LeafStop}
use Rattle.run_model.specs.declared.stop.LeafStop.TheVariants.{Rule, Memory}
use Rattle.cell_engine.specs.Cells.{Computes}

-- want of memory says nothing
pub free : (U : Type 0) (i : ℕ) (old new : List CellState) (s : Stepped) → (let r : Result U LeafStop = Err Memory in Computes i old new s r)
free U i old new (Ok c) = tt
free U i old new (Err why) = tt

-- a step from cells of which this one has changed
pub from-set : (U : Type 0) (i : ℕ) (old mid new : List CellState) (c : CellState) (s : Stepped) (r : Result U LeafStop) → mid ≡ set old i c → Computes i mid new s r → Computes i old new s r
from-set U i old mid new c (Ok d) (Ok u) first h = h ∙ ap (λ (cs : List CellState). set cs i d) first ∙ set-set old i c d
from-set U i old mid new c (Ok d) (Err Memory) first h = tt
from-set U i old mid new c (Ok d) (Err (Rule stop)) first h = absurd h
from-set U i old mid new c (Err why) (Ok u) first h = absurd h
from-set U i old mid new c (Err why) (Err Memory) first h = tt
from-set U i old mid new c (Err why) (Err (Rule stop)) first h = h

-- what a first part leaves is where the second begins
pub then-goes : (U V : Type 0) (i : ℕ) (old mid new : List CellState) (s : Stepped) (go : CellState → Stepped) (u : U) (r : Result V LeafStop) → i < length old
    → (let a : Result U LeafStop = Ok u in Computes i old mid s a) → Computes i mid new (go (cell_at mid i)) r → Computes i old new (for_ok s go) r
then-goes U V i old mid new (Ok c) go u r here first second =
    let at : cell_at mid i ≡ c = ap (λ (cs : List CellState). cell_at cs i) first ∙ get_or-set_same old i c no_cell here in
    from-set V i old mid new c (go c) r first (subst (λ (x : CellState). Computes i mid new (go x) r) at second)
then-goes U V i old mid new (Err why) go u r here first second = absurd first

-- where no value is treated, the first part is all
pub no_bag : (g : Group) (i t : ℕ) (sight : Sight) (s : Stepped)
    → for_ok s (all_treated g i t sight []) ≡ s
no_bag g i t sight (Ok c) = refl
no_bag g i t sight (Err why) = refl

-- where the first part stops, both stop so
pub then-stops : (U V : Type 0) (i : ℕ) (old mid old' new' : List CellState) (s : Stepped) (go : CellState → Stepped) (why : LeafStop)
    → (let a : Result U LeafStop = Err why in Computes i old mid s a) → (let b : Result V LeafStop = Err why in Computes i old' new' (for_ok s go) b)
then-stops U V i old mid old' new' (Ok c) go Memory h = free V i old' new' (go c)
then-stops U V i old mid old' new' (Ok c) go (Rule stop) h = absurd h
then-stops U V i old mid old' new' (Err w) go Memory h = tt
then-stops U V i old mid old' new' (Err w) go (Rule stop) h = h

-- ---- what is left

-- a part is done, and from the cell that it leaves the rest is left
pub one-done : (U : Type 0) (i : ℕ) (mid new : List CellState) (all s : Stepped) (go : CellState → Stepped) (u : U) → i < length mid → all ≡ for_ok s go
    → (let a : Result U LeafStop = Ok u in Computes i mid new s a) → all ≡ go (cell_at new i)
one-done U i mid new all (Ok c) go u here left h =
    left ∙ ap go (sym (ap (λ (cs : List CellState). cell_at cs i) h ∙ get_or-set_same mid i c no_cell here))
one-done U i mid new all (Err why) go u here left h = absurd h

pub one-stops : (U V : Type 0) (i : ℕ) (mid new old' new' : List CellState) (all s : Stepped) (go : CellState → Stepped) (why : LeafStop) → all ≡ for_ok s go
    → (let a : Result U LeafStop = Err why in Computes i mid new s a) → (let b : Result V LeafStop = Err why in Computes i old' new' all b)
one-stops U V i mid new old' new' all s go why left h =
    subst (λ (x : Stepped). let b : Result V LeafStop = Err why in Computes i old' new' x b) (sym left) (then-stops U V i mid new old' new' s go why h)

pub all-done : (U : Type 0) (i : ℕ) (old new : List CellState) (all : Stepped) (u : U) → all ≡ Ok (cell_at new i) → new ≡ set old i (cell_at new i)
    → (let b : Result U LeafStop = Ok u in Computes i old new all b)
all-done U i old new all u left is =
    subst (λ (x : Stepped). let b : Result U LeafStop = Ok u in Computes i old new x b) (sym left) is

-- of a bag the first value is left, and then the others
pub one-left : (g : Group) (i t : ℕ) (s : Sight) (bag : Bag) (k : ℕ) (x : PortNo × Value) (c : CellState) (all : Stepped) → k < length bag → x ≡ get_or bag k x → all ≡ all_treated g i t s (drop k bag) c
    → all ≡ for_ok (step_by_value g i t s x c) (all_treated g i t s (drop (k + 1) bag))
one-left g i t s bag k x c all lt is left =
    left ∙ ap (λ (b : Bag). all_treated g i t s b c) (drop_more bag k x lt)
    ∙ ap (λ (y : PortNo × Value). for_ok (step_by_value g i t s y c) (all_treated g i t s (drop (k + 1) bag))) (sym is)
