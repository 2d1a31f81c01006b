-- Who is woken by the givers, and who is touched.
use Rattle.std.proofs.Common.{◌≡◌, ℕ, ◌<◌, ◌≤◌, Bool, true, false, cond, ◌||◌, ◌&&◌, eqb, ltb, Option, Some, None, List, [], ◌∷◌, map, length, refl, sym, ◌∙◌, ap, ⊎_elim}
use Rattle.std.specs.Prelude.{slice_get}
use Rattle.std.specs.List.{filter, list_any, range_with_len}
use Rattle.std.proofs.lemmas.List.{get_or_past}
use Rattle.std.proofs.lemmas.Bool.{cases_lt, lt-ltb}
use Rattle.quantity.specs.declared.place.Offset.{Offset}
use Rattle.cell_grid.proofs.Rising.{has-filter, has-range}
use Rattle.atomic_face.specs.Classes.{is_at}
use Rattle.model_tree.specs.Tree.{Leaf, atomic_leaf, cell_leaf, leaves}
use Rattle.run_model.specs.Cycle.{LeafState, leaf_next, neighbour_leaf, has_values}
use Rattle.run_model.specs.Run.{PortRecord}
use Rattle.sparse_cycle.specs.Sparse.{no_leaf, is_due, due_leaves, bag_in, value_at_port, records_at, gave_there, is_woken_at, is_touched}
use Rattle.quantity.specs.Bytes.{has_number}
use Rattle.sparse_cycle.specs.Wake.{is_this_leaf, watches, is_fed}
use Rattle.sparse_cycle.specs.Wake.{GiversWake, ReachedAreTouched}

any-none : {A : Type 0} (xs : List A) → list_any (λ (x : A). false) xs ≡ false
any-none [] = refl
any-none (x ∷ xs) = any-none xs

exchange : (a b c d : Bool) → ((a || b) || (c || d)) ≡ ((a || c) || (b || d))
exchange true b c d = refl
exchange false true true d = refl
exchange false true false d = refl
exchange false false c d = refl

any-or : {A : Type 0} (f g : A → Bool) (xs : List A) → list_any (λ x. f x || g x) xs ≡ (list_any f xs || list_any g xs)
any-or f g [] = refl
any-or f g (x ∷ xs) = ap (λ b. (f x || g x) || b) (any-or f g xs) ∙ exchange (f x) (g x) (list_any f xs) (list_any g xs)

any-swap : {A B : Type 0} (f : A → B → Bool) (xs : List A) (ys : List B) → list_any (λ x. list_any (f x) ys) xs ≡ list_any (λ y. list_any (λ x. f x y) xs) ys
any-swap f [] ys = sym (any-none ys)
any-swap f (x ∷ xs) ys = ap (λ b. list_any (f x) ys || b) (any-swap f xs ys) ∙ sym (any-or (f x) (λ y. list_any (λ x. f x y) xs) ys)

one-neighbour : (given : List PortRecord) (givers : List ℕ) → ((l : ℕ) → has_number givers l ≡ gave_there given (Some l)) → (o : Option ℕ) → list_any (λ l. is_this_leaf l o) givers ≡ gave_there given o
one-neighbour given givers same None = any-none givers
one-neighbour given givers same (Some n) = same n

wake-one : (given : List PortRecord) (givers : List ℕ) → ((l : ℕ) → has_number givers l ≡ gave_there given (Some l)) → (leaf : Option Leaf) → list_any (λ l. watches l leaf) givers ≡ is_woken_at given leaf
wake-one given givers same None = any-none givers
wake-one given givers same (Some (atomic_leaf name class settings)) = any-none givers
wake-one given givers same (Some (cell_leaf g first cell)) =
    any-swap (λ (l : ℕ) (o : Offset). is_this_leaf l (neighbour_leaf g first cell o)) givers g.offsets
    ∙ (λ i. list_any (λ o. one-neighbour given givers same (neighbour_leaf g first cell o) i) g.offsets)

pub givers-wake : GiversWake
givers-wake tree given givers same k = wake-one given givers same (slice_get (leaves tree) k)

-- ---- touched

and-false : (a : Bool) → (a && false) ≡ false
and-false true = refl
and-false false = refl

due-among : (t : ℕ) (states : List LeafState) (k : ℕ) → has_number (due_leaves t states) k ≡ is_due t states k
due-among t states k =
    has-filter (is_due t states) (range_with_len 0 (length states)) k
    ∙ ap (λ b. b && is_due t states k) (has-range (length states) k)
    ∙ ⊎_elim
    (λ (lt : k < length states). ap (λ b. b && is_due t states k) (lt-ltb k (length states) lt))
    (λ (ge : length states ≤ k).
    let off : is_due t states k ≡ false = ap (λ s. is_at t (leaf_next s)) (get_or_past states k no_leaf ge) in
    ap (λ b. ltb k (length states) && b) off ∙ and-false (ltb k (length states)) ∙ sym off)
    (cases_lt k (length states))

fed-by : (b : Bool) (k : ℕ) (r : PortRecord) (rs : List PortRecord) → has_values (map value_at_port (cond b (r ∷ records_at k rs) (records_at k rs))) ≡ (b || has_values (bag_in rs k))
fed-by true k r rs = refl
fed-by false k r rs = refl

fed-has : (k : ℕ) (fed : List PortRecord) → is_fed fed k ≡ has_values (bag_in fed k)
fed-has k [] = refl
fed-has k (r ∷ rs) = ap (λ b. eqb r.leaf k || b) (fed-has k rs) ∙ sym (fed-by (eqb r.leaf k) k r rs)

or-comm : (a b : Bool) → (a || b) ≡ (b || a)
or-comm true true = refl
or-comm true false = refl
or-comm false true = refl
or-comm false false = refl

pub reached-are-touched : ReachedAreTouched
reached-are-touched tree t states given fed is_marked woken = λ i. filter (λ k. each k i) (range_with_len 0 (length states))
  where
    each : (k : ℕ) → ((is_marked k || has_number (due_leaves t states) k) || is_fed fed k) ≡ is_touched tree t states given fed k
    each k =
        (λ i. (woken k i || due-among t states k i) || fed-has k fed i)
        ∙ ap (λ b. b || has_values (bag_in fed k)) (or-comm (is_woken_at given (slice_get (leaves tree) k)) (is_due t states k))
