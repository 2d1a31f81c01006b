-- Over a run, what a cell has emitted is what it gave last.
use Rattle.std.proofs.Common.{◌≡◌, ℕ, zero, suc, ◌+◌, ◌<◌, Bool, true, false, cond, List, [], ◌∷◌, ◌++◌, map, refl, sym, ◌∙◌, ap, subst, arith}
use Rattle.std.specs.Prelude.{if◌then◌else◌, ◌==◌, slice_get, unwrap_or}
use Rattle.std.specs.List.{filter, flat_map, enumerate_from}
use Rattle.std.proofs.lemmas.List.Elements.{filter-append}
use Rattle.std.proofs.lemmas.Bool.Decides.{nat_tests}
use Rattle.quantity.specs.declared.value.Value.{Value}
use Rattle.atomic_face.specs.Classes.{Bag}
use Rattle.model_tree.specs.Tree.{Tree, leaves}
use Rattle.run_model.specs.Cycle.{leaf_emitted, output_bags, bags, next_of_all}
use Rattle.run_model.specs.Run.{PortRecord, Cycle, RunState, first_event, next_instant, at_top, port_records, is_of_out}
use Rattle.run_model.specs.Runs.{ends, goes}
use Rattle.run_model.specs.Waiting.{IsNotBefore, StandsFrom}
use Rattle.run_model.specs.Fitting.{FitsTree, OfLeaf}
use Rattle.run_model.specs.Emitted.{emitted_at, last_of, last_given, IsCell, EmitsWhatItGives}
use Rattle.run_model.proofs.Steps.{moves_at, Cycled, is_cycled}
use Rattle.run_model.proofs.WaitingCells.{least-parts}
use Rattle.run_model.proofs.WaitingCycle.{cycles-stand, leaves-later}
use Rattle.run_model.proofs.FittingCycle.{bags-fit, moves-fit, all_after-fit}
use Rattle.run_model.proofs.EmittedCells.{last_in, leaf-emits}

last_of-append : (k : ℕ) (xs ys : List PortRecord) (v : Value) → last_of k (xs ++ ys) v ≡ last_of k ys (last_of k xs v)
last_of-append k [] ys v = refl
last_of-append k (r ∷ rs) ys v = last_of-append k rs ys (if r.leaf == k then r.value else v)

-- the records of one leaf
of_one : (k m : ℕ) (bag : Bag) (v : Value) (b : Bool) → (m == k) ≡ b → last_of k (filter is_of_out (port_records (m, bag))) v ≡ cond b (last_in bag v) v
of_one k m [] v true e = refl
of_one k m [] v false e = refl
of_one k m (o ∷ os) v b e = at_port (o.0.0 == 0) (λ w. of_one k m os w b e)
  where
    kept : (d : Bool) → (m == k) ≡ d → last_of k (filter is_of_out (port_records (m, os))) (if m == k then o.1 else v) ≡ last_of k (filter is_of_out (port_records (m, os))) (if d then o.1 else v)
    kept d f = ap (λ x. last_of k (filter is_of_out (port_records (m, os))) (if x then o.1 else v)) f

    by_leaf : (d : Bool) → ((w : Value) → last_of k (filter is_of_out (port_records (m, os))) w ≡ cond d (last_in os w) w) → last_of k (filter is_of_out (port_records (m, os))) (if d then o.1 else v) ≡ cond d (last_in os o.1) v
    by_leaf true rest = rest o.1
    by_leaf false rest = rest v

    at_port : (p : Bool) → ((w : Value) → last_of k (filter is_of_out (port_records (m, os))) w ≡ cond b (last_in os w) w) → last_of k (cond p (record { leaf = m; port = o.0.0; value = o.1 } ∷ filter is_of_out (port_records (m, os))) (filter is_of_out (port_records (m, os)))) v ≡ cond b (last_in os (if p then o.1 else v)) v
    at_port true rest = kept b e ∙ by_leaf b rest
    at_port false rest = rest v

split : (k n : ℕ) (b : Bag) (bs : List Bag) (v : Value) → last_of k (filter is_of_out (flat_map port_records (enumerate_from n (b ∷ bs)))) v ≡ last_of k (filter is_of_out (flat_map port_records (enumerate_from (n + 1) bs))) (last_of k (filter is_of_out (port_records (n, b))) v)
split k n b bs v =
    ap (λ rs. last_of k rs v) (filter-append is_of_out (port_records (n, b)) (flat_map port_records (enumerate_from (n + 1) bs)))
    ∙ last_of-append k (filter is_of_out (port_records (n, b))) (filter is_of_out (flat_map port_records (enumerate_from (n + 1) bs))) v

of_later : (k n : ℕ) (bs : List Bag) (v : Value) → k < n → last_of k (filter is_of_out (flat_map port_records (enumerate_from n bs))) v ≡ v
of_later k n [] v lt = refl
of_later k n (b ∷ bs) v lt =
    let test : (n == k) ≡ false = grind (arith, nat_tests) in
    split k n b bs v ∙ of_later k (n + 1) bs (last_of k (filter is_of_out (port_records (n, b))) v) (omega (arith, lt)) ∙ of_one k n b v false test

of_all : (j k n : ℕ) (bs : List Bag) (v : Value) → j ≡ n + k → last_of j (filter is_of_out (flat_map port_records (enumerate_from n bs))) v ≡ last_in (unwrap_or (slice_get bs k) []) v
of_all j k n [] v is = refl
of_all j zero n (b ∷ bs) v is =
    let test : (n == j) ≡ true = grind (arith, nat_tests) in
    split j n b bs v ∙ of_later j (n + 1) bs (last_of j (filter is_of_out (port_records (n, b))) v) (omega (arith, is)) ∙ of_one j n b v true test
of_all j (suc k) n (b ∷ bs) v is =
    let test : (n == j) ≡ false = grind (arith, nat_tests) in
    split j n b bs v
    ∙ ap (λ w. last_of j (filter is_of_out (flat_map port_records (enumerate_from (n + 1) bs))) w) (of_one j n b v false test)
    ∙ of_all j k (n + 1) bs v (omega (arith, is))

-- one cycle
one-cycle : (tree : Tree) (end limit low leaf : ℕ) (s n : RunState) (c : Cycle) (t : ℕ) → StandsFrom limit low s → FitsTree tree s.leaf_states → OfLeaf tree leaf IsCell → Cycled tree end limit s n c t → emitted_at n.leaf_states leaf ≡ last_of leaf c.y (emitted_at s.leaf_states leaf)
one-cycle tree end limit low leaf s n c t h fit cell is =
    let gave = output_bags t s.leaf_states in
    let next : IsNotBefore t (next_instant s) = subst (IsNotBefore t) (sym is.instant) (omega arith) in
    let parts = least-parts t (next_of_all s.leaf_states) (first_event s.events) next in
    let wait = leaves-later low t s.leaf_states parts.0 h.leaves in
    let emits = leaf-emits t 0 (map (leaf_emitted t) s.leaf_states) gave (leaves tree) s.leaf_states (bags tree gave (at_top tree t s.events)) leaf fit (bags-fit tree gave (at_top tree t s.events)) wait is.none cell in
    ap (λ (m : RunState). emitted_at m.leaf_states leaf) is.next ∙ emits
    ∙ sym (of_all leaf leaf 0 gave (emitted_at s.leaf_states leaf) (omega arith))
    ∙ sym (ap (λ (d : Cycle). last_of leaf d.y (emitted_at s.leaf_states leaf)) is.cycle)

pub emits-what-it-gives : EmitsWhatItGives
emits-what-it-gives tree end limit low leaf s l _ v h fit cell (ends e) = refl
emits-what-it-gives tree end limit low leaf s l _ v h fit cell (goes {n} {c} {cs} e q) =
    let is = is_cycled tree end limit s n c e in
    let after = all_after-fit (leaves tree) s.leaf_states (moves_at tree is.0 s) fit (moves-fit tree is.0 s fit) in
    let next = subst (λ (m : RunState). FitsTree tree m.leaf_states) (sym is.1.next) after in
    emits-what-it-gives tree end limit c.time leaf n l cs v (cycles-stand tree end limit low s n c h e).stands next cell q
    ∙ ap (λ w. last_given leaf cs w) (one-cycle tree end limit low leaf s n c is.0 h fit cell is.1)
