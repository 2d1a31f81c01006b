-- One leaf more that has given.
use Rattle.std.specs.Prelude.{not}
use Rattle.std.proofs.Common.{◌≡◌, ℕ, ◌+◌, ◌<◌, ◌≤◌, Bool, true, false, cond, List, [], ◌∷◌, ◌++◌, map, length, take, drop, set, get_or, refl, sym, ◌∙◌, ap, subst, append_assoc, append-nil, arith, length-append}
use Rattle.std.specs.Prelude.{Some}
use Rattle.std.proofs.lemmas.List.{map-append, take_more, drop_more, drop_all}
use Rattle.atomic_face.specs.Classes.{Bag}
use Rattle.run_model.specs.Cycle.{LeafState, leaf_next, leaf_emitted, collected_of}
use Rattle.run_model.specs.Run.{PortRecord, port_records, is_of_out}
use Rattle.text_forms.specs.declared.records.YRecord.{YRecord}
use Rattle.text_forms.specs.Held.{y_at}
use Rattle.sparse_cycle.specs.Sparse.{leaf_of}
use Rattle.sparse_cycle.specs.Collect.{Collected, and_given, giver_in, y_of, n_of, collect_each, CanCollect}
use Rattle.cycle_steps.specs.Gathering.{Collects, value_count}

-- these lists, and then what is left to collect, are all
pub record Gathers (t : ℕ) (all rest : Collected) (y n : List YRecord) (givers : List ℕ) : Type 0 where
  pub y_is : map (y_at t) all.y ≡ y ++ map (y_at t) rest.y
  pub n_is : map (y_at t) all.n ≡ n ++ map (y_at t) rest.n
  pub givers_is : all.givers ≡ givers ++ rest.givers
  pub states_is : all.leaf_states ≡ rest.leaf_states

pub more : {A B : Type 0} (f : A → B) (old : List B) (here rest : List A) (all new : List B) → all ≡ old ++ map f (here ++ rest) → new ≡ old ++ map f here → all ≡ new ++ map f rest
more f old here rest all new is so =
    is ∙ ap (λ xs. old ++ xs) (map-append f here rest) ∙ sym (append_assoc old (map f here) (map f rest)) ∙ ap (λ xs. xs ++ map f rest) (sym so)

pub gathers-more : (t leaf : ℕ) (bag : Bag) (all rest : Collected) (y n y' n' : List YRecord) (givers givers' : List ℕ)
    → Gathers t all (and_given leaf bag rest) y n givers
    → y' ≡ y ++ map (y_at t) (y_of (port_records (leaf, bag))) → n' ≡ n ++ map (y_at t) (n_of (port_records (leaf, bag))) → givers' ≡ givers ++ giver_in leaf bag
    → Gathers t all rest y' n' givers'
gathers-more t leaf bag all rest y n y' n' givers givers' h ys ns gs =
    record {
      y_is = more (y_at t) y (y_of (port_records (leaf, bag))) rest.y (map (y_at t) all.y) y' h.y_is ys;
      n_is = more (y_at t) n (n_of (port_records (leaf, bag))) rest.n (map (y_at t) all.n) n' h.n_is ns;
      givers_is = h.givers_is ∙ sym (append_assoc givers (giver_in leaf bag) rest.givers) ∙ ap (λ ls. ls ++ rest.givers) (sym gs);
      states_is = h.states_is;
    }

one-counts : (b : Bool) (r : PortRecord) (y n : List PortRecord) (k : ℕ) → length y + length n ≡ k → length (cond b (r ∷ y) y) + length (cond (not b) (r ∷ n) n) ≡ k + 1
one-counts true r y n k is = omega (arith, is)
one-counts false r y n k is = omega (arith, is)

bag-counts : (leaf : ℕ) (bag : Bag) → length (y_of (port_records (leaf, bag))) + length (n_of (port_records (leaf, bag))) ≡ length bag
bag-counts leaf [] = refl
bag-counts leaf (o ∷ os) =
    let r : PortRecord = record { leaf = leaf; port = o.0.0; value = o.1 } in
    one-counts (is_of_out r) r (y_of (port_records (leaf, os))) (n_of (port_records (leaf, os))) (length os) (bag-counts leaf os) ∙ omega arith

pub values-more : (leaf : ℕ) (bag : Bag) (rest : Collected) → value_count (and_given leaf bag rest) ≡ length bag + value_count rest
values-more leaf bag rest =
    let all = bag-counts leaf bag in
    let y = length-append (y_of (port_records (leaf, bag))) rest.y in
    let n = length-append (n_of (port_records (leaf, bag))) rest.n in
    omega (arith, all, y, n)

-- ---- in the loop over due leaves

rest-is : (t i : ℕ) (due : List ℕ) (now next : List LeafState) → i < length due → next ≡ set now (get_or due i 0) (leaf_emitted t (leaf_of now (get_or due i 0)))
    → collect_each t (drop i due) now ≡ and_given (get_or due i 0) (collected_of t (leaf_of now (get_or due i 0))) (collect_each t (drop (i + 1) due) next)
rest-is t i due now next lt is =
    let l = get_or due i 0 in
    ap (λ ls. collect_each t ls now) (drop_more due i 0 lt)
    ∙ ap (λ st. and_given l (collected_of t (leaf_of now l)) (collect_each t (drop (i + 1) due) st)) (sym is)

pub collects-more : (t i : ℕ) (due : List ℕ) (now next : List LeafState) (all : Collected) (y n y' n' : List YRecord) (givers givers' : List ℕ) (bag again : Bag)
    → i < length due → next ≡ set now (get_or due i 0) (leaf_emitted t (leaf_of now (get_or due i 0)))
    → bag ≡ collected_of t (leaf_of now (get_or due i 0)) → again ≡ collected_of t (leaf_of now (get_or due i 0))
    → Gathers t all (collect_each t (drop i due) now) y n givers
    → y' ≡ y ++ map (y_at t) (y_of (port_records (get_or due i 0, bag))) → n' ≡ n ++ map (y_at t) (n_of (port_records (get_or due i 0, bag))) → givers' ≡ givers ++ giver_in (get_or due i 0) again
    → Gathers t all (collect_each t (drop (i + 1) due) next) y' n' givers'
collects-more t i due now next all y n y' n' givers givers' bag again lt is given same h ys ns gs =
    let l = get_or due i 0 in
    gathers-more t l (collected_of t (leaf_of now l)) all (collect_each t (drop (i + 1) due) next) y n y' n' givers givers'
    (subst (λ (c : Collected). Gathers t all c y n givers) (rest-is t i due now next lt is) h)
    (ys ∙ ap (λ (b : Bag). y ++ map (y_at t) (y_of (port_records (l, b)))) given)
    (ns ∙ ap (λ (b : Bag). n ++ map (y_at t) (n_of (port_records (l, b)))) given)
    (gs ∙ ap (λ (b : Bag). givers ++ giver_in l b) same)

pub visits-more : (t i : ℕ) (due : List ℕ) (now next : List LeafState) (v v' bound : ℕ) → i < length due → next ≡ set now (get_or due i 0) (leaf_emitted t (leaf_of now (get_or due i 0)))
    → v + value_count (collect_each t (drop i due) now) ≤ bound → v' ≤ v + length (collected_of t (leaf_of now (get_or due i 0)))
    → v' + value_count (collect_each t (drop (i + 1) due) next) ≤ bound
visits-more t i due now next v v' bound lt is h more =
    let l = get_or due i 0 in
    let total = ap value_count (rest-is t i due now next lt is) ∙ values-more l (collected_of t (leaf_of now l)) (collect_each t (drop (i + 1) due) next) in
    omega (arith, total, h, more)

pub visits-end : (t i : ℕ) (due : List ℕ) (now : List LeafState) (v v' bound : ℕ) → i < length due
    → v + value_count (collect_each t (drop i due) now) ≤ bound → v' ≤ v + length (collected_of t (leaf_of now (get_or due i 0))) → v' ≤ bound
visits-end t i due now v v' bound lt h more =
    let next = set now (get_or due i 0) (leaf_emitted t (leaf_of now (get_or due i 0))) in
    let whole = visits-more t i due now next v v' bound lt refl h more in
    omega (arith, whole)

pub can-more : (t i : ℕ) (due : List ℕ) (now next : List LeafState) → i < length due → next ≡ set now (get_or due i 0) (leaf_emitted t (leaf_of now (get_or due i 0)))
    → CanCollect t (drop i due) now → CanCollect t (drop (i + 1) due) next
can-more t i due now next lt is h =
    let here = subst (λ (ls : List ℕ). CanCollect t ls now) (drop_more due i 0 lt) h in
    subst (CanCollect t (drop (i + 1) due)) (sym is) here.1

gave-one : (t : ℕ) (ls : List ℕ) (l : ℕ) (states : List LeafState)
    → (collect_each t (ls ++ l ∷ []) states).leaf_states ≡ set (collect_each t ls states).leaf_states l (leaf_emitted t (leaf_of (collect_each t ls states).leaf_states l))
gave-one t [] l states = refl
gave-one t (x ∷ xs) l states = gave-one t xs l (set states x (leaf_emitted t (leaf_of states x)))

pub gave-more : (t i : ℕ) (due : List ℕ) (old now next : List LeafState) → i < length due → now ≡ (collect_each t (take i due) old).leaf_states
    → next ≡ set now (get_or due i 0) (leaf_emitted t (leaf_of now (get_or due i 0))) → next ≡ (collect_each t (take (i + 1) due) old).leaf_states
gave-more t i due old now next lt here is =
    let l = get_or due i 0 in
    is ∙ ap (λ (at : List LeafState). set at l (leaf_emitted t (leaf_of at l))) here ∙ sym (gave-one t (take i due) l old)
    ∙ ap (λ (ls : List ℕ). (collect_each t ls old).leaf_states) (sym (take_more due i 0 lt))

-- ---- at the loop's start and at its end

pub gathers-start : (t : ℕ) (all : Collected) (y n : List YRecord) (givers : List ℕ) → y ≡ [] → n ≡ [] → givers ≡ [] → Gathers t all all y n givers
gathers-start t all y n givers ys ns gs =
    record {
      y_is = ap (λ rs. rs ++ map (y_at t) all.y) (sym ys);
      n_is = ap (λ rs. rs ++ map (y_at t) all.n) (sym ns);
      givers_is = ap (λ ls. ls ++ all.givers) (sym gs);
      states_is = refl;
    }

pub due-here : (t i : ℕ) (due : List ℕ) (now : List LeafState) → i < length due → CanCollect t (drop i due) now → leaf_next (leaf_of now (get_or due i 0)) ≡ Some t
due-here t i due now lt h = (subst (λ (ls : List ℕ). CanCollect t ls now) (drop_more due i 0 lt) h).0

pub collects-end : (t i : ℕ) (due : List ℕ) (now : List LeafState) (all : Collected) (y n : List YRecord) (givers : List ℕ) → length due ≤ i → Gathers t all (collect_each t (drop i due) now) y n givers → Collects t all y n givers now
collects-end t i due now all y n givers past h =
    let e = subst (λ (ls : List ℕ). Gathers t all (collect_each t ls now) y n givers) (drop_all i due past) h in
    record {
      y_is = sym (e.y_is ∙ append-nil y);
      n_is = sym (e.n_is ∙ append-nil n);
      givers_is = sym (e.givers_is ∙ append-nil givers);
      states_is = sym e.states_is;
    }

pub visits-within : (v w bound : ℕ) → v + w ≤ bound → v ≤ bound
visits-within v w bound h = omega (arith, h)

pub same-bound : (v : ℕ) → v ≤ v
same-bound v = omega arith
