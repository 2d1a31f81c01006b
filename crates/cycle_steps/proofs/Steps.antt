-- One step of a walk more.
use Rattle.std.proofs.Common.{◌≡◌, ℕ, ◌+◌, ◌<◌, ◌≤◌, Option, List, [], ◌∷◌, ◌++◌, map, length, drop, set, get_or, inl, inr, refl, sym, ◌∙◌, ap, subst, append_assoc, append-nil, arith}
use Rattle.std.specs.Prelude.{Ok, Err}
use Rattle.std.specs.List.{sum_by}
use Rattle.std.specs.declared.result.Result.{Result}
use Rattle.std.proofs.lemmas.List.{map-append, drop_more, drop_all}
use Rattle.std.proofs.lemmas.List.Sums.{sum_by-cons}
use Rattle.model_tree.specs.Tree.{Tree}
use Rattle.run_model.specs.Cycle.{LeafState, leaf_next, Moved, stayed, moved, stopped, after}
use Rattle.run_model.specs.Run.{PortRecord, StateRecord, computed_of}
use Rattle.text_forms.specs.declared.records.SRecord.{SRecord}
use Rattle.text_forms.specs.declared.records.XRecord.{XRecord}
use Rattle.text_forms.specs.Held.{s_at}
use Rattle.sparse_cycle.specs.Sparse.{leaf_of, move_at}
use Rattle.sparse_cycle.specs.Walk.{with_leaf, Walked, stopped_walk, walked, unless_stopped, and_record, leaf_walk}
use Rattle.cycle_steps.specs.declared.told.Told.{Told}
use Rattle.run_model.specs.declared.stop.Stop.TheVariants.{Memory}
use Rattle.run_model.specs.declared.stop.Stop.{Stop}
use Rattle.run_model.specs.Stopping.{stop_of_rules, stop_of_leaf}
use Rattle.cycle_steps.specs.Untimed.{x_records}
use Rattle.run_model.specs.declared.stop.LeafStop.TheVariants as leaf
use Rattle.run_model.specs.declared.stop.LeafStop.{LeafStop}
use Rattle.cycle_steps.specs.Moving.{Moves, stand_of, WalksTo}
use Rattle.cycle_steps.specs.Stepping.{StepsOne}

-- ---- one step

abbrev pub told_record : ℕ → ℕ → Told → SRecord
told_record t l told = record { time = t; leaf = l; value = told.value; next = told.next }

record-is : (t l : ℕ) (told : Told) (x : LeafState) → told.value ≡ computed_of x → told.next ≡ leaf_next x → told_record t l told ≡ s_at t (record { leaf = l; value = computed_of x; next = leaf_next x })
record-is t l told x value next = λ i. record { time = t; leaf = l; value = value i; next = next i }

pub step-moves : (U : Type 0) (t l : ℕ) (old new : List LeafState) (w w' : List (Option ℕ)) (s s' : List SRecord) (told : Told) (m : Moved) (u : U)
    → Moves old new l m (Ok told) → w' ≡ set w l told.next → s' ≡ s ++ told_record t l told ∷ []
    → (let r : Result U Stop = Ok u in StepsOne t old new w w' s s' l m r)
step-moves U t l old new w w' s s' told stayed u h waits records = absurd h
step-moves U t l old new w w' s s' told (moved x) u h waits records =
    record {
      states_are = h.states_are;
      waiting_are = waits ∙ ap (set w l) h.next_is;
      records_are = records ∙ ap (λ r. s ++ r ∷ []) (record-is t l told x h.value_is h.next_is);
    }
step-moves U t l old new w w' s s' told (stopped why) u h waits records = absurd h

pub step-memory : (U : Type 0) (t l : ℕ) (old new : List LeafState) (w w' : List (Option ℕ)) (s s' : List SRecord) (m : Moved) → (let r : Result U Stop = Err Memory in StepsOne t old new w w' s s' l m r)
step-memory U t l old new w w' s s' stayed = refl
step-memory U t l old new w w' s s' (moved x) = refl
step-memory U t l old new w w' s s' (stopped why) = inr refl

pub step-stops : (U : Type 0) (t l : ℕ) (old new : List LeafState) (w w' : List (Option ℕ)) (s s' : List SRecord) (why : LeafStop) (m : Moved) → Moves old new l m (Err why)
    → (let r : Result U Stop = Err (stop_of_leaf l t why) in StepsOne t old new w w' s s' l m r)
step-stops U t l old new w w' s s' (leaf.Rule stop) stayed h = absurd h
step-stops U t l old new w w' s s' (leaf.Rule stop) (moved x) h = absurd h
step-stops U t l old new w w' s s' (leaf.Rule stop) (stopped why) h = inl (ap (stop_of_rules l t) h)
step-stops U t l old new w w' s s' leaf.Memory m h = step-memory U t l old new w w' s s' m

-- what is fed may be named by any list that is the same
pub fed-same : (U : Type 0) (tree : Tree) (t : ℕ) (given : List PortRecord) (old new : List LeafState) (w w' : List (Option ℕ)) (s s' : List SRecord) (l : ℕ) (r : Result U Stop) (xs ys : List XRecord) → xs ≡ ys
    → StepsOne t old new w w' s s' l (move_at tree t old given (x_records xs) l) r → StepsOne t old new w w' s s' l (move_at tree t old given (x_records ys) l) r
fed-same U tree t given old new w w' s s' l r xs ys same h = subst (λ (fed : List XRecord). StepsOne t old new w w' s s' l (move_at tree t old given (x_records fed) l) r) same h

-- ---- the walk

-- these S records, and then what a walk comes to
abbrev pub before : List StateRecord → Walked → Walked
before rs (stopped_walk l why) = stopped_walk l why
before rs (walked st more) = walked st (rs ++ more)

-- the records so far, and what is left to walk, are all
pub record WalksOn (t : ℕ) (all rest : Walked) (s : List SRecord) : Type 0 where
  pub records : List StateRecord
  pub records_are : s ≡ map (s_at t) records
  pub all_is : all ≡ before records rest

module _ (tree : Tree) (t : ℕ) (given fed : List PortRecord) where
  abbrev pub walk_from : List ℕ → List LeafState → List (Option ℕ) → Walked
  walk_from ls states waiting = leaf_walk tree t given fed ls (stand_of states waiting)

  push-record : (rs : List StateRecord) (l : ℕ) (x : LeafState) (w : Walked) → before rs (and_record l (moved x) w) ≡ before (rs ++ record { leaf = l; value = computed_of x; next = leaf_next x } ∷ []) w
  push-record rs l x (stopped_walk k why) = refl
  push-record rs l x (walked st more) = ap (walked st) (sym (append_assoc rs (record { leaf = l; value = computed_of x; next = leaf_next x } ∷ []) more))

  moved-on : (U : Type 0) (l : ℕ) (ls : List ℕ) (all : Walked) (old new : List LeafState) (w w' : List (Option ℕ)) (s s' : List SRecord) (m : Moved) (u : U)
      → WalksOn t all (unless_stopped l m (λ m. and_record l m (leaf_walk tree t given fed ls (with_leaf (stand_of old w) l (after (leaf_of old l) m))))) s
      → (let r : Result U Stop = Ok u in StepsOne t old new w w' s s' l m r) → WalksOn t all (walk_from ls new w') s'
  moved-on U l ls all old new w w' s s' stayed u on h = absurd h
  moved-on U l ls all old new w w' s s' (moved x) u on h =
      record {
        records = on.records ++ record { leaf = l; value = computed_of x; next = leaf_next x } ∷ [];
        records_are = h.records_are ∙ ap (λ rs. rs ++ map (s_at t) (record { leaf = l; value = computed_of x; next = leaf_next x } ∷ [])) on.records_are
            ∙ sym (map-append (s_at t) on.records (record { leaf = l; value = computed_of x; next = leaf_next x } ∷ []));
        all_is = on.all_is ∙ push-record on.records l x (leaf_walk tree t given fed ls (with_leaf (stand_of old w) l x))
            ∙ (λ i. before (on.records ++ record { leaf = l; value = computed_of x; next = leaf_next x } ∷ []) (leaf_walk tree t given fed ls (stand_of (sym h.states_are i) (sym h.waiting_are i))));
      }
  moved-on U l ls all old new w w' s s' (stopped why) u on h = absurd h

  pub walks-more : (U : Type 0) (i : ℕ) (ls : List ℕ) (all : Walked) (old new : List LeafState) (w w' : List (Option ℕ)) (s s' : List SRecord) (u : U) → i < length ls
      → WalksOn t all (walk_from (drop i ls) old w) s
      → (let r : Result U Stop = Ok u in StepsOne t old new w w' s s' (get_or ls i 0) (move_at tree t old given fed (get_or ls i 0)) r)
      → WalksOn t all (walk_from (drop (i + 1) ls) new w') s'
  walks-more U i ls all old new w w' s s' u lt on h =
      moved-on U (get_or ls i 0) (drop (i + 1) ls) all old new w w' s s' (move_at tree t old given fed (get_or ls i 0)) u
      (subst (λ (ks : List ℕ). WalksOn t all (walk_from ks old w) s) (drop_more ls i 0 lt) on) h

  pub no-memory : (U : Type 0) (all : Walked) (new : List LeafState) (w : List (Option ℕ)) (s : List SRecord) → (let r : Result U Stop = Err Memory in WalksTo t all new w s r)
  no-memory U (stopped_walk l why) new w s = inr refl
  no-memory U (walked st rs) new w s = refl

  memory-ends : (U : Type 0) (all : Walked) (new : List LeafState) (w : List (Option ℕ)) (s : List SRecord) (stop : Stop) → stop ≡ Memory → (let r : Result U Stop = Err stop in WalksTo t all new w s r)
  memory-ends U all new w s stop is =
      subst (λ (x : Stop). let r : Result U Stop = Err x in WalksTo t all new w s r) (sym is) (no-memory U all new w s)

  stops-by : (U : Type 0) (l : ℕ) (go : Moved → Walked) (all : Walked) (old new : List LeafState) (w w' : List (Option ℕ)) (s s' now : List SRecord) (m : Moved) (why : Stop)
      → WalksOn t all (unless_stopped l m go) now → (let r : Result U Stop = Err why in StepsOne t old new w w' s s' l m r) → (let r : Result U Stop = Err why in WalksTo t all new w' s' r)
  stops-by U l go all old new w w' s s' now stayed stop on h = memory-ends U all new w' s' stop h
  stops-by U l go all old new w w' s s' now (moved x) stop on h = memory-ends U all new w' s' stop h
  stops-by U l go all old new w w' s s' now (stopped why) stop on h =
      subst (λ (a : Walked). let r : Result U Stop = Err stop in WalksTo t a new w' s' r) (sym on.all_is) h

  pub stops-here : (U : Type 0) (i : ℕ) (ls : List ℕ) (all : Walked) (old new : List LeafState) (w w' : List (Option ℕ)) (s s' : List SRecord) (why : Stop) → i < length ls
      → WalksOn t all (walk_from (drop i ls) old w) s
      → (let r : Result U Stop = Err why in StepsOne t old new w w' s s' (get_or ls i 0) (move_at tree t old given fed (get_or ls i 0)) r)
      → (let r : Result U Stop = Err why in WalksTo t all new w' s' r)
  stops-here U i ls all old new w w' s s' why lt on h =
      let l = get_or ls i 0 in
      stops-by U l (λ m. and_record l m (leaf_walk tree t given fed (drop (i + 1) ls) (with_leaf (stand_of old w) l (after (leaf_of old l) m)))) all old new w w' s s' s (move_at tree t old given fed l) why
      (subst (λ (ks : List ℕ). WalksOn t all (walk_from ks old w) s) (drop_more ls i 0 lt) on) h

  pub all-walked : (U : Type 0) (all : Walked) (new : List LeafState) (w : List (Option ℕ)) (s : List SRecord) (u : U) → WalksOn t all (walk_from [] new w) s → (let r : Result U Stop = Ok u in WalksTo t all new w s r)
  all-walked U all new w s u on =
      subst (λ (a : Walked). let r : Result U Stop = Ok u in WalksTo t a new w s r) (sym on.all_is) (refl, on.records_are ∙ ap (map (s_at t)) (sym (append-nil on.records)))

  pub walked-all : (U : Type 0) (i : ℕ) (ls : List ℕ) (all : Walked) (new : List LeafState) (w : List (Option ℕ)) (s : List SRecord) (u : U) → length ls ≤ i
      → WalksOn t all (walk_from (drop i ls) new w) s → (let r : Result U Stop = Ok u in WalksTo t all new w s r)
  walked-all U i ls all new w s u past on = all-walked U all new w s u (subst (λ (ks : List ℕ). WalksOn t all (walk_from ks new w) s) (drop_all i ls past) on)

  pub at-start : (all : Walked) (s : List SRecord) → s ≡ [] → WalksOn t all all s
  at-start (stopped_walk l why) s none = record { records = []; records_are = none; all_is = refl }
  at-start (walked st rs) s none = record { records = []; records_are = none; all_is = refl }

-- ---- visits

pub visits-more : (most : ℕ → ℕ) (i : ℕ) (ls : List ℕ) (v v' bound : ℕ) → i < length ls → v + sum_by most (drop i ls) ≤ bound → v' ≤ v + most (get_or ls i 0) → v' + sum_by most (drop (i + 1) ls) ≤ bound
visits-more most i ls v v' bound lt h more =
    let total = ap (sum_by most) (drop_more ls i 0 lt) in
    let first = sum_by-cons most (get_or ls i 0) (drop (i + 1) ls) in
    omega (arith, total, first, h, more)

pub visits-end : (most : ℕ → ℕ) (i : ℕ) (ls : List ℕ) (v v' bound : ℕ) → i < length ls → v + sum_by most (drop i ls) ≤ bound → v' ≤ v + most (get_or ls i 0) → v' ≤ bound
visits-end most i ls v v' bound lt h more =
    let whole = visits-more most i ls v v' bound lt h more in
    omega (arith, whole)

pub visits-within : (v w bound : ℕ) → v + w ≤ bound → v ≤ bound
visits-within v w bound h = omega (arith, h)
