-- What the first half of a cycle comes to, in the words of the sparse cycle.
use Rattle.std.proofs.Common.{◌≡◌, ℕ, zero, suc, ◌+◌, ◌<◌, Bool, true, false, cond, ◌||◌, eqb, List, [], ◌∷◌, ◌++◌, map, length, replicate, get_or, set, length-set, refl, sym, ◌∙◌, ap, subst, arith}
use Rattle.std.specs.Prelude.{slice_get, unwrap_or}
use Rattle.std.specs.List.{All, AllByRecursion, filter, cons_option, flat_map, list_any, range_with_len}
use Rattle.std.specs.List.Sorted.{IsNonDecreasingBy}
use Rattle.std.specs.Str.{bytes_eq}
use Rattle.std.proofs.lemmas.List.FromFn.{length-range_with_len, get_or-range_with_len}
use Rattle.std.proofs.lemmas.List.Elements.{All-filter}
use Rattle.std.proofs.lemmas.List.{map-append}
use Rattle.quantity.specs.declared.value.Value.{Value}
use Rattle.model_leaves.specs.declared.path.Path.{Path}
use Rattle.model_leaves.specs.declared.path.Source.{Source}
use Rattle.model_leaves.specs.declared.path.Source.TheVariants.{Leaf, TopIn}
use Rattle.model_leaves.specs.declared.path.TargetPort.{TargetPort}
use Rattle.model_leaves.specs.declared.path.TargetPort.TheVariants as target
use Rattle.model_tree.specs.Tree.{Word, Tree, ins_of, leaves}
use Rattle.model_tree.specs.Pull as pull
use Rattle.model_leaves.specs.Numbered.{source_by_name}
use Rattle.run_model.specs.Cycle.{LeafState, leaf_emitted}
use Rattle.run_model.specs.Run.{PortRecord, OutRecord, RunState, Event, at_top}
use Rattle.text_forms.specs.declared.records.YRecord.{YRecord}
use Rattle.text_forms.specs.declared.records.XRecord.{XRecord}
use Rattle.text_forms.specs.declared.records.Records.{Records}
use Rattle.text_forms.specs.Held.{y_at, x_at, out_at}
use Rattle.leaf_set.specs.Members.{is_in}
use Rattle.sparse_cycle.specs.Sparse as sparse
use Rattle.sparse_cycle.specs.Sparse.{leaf_of, over, due_leaves, given_among, emitted_among, gave_there, is_woken_at, touched_leaves, from_source, has_some, brings, fed_by, fed_among, out_by, out_among, cycle_parts}
use Rattle.sparse_cycle.specs.Collect.{y_of, n_of, GiversGave}
use Rattle.sparse_cycle.specs.Wake.{reached_leaves, watches_at, GiversWake, ReachedAreTouched}
use Rattle.sparse_cycle.specs.Feed.{input_name, inputs_at, AreDistinct, AreAtInputs, TopByNumber, YShowsGiven}
use Rattle.cycle_steps.specs.Untimed.{y_records, x_records, y_record}
use Rattle.cycle_steps.specs.Gathering.{Collects}
use Rattle.cycle_steps.specs.Watching.{watches_any}
use Rattle.cycle_steps.specs.Routed.{path_at, numbers, reaches, values_at, fed_to, out_to, fed_in, out_in}
use Rattle.cycle_steps.specs.Paths.{to_leaf, to_top, leaf_paths, top_paths, IsThere, IsPortOf}
use Rattle.cycle_steps.specs.Half.{due_give, IsRunOf, HalfOf}

-- ---- records without their times

pub y-untimed : (t : ℕ) (rs : List PortRecord) → y_records (map (y_at t) rs) ≡ rs
y-untimed t [] = refl
y-untimed t (r ∷ rs) = ap (λ xs. r ∷ xs) (y-untimed t rs)

pub x-untimed : (t : ℕ) (rs : List PortRecord) → x_records (map (x_at t) rs) ≡ rs
x-untimed t [] = refl
x-untimed t (r ∷ rs) = ap (λ xs. r ∷ xs) (x-untimed t rs)

timed-long : (t : ℕ) (rs : List PortRecord) → length (map (y_at t) rs) ≡ length rs
timed-long t [] = refl
timed-long t (r ∷ rs) = ap suc (timed-long t rs)

timed-at : (t : ℕ) (rs : List PortRecord) (i : ℕ) (d : YRecord) (e : PortRecord) → i < length rs → get_or (map (y_at t) rs) i d ≡ y_at t (get_or rs i e)
timed-at t [] i d e lt = absurd (omega (arith, lt))
timed-at t (r ∷ rs) zero d e lt = refl
timed-at t (r ∷ rs) (suc i) d e lt = timed-at t rs i d e (omega (arith, lt))

pub timed-rise : (t : ℕ) (rs : List PortRecord) → IsNonDecreasingBy (λ (r : PortRecord). r.leaf) rs → IsNonDecreasingBy (λ (r : YRecord). r.leaf) (map (y_at t) rs)
timed-rise t rs h i j d le lt =
    let within : j < length rs = omega (arith, lt, timed-long t rs) in
    let e = y_record d in
    let a = ap (λ (r : YRecord). r.leaf) (timed-at t rs i d e (omega (arith, le, within))) in
    let b = ap (λ (r : YRecord). r.leaf) (timed-at t rs j d e within) in
    let low = h i j e le within in
    omega (arith, a, b, low)

-- ---- paths by their numbers

pub flat-first : {A B : Type 0} (f : A → List B) (b : Bool) (x : A) (xs : List A) → flat_map f (cond b (x ∷ xs) xs) ≡ cond b (f x) [] ++ flat_map f xs
flat-first f true x xs = refl
flat-first f false x xs = refl

one-number : {B : Type 0} (f : Path → List B) (all : List Path) (p : Path) (k : ℕ) (ks : List ℕ) (ps : List Path) (b : Bool) → path_at all k ≡ p
    → flat_map (λ k. f (path_at all k)) ks ≡ flat_map f ps → flat_map (λ k. f (path_at all k)) (cond b (k ∷ ks) ks) ≡ flat_map f (cond b (p ∷ ps) ps)
one-number f all p k ks ps true is rest = λ i. f (is i) ++ rest i
one-number f all p k ks ps false is rest = rest

by-number : {B : Type 0} (f : Path → List B) (test : Path → Bool) (all ps : List Path) (k : ℕ) → ((j n : ℕ) → n ≡ k + j → path_at all n ≡ path_at ps j)
    → flat_map (λ k. f (path_at all k)) (filter (λ n. test (path_at all n)) (range_with_len k (length ps))) ≡ flat_map f (filter test ps)
by-number f test all [] k at = refl
by-number f test all (p ∷ ps) k at =
    let here = at 0 k (omega arith) in
    let ks = filter (λ n. test (path_at all n)) (range_with_len (k + 1) (length ps)) in
    (λ i. flat_map (λ k. f (path_at all k)) (cond (test (here i)) (k ∷ ks) ks))
    ∙ one-number f all p k ks (filter test ps) (test p) here (by-number f test all ps (k + 1) (λ j n is. at (suc j) n (omega (arith, is))))

pub in-order : {B : Type 0} (f : Path → List B) (test : Path → Bool) (ps : List Path) → flat_map (λ k. f (path_at ps k)) (numbers test ps) ≡ flat_map f (filter test ps)
in-order f test ps = by-number f test ps ps 0 (λ j n is. let same : n ≡ j = omega (arith, is) in ap (path_at ps) same)

pub filtered-within : (test : ℕ → Bool) (n : ℕ) → All (λ k. k < n) (filter test (range_with_len 0 n))
filtered-within test n = All-filter test (λ k. k < n) (range_with_len 0 n) (λ k d lt.
    let short : k < n = omega (arith, lt, length-range_with_len 0 n) in
    omega (arith, short, get_or-range_with_len 0 n k d short))

-- ---- what is brought

any-none : {A : Type 0} (xs : List A) → list_any (λ (x : A). false) xs ≡ false
any-none [] = refl
any-none (x ∷ xs) = any-none xs

or-false : (b : Bool) → (b || false) ≡ b
or-false true = refl
or-false false = refl

some-by : {A : Type 0} (f : A → Value) (b : Bool) (x : A) (xs : List A) → has_some (map f (cond b (x ∷ xs) xs)) ≡ (b || has_some (map f xs))
some-by f true x xs = refl
some-by f false x xs = refl

some-any : {A : Type 0} (f : A → Value) (test : A → Bool) (xs : List A) → has_some (map f (filter test xs)) ≡ list_any test xs
some-any f test [] = refl
some-any f test (x ∷ xs) = some-by f (test x) x (filter test xs) ∙ ap (λ b. test x || b) (some-any f test xs)

from-source : (y : List PortRecord) (inputs : List (ℕ × Value)) (to : TargetPort) (s : Source) → reaches y inputs (record { from = s; to = to }) ≡ has_some (values_at y inputs s)
from-source y inputs to (Leaf l) =
    ap (λ b. list_any (λ (r : PortRecord). eqb r.leaf l) y || b) (any-none inputs)
    ∙ or-false (list_any (λ (r : PortRecord). eqb r.leaf l) y)
    ∙ sym (some-any (λ (r : PortRecord). r.value) (λ (r : PortRecord). eqb r.leaf l) y)
from-source y inputs to (TopIn k) =
    ap (λ b. b || list_any (λ (e : ℕ × Value). eqb e.0 k) inputs) (any-none y)
    ∙ sym (some-any (λ (e : ℕ × Value). e.1) (λ (e : ℕ × Value). eqb e.0 k) inputs)

same-either : {A : Type 0} (b : Bool) (xs : List A) → cond b xs xs ≡ xs
same-either true xs = refl
same-either false xs = refl

module _ (from : pull.Source → List Value) where
  one-fed : (to : TargetPort) (s : pull.Source) (vs : List Value) (b : Bool) (rest : List PortRecord) (more : List sparse.Path) → vs ≡ from s → b ≡ has_some vs → rest ≡ fed_among from (filter (brings from) more)
      → cond b (fed_to to vs) [] ++ rest ≡ fed_among from (filter (brings from) (cons_option (to_leaf to s) more))
  one-fed (target.Leaf l port) s vs b rest more is reaching so =
      (λ i. cond ((reaching ∙ ap has_some is) i) (fed_to (target.Leaf l port) (is i)) [] ++ so i)
      ∙ sym (flat-first (fed_by from) (has_some (from s)) (record { to = l; port = port.0; source = s }) (filter (brings from) more))
  one-fed (target.TopOut k) s vs b rest more is reaching so = ap (λ rs. rs ++ rest) (same-either b []) ∙ so

  one-out : (to : TargetPort) (s : pull.Source) (vs : List Value) (b : Bool) (rest : List OutRecord) (more : List sparse.Path) → vs ≡ from s → b ≡ has_some vs → rest ≡ out_among from (filter (brings from) more)
      → cond b (out_to to vs) [] ++ rest ≡ out_among from (filter (brings from) (cons_option (to_top to s) more))
  one-out (target.Leaf l port) s vs b rest more is reaching so = ap (λ rs. rs ++ rest) (same-either b []) ∙ so
  one-out (target.TopOut k) s vs b rest more is reaching so =
      (λ i. cond ((reaching ∙ ap has_some is) i) (out_to (target.TopOut k) (is i)) [] ++ so i)
      ∙ sym (flat-first (out_by from) (has_some (from s)) (record { to = 0; port = k; source = s }) (filter (brings from) more))

  module _ (ins : List Word) (y : List PortRecord) (inputs : List (ℕ × Value)) (same : (w : Source) → IsThere ins w → values_at y inputs w ≡ from (source_by_name ins w)) where
    pub fed-by-paths : (ps : List Path) → All (λ (p : Path). IsThere ins p.from) ps → flat_map (λ (p : Path). fed_to p.to (values_at y inputs p.from)) (filter (reaches y inputs) ps) ≡ fed_among from (filter (brings from) (leaf_paths ins ps))
    fed-by-paths [] there = refl
    fed-by-paths (p ∷ ps) there =
        let f = λ (p : Path). fed_to p.to (values_at y inputs p.from) in
        flat-first f (reaches y inputs p) p (filter (reaches y inputs) ps)
        ∙ one-fed p.to (source_by_name ins p.from) (values_at y inputs p.from) (reaches y inputs p) (flat_map f (filter (reaches y inputs) ps)) (leaf_paths ins ps)
        (same p.from (there 0 p (omega arith))) (from-source y inputs p.to p.from) (fed-by-paths ps (λ k d lt. there (suc k) d (omega (arith, lt))))

    pub out-by-paths : (ps : List Path) → All (λ (p : Path). IsThere ins p.from) ps → flat_map (λ (p : Path). out_to p.to (values_at y inputs p.from)) (filter (reaches y inputs) ps) ≡ out_among from (filter (brings from) (top_paths ins ps))
    out-by-paths [] there = refl
    out-by-paths (p ∷ ps) there =
        let f = λ (p : Path). out_to p.to (values_at y inputs p.from) in
        flat-first f (reaches y inputs p) p (filter (reaches y inputs) ps)
        ∙ one-out p.to (source_by_name ins p.from) (values_at y inputs p.from) (reaches y inputs p) (flat_map f (filter (reaches y inputs) ps)) (top_paths ins ps)
        (same p.from (there 0 p (omega arith))) (from-source y inputs p.to p.from) (out-by-paths ps (λ k d lt. there (suc k) d (omega (arith, lt))))

-- ---- what stands at a source

input-by : (ins : List Word) (k : ℕ) (inputs : List (ℕ × Value)) → AreDistinct ins → k < length ins → All (λ (e : ℕ × Value). e.0 < length ins) inputs
    → filter (λ (e : ℕ × Value). bytes_eq (input_name ins k) (input_name ins e.0)) inputs ≡ filter (λ (e : ℕ × Value). eqb e.0 k) inputs
input-by ins k [] distinct lt within = refl
input-by ins k (e ∷ es) distinct lt within =
    let here : bytes_eq (input_name ins k) (input_name ins e.0) ≡ eqb e.0 k = distinct k e.0 lt (within 0 e (omega arith)) in
    let rest = input-by ins k es distinct lt (λ j d less. within (suc j) d (omega (arith, less))) in
    λ i. cond (here i) (e ∷ rest i) (rest i)

all-pairs : (n : ℕ) (es : List Event) → All (λ (e : Event). e.port < n) es → All (λ (e : ℕ × Value). e.0 < n) (map (λ (e : Event). (e.port, e.value)) es)
all-pairs n [] h j d lt = absurd (omega (arith, lt))
all-pairs n (e ∷ es) h zero d lt = h 0 e (omega arith)
all-pairs n (e ∷ es) h (suc j) d lt = all-pairs n es (λ k d lt. h (suc k) d (omega (arith, lt))) j d (omega (arith, lt))

same-name : (ins : List Word) (k : ℕ) → input_name ins k ≡ unwrap_or (slice_get ins k) []
same-name [] k = refl
same-name (w ∷ ws) zero = refl
same-name (w ∷ ws) (suc k) = same-name ws k

module _ (shows : YShowsGiven) (top : TopByNumber) (tree : Tree) (t : ℕ) (s : RunState) (gave : List PortRecord) (distinct : AreDistinct (ins_of tree)) (within : AreAtInputs (ins_of tree) s.events) where
  pub sources-same : (w : Source) → IsThere (ins_of tree) w → values_at (y_of gave) (inputs_at t s.events) w ≡ from_source gave (at_top tree t s.events) (source_by_name (ins_of tree) w)
  sources-same (Leaf l) there = shows l gave
  sources-same (TopIn k) there =
      ap (map (λ (e : ℕ × Value). e.1)) (sym (input-by (ins_of tree) k (inputs_at t s.events) distinct there
      (all-pairs (length (ins_of tree)) (filter (λ (e : Event). eqb e.time t) s.events) (All-filter (λ (e : Event). eqb e.time t) (λ (e : Event). e.port < length (ins_of tree)) s.events within))))
      ∙ top tree t s.events (input_name (ins_of tree) k) distinct within
      ∙ ap (at_top tree t s.events) (same-name (ins_of tree) k)

-- ---- who is woken and touched

none-in : (n k : ℕ) → is_in (replicate n false) k ≡ false
none-in zero k = refl
none-in (suc n) zero = refl
none-in (suc n) (suc k) = none-in n k

pub only-these : (n : ℕ) (old new : List Bool) (test : ℕ → Bool) → old ≡ replicate n false → ((k : ℕ) → is_in new k ≡ (is_in old k || test k)) → (k : ℕ) → is_in new k ≡ test k
only-these n old new test calm marked k = marked k ∙ ap (λ b. b || test k) (ap (λ ms. is_in ms k) calm ∙ none-in n k)

pub woken-is : (wakes : GiversWake) (gives : GiversGave) (tree : Tree) (t : ℕ) (s : RunState) (states : List LeafState) (watches : ℕ → ℕ → Bool) → s.leaf_states ≡ states → ((k l : ℕ) → watches k l ≡ watches_at tree k l)
    → (k : ℕ) → watches_any watches (due_give t states).givers k ≡ is_woken_at (cycle_parts tree t s).given (slice_get (leaves tree) k)
woken-is wakes gives tree t s states watches same watch k =
    (λ i. list_any (λ l. watch k l i) (due_give t states).givers)
    ∙ wakes tree (given_among t states (due_leaves t states)) (due_give t states).givers (λ l. gives t l states (due_leaves t states)) k
    ∙ ap (λ ss. is_woken_at (given_among t ss (due_leaves t ss)) (slice_get (leaves tree) k)) (sym same)

-- ---- the parts

pub half-is : (wakes : GiversWake) (gives : GiversGave) (touches : ReachedAreTouched) (shows : YShowsGiven) (top : TopByNumber)
    (tree : Tree) (t : ℕ) (s : RunState) (states after : List LeafState) (inputs : List (ℕ × Value)) (ps : List Path) (watches : ℕ → ℕ → Bool)
    (records : Records) (givers due moving : List ℕ) (marked : List Bool)
    → IsRunOf tree t s states inputs ps watches → due ≡ due_leaves t states
    → Collects t (due_give t states) records.y.items records.n.items givers after
    → records.x.items ≡ map (x_at t) (fed_in (values_at (y_records records.y.items) inputs) ps (numbers (reaches (y_records records.y.items) inputs) ps))
    → records.out.items ≡ map (out_at t) (out_in (values_at (y_records records.y.items) inputs) ps (numbers (reaches (y_records records.y.items) inputs) ps))
    → ((k : ℕ) → is_in marked k ≡ watches_any watches (due_give t states).givers k) → length marked ≡ length states
    → moving ≡ reached_leaves (is_in marked) (length marked) due (x_records records.x.items)
    → HalfOf (cycle_parts tree t s) t after records moving
half-is wakes gives touches shows top tree t s states after inputs ps watches records givers due moving marked run dues collected xs outs woken long taken =
    let gave = (cycle_parts tree t s).given in
    let same = sym run.states_are in
    let ys : records.y.items ≡ map (y_at t) (y_of gave) = collected.y_is ∙ ap (λ ss. map (y_at t) (y_of (given_among t ss (due_leaves t ss)))) same in
    let plain : y_records records.y.items ≡ y_of gave = ap y_records ys ∙ y-untimed t (y_of gave) in
    let from = from_source gave (at_top tree t s.events) in
    let equal = sources-same shows top tree t s gave run.distinct run.at_inputs in
    let y = y_of gave in
    let es = inputs_at t s.events in
    let fed : records.x.items ≡ map (x_at t) (cycle_parts tree t s).fed
    = xs ∙ (λ i. map (x_at t) (fed_in (values_at (plain i) (run.inputs_are i)) ps (numbers (reaches (plain i) (run.inputs_are i)) ps)))
    ∙ ap (map (x_at t)) (in-order (λ (p : Path). fed_to p.to (values_at y es p.from)) (reaches y es) ps
    ∙ fed-by-paths from (ins_of tree) y es equal ps run.paths_are.inputs ∙ ap (λ qs. fed_among from (filter (brings from) qs)) run.paths_are.leaves) in
    let out : records.out.items ≡ map (out_at t) (cycle_parts tree t s).out
    = outs ∙ (λ i. map (out_at t) (out_in (values_at (plain i) (run.inputs_are i)) ps (numbers (reaches (plain i) (run.inputs_are i)) ps)))
    ∙ ap (map (out_at t)) (in-order (λ (p : Path). out_to p.to (values_at y es p.from)) (reaches y es) ps
    ∙ out-by-paths from (ins_of tree) y es equal ps run.paths_are.inputs ∙ ap (λ qs. out_among from (filter (brings from) qs)) run.paths_are.outputs) in
    record {
      emitted_is = collected.states_is ∙ ap (λ ss. emitted_among t ss (due_leaves t ss)) same;
      y_is = ys;
      n_is = collected.n_is ∙ ap (λ ss. map (y_at t) (n_of (given_among t ss (due_leaves t ss)))) same;
      x_is = fed;
      out_is = out;
      touched_is = taken
          ∙ (λ i. reached_leaves (is_in marked) ((long ∙ ap length same) i) ((dues ∙ ap (due_leaves t) same) i) ((ap x_records fed ∙ x-untimed t (cycle_parts tree t s).fed) i))
          ∙ touches tree t s.leaf_states gave (cycle_parts tree t s).fed (is_in marked) (λ k. woken k ∙ woken-is wakes gives tree t s states watches run.states_are run.watch k);
    }

-- ---- paths that lead to leaves

all-append : {A : Type 0} (P : A → Type 0) (a b : List A) → AllByRecursion P a → AllByRecursion P b → AllByRecursion P (a ++ b)
all-append P [] b h k = k
all-append P (x ∷ xs) b h k = (h.0, all-append P xs b h.1 k)

all-at : {A : Type 0} (P : A → Type 0) (xs : List A) → AllByRecursion P xs → All P xs
all-at P [] h k d lt = absurd (omega (arith, lt))
all-at P (x ∷ xs) h zero d lt = h.0
all-at P (x ∷ xs) h (suc k) d lt = all-at P xs h.1 k d (omega (arith, lt))

Lands : ℕ → (ℕ → ℕ) → XRecord → Type 0
Lands n ports r = (r.leaf < n) × (r.port.0 < ports r.leaf)

values-within : (t n : ℕ) (ports : ℕ → ℕ) (l port : ℕ) (vs : List Value) → (l < n) × (port < ports l) → AllByRecursion (Lands n ports) (map (x_at t) (map (λ v. let r : PortRecord = record { leaf = l; port = port; value = v } in r) vs))
unfolding Lands
values-within t n ports l port [] lt = tt
values-within t n ports l port (v ∷ vs) lt = (lt, values-within t n ports l port vs lt)

target-within : (t n : ℕ) (ports : ℕ → ℕ) (to : TargetPort) (vs : List Value) → IsPortOf n ports to → AllByRecursion (Lands n ports) (map (x_at t) (fed_to to vs))
target-within t n ports (target.Leaf l port) vs lt = values-within t n ports l port.0 vs lt
target-within t n ports (target.TopOut k) vs lt = tt

each-within : (t n : ℕ) (ports : ℕ → ℕ) (from : Source → List Value) (ps : List Path) (ks : List ℕ) → All (λ (p : Path). IsPortOf n ports p.to) ps → All (λ k. k < length ps) ks → AllByRecursion (Lands n ports) (map (x_at t) (fed_in from ps ks))
each-within t n ports from ps [] targets within = tt
each-within t n ports from ps (k ∷ ks) targets within =
    let here = path_at ps k in
    subst (AllByRecursion (Lands n ports)) (sym (map-append (x_at t) (fed_to here.to (from here.from)) (fed_in from ps ks)))
    (all-append (Lands n ports) (map (x_at t) (fed_to here.to (from here.from))) (map (x_at t) (fed_in from ps ks))
    (target-within t n ports here.to (from here.from) (targets k (record { from = Leaf 0; to = target.TopOut 0 }) (within 0 k (omega arith))))
    (each-within t n ports from ps ks targets (λ j d lt. within (suc j) d (omega (arith, lt)))))

pub fed-within : (t n : ℕ) (ports : ℕ → ℕ) (from : Source → List Value) (ps : List Path) (ks : List ℕ) → All (λ (p : Path). IsPortOf n ports p.to) ps → All (λ k. k < length ps) ks
    → All (λ (r : XRecord). r.leaf < n) (map (x_at t) (fed_in from ps ks)) × All (λ (r : XRecord). r.port.0 < ports r.leaf) (map (x_at t) (fed_in from ps ks))
unfolding Lands
fed-within t n ports from ps ks targets within =
    let all = all-at (Lands n ports) (map (x_at t) (fed_in from ps ks)) (each-within t n ports from ps ks targets within) in
    (λ k d lt. (all k d lt).0, λ k d lt. (all k d lt).1)

-- ---- as many leaves as before

over-long : (change : ℕ → LeafState → LeafState) (ls : List ℕ) (states : List LeafState) → length (over change ls states) ≡ length states
over-long change [] states = refl
over-long change (l ∷ ls) states = over-long change ls (set states l (change l (leaf_of states l))) ∙ length-set states l (change l (leaf_of states l))

pub emitted-long : (t : ℕ) (ls : List ℕ) (states : List LeafState) → length (emitted_among t states ls) ≡ length states
emitted-long t ls states = over-long (λ l s. leaf_emitted t s) ls states
