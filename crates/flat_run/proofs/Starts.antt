-- What holds of a run before its first cycle.
use Rattle.std.proofs.Common.{◌≡◌, ◌≢◌, ℕ, zero, suc, ◌+◌, ◌<◌, ◌≤◌, Bool, true, false, eqb, eqb-true, eq-eqb, true≢false, Option, Some, None, List, [], ◌∷◌, map, length, refl, sym, ◌∙◌, ap, subst, arith}
use Rattle.std.specs.Prelude.{slice_get, slice_set, slice_index_or, IsTrue}
use Rattle.std.proofs.lemmas.List.{length-map, length-set, length-replicate}
use Rattle.atomic_face.specs.StockView.{Stocked}
use Rattle.event_list.specs.Events.{Event}
use Rattle.model_leaves.specs.declared.table.Model.{Model}
use Rattle.model_leaves.specs.declared.path.TargetPort.{TargetPort}
use Rattle.model_leaves.specs.declared.path.TargetPort.TheVariants as target
use Rattle.model_tree.specs.Tree.{Tree, Leaf, leaves, leaf_count}
use Rattle.model_tree.specs.Sound.{is_sound_model}
use Rattle.model_leaves.specs.LeafTexts.{in_ports}
use Rattle.model_leaves.proofs.Read.{leaves-length}
use Rattle.model_leaves.specs.Numbered.{IsPortOf}
use Rattle.run_model.specs.Cycle.{LeafState, initial_leaf, leaf_next}
use Rattle.run_model.specs.Run.{RunState, start}
use Rattle.run_model.specs.Fitting.{FitsTree, StartFits}
use Rattle.route_flat.specs.Nets.{Flat, RoutesOf}
use Rattle.route_flat.specs.Ways.{paths_of}
use Rattle.route_flat.specs.Ports.{port_count, CoversPorts}
use Rattle.sparse_cycle.specs.Sparse.{leaf_of}
use Rattle.sparse_cycle.specs.Walk.{waits}
use Rattle.run_leaves.specs.Seated.{Seated, input_count, settings_in, settings_at, tree_at}
use Rattle.run_leaves.specs.Watching.{Watching}
use Rattle.run_leaves.proofs.Places.{some-is, get-set, get-other, get-map, found-at, index-get}
use Rattle.flat_run.specs.Changes.{StartsFrom, tree_with}
use Rattle.flat_run.specs.Holds.{AreRoutes, IsFrameOf, GoesOn, ArePartsOf, HoldsRun, ports_in}

-- ---- the queue

lists-same : {A : Type 0} (xs ys : List A) → length xs ≡ length ys → ((k : ℕ) → k < length xs → slice_get xs k ≡ slice_get ys k) → xs ≡ ys
lists-same [] [] long same = refl
lists-same [] (y ∷ ys) long same = absurd (omega (arith, long))
lists-same (x ∷ xs) [] long same = absurd (omega (arith, long))
lists-same (x ∷ xs) (y ∷ ys) long same =
    let here : x ≡ y = some-is x y (same 0 (omega arith)) in
    let rest = lists-same xs ys (omega (arith, long)) (λ k lt. same (suc k) (omega (arith, lt))) in
    λ i. here i ∷ rest i

-- so many leaves wait in the queue for their next times
pub record WaitUpTo (n : ℕ) (waiting : List (Option ℕ)) (states : List LeafState) : Type 0 where
  pub long : length waiting ≡ length states
  pub each : (k : ℕ) → k < n → slice_get waiting k ≡ slice_get (waits states) k

pub none-wait : (waiting : List (Option ℕ)) (states : List LeafState) → length waiting ≡ length states → WaitUpTo 0 waiting states
none-wait waiting states long = record { long = long; each = λ k lt. absurd (omega (arith, lt)) }

pub one-more-waits : (n : ℕ) (waiting left : List (Option ℕ)) (states : List LeafState) → n < length states → left ≡ slice_set waiting n (leaf_next (leaf_of states n)) → WaitUpTo n waiting states → WaitUpTo (n + 1) left states
one-more-waits n waiting left states lt made old =
    subst (λ (ws : List (Option ℕ)). WaitUpTo (n + 1) ws states) (sym made)
    (record { long = length-set waiting n next ∙ old.long; each = λ k below. by k below (eqb k n) refl })
  where
    next : Option ℕ
    next = leaf_next (leaf_of states n)

    by : (k : ℕ) → k < n + 1 → (b : Bool) → eqb k n ≡ b → slice_get (slice_set waiting n next) k ≡ slice_get (waits states) k
    by k below false ne =
        let differ : k ≢ n = λ e. true≢false (sym (eq-eqb k n e) ∙ ne) in
        get-other waiting k n next differ ∙ old.each k (omega (arith, below, differ))
    by k below true eq =
        let same : k ≡ n = eqb-true k n eq in
        let long = old.long in
        let was = found-at waiting n (omega (arith, lt, long)) in
        let state = found-at states n lt in
        ap (slice_get (slice_set waiting n next)) same
        ∙ get-set waiting n was.0 next was.1
        ∙ ap (λ s. Some (leaf_next s)) (index-get states n state.0 _ state.1)
        ∙ sym (get-map leaf_next states n state.0 state.1)
        ∙ ap (slice_get (waits states)) (sym same)

pub all-wait : (n : ℕ) (waiting : List (Option ℕ)) (states : List LeafState) → length states ≤ n → WaitUpTo n waiting states → waiting ≡ waits states
all-wait n waiting states le h =
    let long = h.long in
    lists-same waiting (waits states) (long ∙ sym (length-map states leaf_next)) (λ k lt. h.each k (omega (arith, lt, long, le)))

-- ---- the routes

module _ {A : Type 0} where
  counts-same : (rs : List (List A)) (ls : List Leaf) → map length rs ≡ map (λ (l : Leaf). length (in_ports l)) ls → (k : ℕ) → length (slice_index_or rs k []) ≡ input_count (slice_get ls k)
  counts-same [] [] e k = refl
  counts-same [] (l ∷ ls) e k = absurd (cc)
  counts-same (r ∷ rs) [] e k = absurd (cc)
  counts-same (r ∷ rs) (l ∷ ls) e zero = ap (λ (ns : List ℕ). slice_index_or ns 0 0) e
  counts-same (r ∷ rs) (l ∷ ls) e (suc k) = counts-same rs ls (ap behind e) k
    where
      behind : List ℕ → List ℕ
      behind [] = []
      behind (n ∷ ns) = ns

port-stays : (m n : ℕ) (f h : ℕ → ℕ) (to : TargetPort) → m ≡ n → ((l : ℕ) → f l ≡ h l) → IsPortOf m f to → IsPortOf n h to
port-stays m n f h (target.Leaf l port) long same is =
    let here = same l in
    let low = is.0 in
    let high = is.1 in
    (omega (arith, low, long), omega (arith, high, here))
port-stays m n f h (target.TopOut k) long same is = tt

-- a port of the routes is one of the tree
pub port-of-tree : (t : Tree) (r : Flat) (to : TargetPort) → CoversPorts t r → IsPortOf (length r.ports) (port_count r) to → IsPortOf (leaf_count t) (ports_in t) to
port-of-tree t r to covers is =
    let long = sym (length-map r.ports length) ∙ ap length covers.ports ∙ length-map (leaves t) (λ (l : Leaf). length (in_ports l)) ∙ leaves-length t 0 in
    port-stays (length r.ports) (leaf_count t) (port_count r) (ports_in t) to long (counts-same r.ports (leaves t) covers.ports) is

-- ---- the whole run

abbrev pub RoutesAreReady : Type 0
RoutesAreReady = (t : Tree) (r : Flat) → RoutesOf t r → IsTrue (is_sound_model t) → AreRoutes t (paths_of r)

pub made-tree : (m : Model) (stock : List Stocked) (s : Seated) → s.model ≡ m → s.settings ≡ settings_in stock → tree_at s.model s.settings ≡ tree_with m stock
made-tree m stock s model settings = λ i. tree_at (model i) (settings i)

-- the queue has a place for each leaf
pub as-many-wait : (m : Model) (stock : List Stocked) (routes : Flat) (events : List Event) (before : List (Option ℕ)) (states : List LeafState)
    → StartsFrom m stock routes events before → states ≡ map initial_leaf (leaves (tree_with m stock)) → length before ≡ length states
as-many-wait m stock routes events before states starts are =
    let tree = tree_with m stock in
    let places : length before ≡ leaf_count tree = ap length starts.waits ∙ length-replicate (leaf_count tree) None in
    let many : length states ≡ leaf_count tree = ap length are ∙ length-map (leaves tree) initial_leaf ∙ leaves-length tree 0 in
    places ∙ sym many

-- it stands at the start
pub stands-at-start : (m : Model) (stock : List Stocked) (s : Seated) (events : List Event) → s.model ≡ m → s.settings ≡ settings_in stock
    → s.states ≡ map initial_leaf (leaves (tree_with m stock))
    → ◌≡◌ {A = RunState} (record { leaf_states = s.states; events = events; last = None; count = 0 }) (start (tree_at s.model s.settings) events)
stands-at-start m stock s events model settings states =
    let same = states ∙ ap (λ (t : Tree). map initial_leaf (leaves t)) (sym (made-tree m stock s model settings)) in
    λ i. record { leaf_states = same i; events = events; last = None; count = 0 }

pub made-holds : RoutesAreReady → StartFits → (m : Model) (stock : List Stocked) (routes : Flat) (events : List Event) (before : List (Option ℕ)) (s : Seated) (w : Watching) (waiting : List (Option ℕ)) (woken touched : List Bool) (due moving end limit : ℕ)
    → StartsFrom m stock routes events before → ArePartsOf m stock s w woken touched due moving → waiting ≡ waits s.states → end ≤ 359999999 → 1 ≤ limit
    → HoldsRun s routes w events waiting woken touched due moving end limit 0 None
made-holds ready fits m stock routes events before s w waiting woken touched due moving end limit starts made queue late some =
    let tree = tree_with m stock in
    let settings = settings_at (settings_in stock) in
    let same = made-tree m stock s made.model_is made.settings_are in
    let due_is = made.due_room settings in
    let moving_is = made.moving_room settings in
    record {
      counts = record { end_is = late; few = omega arith; some = some };
      frame = subst (λ (t : Tree). IsFrameOf t routes w events due moving) (sym same) (record {
        routes_are = ready tree routes starts.routes_are starts.sound;
        watching_is = made.watching_is settings;
        at_inputs = starts.at_inputs;
        due_room = omega (arith, due_is);
        moving_room = omega (arith, moving_is);
      });
      goes_on = λ none. subst (λ (t : Tree). GoesOn t s waiting woken touched) (sym same) (record {
        fits = subst (λ (ss : List LeafState). FitsTree tree ss) (sym made.states_are) (fits tree events);
        queue = queue;
        calm = made.woken_are settings;
        at_rest = made.touched_are settings;
      });
    }
