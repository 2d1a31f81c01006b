-- What reaches leaves and outputs of top by the numbers of paths: from the Y records, and from
-- events as pairs of an input's number and a value.
use Rattle.std.specs.Prelude.{◌≡◌, ℕ, ◌==◌, ◌<◌, Bool, false, ◌||◌, List, [], map, length, slice_index_or}
use Rattle.std.specs.List.{All, list_any, filter, flat_map, range_with_len}
use Rattle.std.specs.List.Sorted.{IsNonDecreasingBy}
use Rattle.std.specs.Str.{bytes_eq}
use Rattle.quantity.specs.Bytes.{has_repeat}
use Rattle.quantity.specs.declared.value.Value.{Value}
use Rattle.model_tree.specs.Tree.{Word, Tree, ins_of, leaves}
use Rattle.model_tree.specs.Pull.{Source, leaf_source, top_source}
use Rattle.run_model.specs.Cycle.{LeafState}
use Rattle.run_model.specs.Run.{PortRecord, OutRecord, RunState, Event, at_top}
use Rattle.sparse_cycle.specs.Sparse.{Path, paths, out_paths, given_at_out, given_among, due_leaves, brings, fed_by, fed_among, cycle_parts}
use Rattle.sparse_cycle.specs.Laws.{path_at}
use Rattle.sparse_cycle.specs.Collect.{y_of}

-- ---- what stands at a source

-- the events of an instant, each as the number of its input and its value
abbrev pub inputs_at : ℕ → List Event → List (ℕ × Value)
inputs_at t events =
    map (λ (e : Event). (e.port, e.value)) (filter (λ (e : Event). e.time == t) events)

-- the name of an input by its number
abbrev pub input_name : List Word → ℕ → Word
input_name ins k = slice_index_or ins k []

-- what the Y records of a leaf have
abbrev pub values_of_leaf : List PortRecord → ℕ → List Value
values_of_leaf y l = map (λ (r : PortRecord). r.value) (filter (λ (r : PortRecord). r.leaf == l) y)

-- what the inputs of a name have
abbrev pub values_of_name : List Word → List (ℕ × Value) → Word → List Value
values_of_name ins inputs name =
    map (λ (e : ℕ × Value). e.1)
    (filter (λ (e : ℕ × Value). bytes_eq name (input_name ins e.0)) inputs)

-- what these Y records and inputs put at a source
abbrev pub values_of : List Word → List PortRecord → List (ℕ × Value) → Source → List Value
values_of ins y inputs (leaf_source l) = values_of_leaf y l
values_of ins y inputs (top_source name) = values_of_name ins inputs name

-- ---- the paths that bring something

-- the path begins at this leaf
abbrev pub is_from_leaf : ℕ → Path → Bool
is_from_leaf leaf p = at p.source
  where
    at : Source → Bool
    at (leaf_source l) = l == leaf
    at (top_source name) = false

-- the path begins at this input of top
abbrev pub is_from_top : Word → Path → Bool
is_from_top name p = at p.source
  where
    at : Source → Bool
    at (leaf_source l) = false
    at (top_source other) = bytes_eq other name

-- a Y record or an input stands at the path's source
abbrev pub reaches : List Word → List PortRecord → List (ℕ × Value) → Path → Bool
reaches ins y inputs p =
    list_any (λ (r : PortRecord). is_from_leaf r.leaf p) y
    || list_any (λ (e : ℕ × Value). is_from_top (input_name ins e.0) p) inputs

-- the numbers of the paths for which a test holds, rising
abbrev pub numbers : (Path → Bool) → List Path → List ℕ
numbers test ps = filter (λ k. test (path_at ps k)) (range_with_len 0 (length ps))

-- what the paths of these numbers bring
abbrev pub fed_in : (Source → List Value) → List Path → List ℕ → List PortRecord
fed_in from ps ks = flat_map (λ k. fed_by from (path_at ps k)) ks

-- ---- the laws

-- what the numbers of the reaching paths bring is what the paths bring that bring something
abbrev pub FeedsByNumber : Type 0
FeedsByNumber =
    (ins : List Word) (ps : List Path) (y : List PortRecord) (inputs : List (ℕ × Value))
    → (let from = values_of ins y inputs in
    fed_in from ps (numbers (reaches ins y inputs) ps) ≡ fed_among from (filter (brings from) ps))

-- the numbers of paths are numbers of paths
abbrev pub NumbersAreWithin : Type 0
NumbersAreWithin =
    (test : Path → Bool) (ps : List Path) → All (λ k. k < length ps) (numbers test ps)

-- the Y records show what each leaf gave at its port out
abbrev pub YShowsGiven : Type 0
YShowsGiven =
    (l : ℕ) (given : List PortRecord) → values_of_leaf (y_of given) l ≡ given_at_out given l

-- they stand by rising leaf
abbrev pub YRises : Type 0
YRises =
    (t : ℕ) (states : List LeafState)
    → IsNonDecreasingBy (λ (r : PortRecord). r.leaf)
    (y_of (given_among t states (due_leaves t states)))

-- and so do the X records
abbrev pub XRises : Type 0
XRises =
    (tree : Tree) (from : Source → List Value) (test : Path → Bool)
    → IsNonDecreasingBy (λ (r : PortRecord). r.leaf) (fed_among from (filter test (paths tree)))

-- names of which no two are the same
abbrev pub AreDistinct : List Word → Type 0
AreDistinct ins =
    (j k : ℕ) → j < length ins → k < length ins
    → bytes_eq (input_name ins j) (input_name ins k) ≡ (k == j)

-- where no name stands twice
abbrev pub DistinctWhereOnce : Type 0
DistinctWhereOnce = (ins : List Word) → has_repeat ins ≡ false → AreDistinct ins

-- each event is at an input that there is
abbrev pub AreAtInputs : List Word → List Event → Type 0
AreAtInputs ins events = All (λ (e : Event). e.port < length ins) events

-- where no two inputs have one name, an event stands at the input of its number
abbrev pub TopByNumber : Type 0
TopByNumber =
    (tree : Tree) (t : ℕ) (events : List Event) (name : Word) → AreDistinct (ins_of tree)
    → AreAtInputs (ins_of tree) events
    → values_of_name (ins_of tree) (inputs_at t events) name ≡ at_top tree t events name

-- the Y records of a cycle
abbrev pub y_at : ℕ → RunState → List PortRecord
y_at t s = y_of (given_among t s.leaf_states (due_leaves t s.leaf_states))

-- the X records of a cycle, by the numbers of paths
abbrev pub FeedsParts : Type 0
FeedsParts =
    (tree : Tree) (t : ℕ) (s : RunState) → AreDistinct (ins_of tree)
    → AreAtInputs (ins_of tree) s.events
    → (let from = values_of (ins_of tree) (y_at t s) (inputs_at t s.events) in
    fed_in from (paths tree)
    (numbers (reaches (ins_of tree) (y_at t s) (inputs_at t s.events)) (paths tree))
    ≡ (cycle_parts tree t s).fed)

-- what is fed to an output of top
abbrev pub out_of : PortRecord → OutRecord
out_of r = record { port = r.port; value = r.value }

-- the output records of a cycle, by the numbers of the paths to outputs of top
abbrev pub OutsAreFed : Type 0
OutsAreFed =
    (tree : Tree) (t : ℕ) (s : RunState) → AreDistinct (ins_of tree)
    → AreAtInputs (ins_of tree) s.events
    → (let from = values_of (ins_of tree) (y_at t s) (inputs_at t s.events) in
    map out_of
    (fed_in from (out_paths tree)
    (numbers (reaches (ins_of tree) (y_at t s) (inputs_at t s.events)) (out_paths tree)))
    ≡ (cycle_parts tree t s).out)

-- paths lead to leaves
abbrev pub TargetsAreLeaves : Type 0
TargetsAreLeaves = (tree : Tree) → All (λ (p : Path). p.to < length (leaves tree)) (paths tree)
