-- What a cell has emitted at its port out is what it gave there last.
use Rattle.std.specs.Prelude.{◌≡◌, ℕ, ◌==◌, List, [], ◌∷◌, if◌then◌else◌, ⊤}
use Rattle.quantity.specs.declared.value.Value.{Value}
use Rattle.rule_tree.specs.Meaning.{value_at}
use Rattle.model_tree.specs.Tree.{Tree, Leaf, atomic_leaf, cell_leaf}
use Rattle.run_model.specs.Cycle.{LeafState, emitted_in}
use Rattle.run_model.specs.Run.{PortRecord, Cycle, RunState, Verdict}
use Rattle.run_model.specs.Runs.{Runs}
use Rattle.run_model.specs.Waiting.{StandsFrom}
use Rattle.run_model.specs.Fitting.{FitsTree, OfLeaf}

-- what a leaf has emitted at its port out
abbrev pub emitted_at : List LeafState → ℕ → Value
emitted_at states leaf = value_at (emitted_in states leaf) 0

-- the last value of a leaf among these records, or else this one
abbrev pub last_of : ℕ → List PortRecord → Value → Value
last_of leaf [] v = v
last_of leaf (r ∷ rs) v = last_of leaf rs (if r.leaf == leaf then r.value else v)

-- the last value that a leaf gave at its port out, or else this one
abbrev pub last_given : ℕ → List Cycle → Value → Value
last_given leaf [] v = v
last_given leaf (c ∷ cs) v = last_given leaf cs (last_of leaf c.y v)

-- a leaf that is a cell
abbrev pub IsCell : Leaf → Type 0
IsCell (atomic_leaf name class settings) = ⊥
IsCell (cell_leaf g first cell) = ⊤

-- over any run from a state that stands and fits
abbrev pub EmitsWhatItGives : Type 0
EmitsWhatItGives =
    (tree : Tree) (end limit low leaf : ℕ) (s l : RunState) (cs : List Cycle) (v : Verdict)
    → StandsFrom limit low s → FitsTree tree s.leaf_states → OfLeaf tree leaf IsCell
    → Runs tree end limit s cs v l
    → emitted_at l.leaf_states leaf ≡ last_given leaf cs (emitted_at s.leaf_states leaf)
