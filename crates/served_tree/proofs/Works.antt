-- What the processors of a cycle do by themselves: the premise of service in any order.
use Rattle.std.proofs.Common.{◌≡◌, ℕ, ◌<◌, ◌≤◌, Bool, true, false, Some, List, [], ◌∷◌, map, length}
use Rattle.std.specs.Prelude.{slice_get}
use Rattle.run_model.specs.Cycle.{stayed}
use Rattle.served_tree.specs.Processors.{Node, coupled_node, group_node, leaf_node, Processor}
use Rattle.served_tree.specs.Service.{collect, output, transition, done, Kept, Instant, kept_of, gave_of, bag_at_outputs, became_of, child_answer, next_of_children, stop_of_children, collect_from, transition_from}
use Rattle.served_tree.specs.Parts.{Part}
use Rattle.served_tree.specs.Course.{parent_in, IsChild, times}

abbrev pub is_leaf : Node → Bool
is_leaf (coupled_node name ins outs links) = false
is_leaf (group_node g) = false
is_leaf (leaf_node number leaf) = true

-- the children gave, or answered, their parts
abbrev pub HaveGiven : (ℕ → Part) → List Kept → List ℕ → Type 0
HaveGiven part kept children = (m : ℕ) → 1 ≤ times m children → gave_of kept m ≡ (part m).gives

abbrev pub HaveAnswered : (ℕ → Part) → List Kept → List ℕ → Type 0
HaveAnswered part kept children = (m : ℕ) → 1 ≤ times m children → child_answer kept m ≡ (part m).answers

-- where a processor stands among the others
pub record Placed (ps : List Processor) (n : ℕ) (p : Processor) : Type 0 where
  pub below : 0 < n → p.parent < n
  pub only : (m : ℕ) → 1 ≤ times m p.children → IsChild ps n m
  pub listed : 0 < n → (q : Processor) → slice_get ps p.parent ≡ Some q → times n q.children ≡ 1

-- what a leaf does
pub record LeafWorks (at : Instant) (part : ℕ → Part) (n : ℕ) (p : Processor) : Type 0 where
  pub alone : p.children ≡ []
  pub gives : collect_from at n p ≡ output n (part n).gives ∷ []
  pub becomes : became_of at n (part n).takes (part n).woken ≡ (part n).becomes
  pub answers : (kept : List Kept) → kept_of (λ k. k.became) stayed kept n ≡ (part n).becomes
      → transition_from at kept n (part n).takes p ≡ done n (part n).answers.0 (part n).answers.1 ∷ []

-- what a component with children does
pub record InnerWorks (at : Instant) (part : ℕ → Part) (n : ℕ) (p : Processor) : Type 0 where
  pub some : (m : ℕ) × (1 ≤ times m p.children)
  pub asks : collect_from at n p ≡ map collect p.children
  pub gathers : (kept : List Kept) → HaveGiven part kept p.children
      → bag_at_outputs at kept p ≡ (part n).gives
  pub becomes : became_of at n (part n).takes (part n).woken ≡ (part n).becomes
  pub hands : (kept : List Kept) → HaveGiven part kept p.children
      → transition_from at kept n (part n).takes p ≡ map (λ m. transition m (part m).takes (part m).woken) p.children
  pub joins : (kept : List Kept) → HaveAnswered part kept p.children
      → (next_of_children kept p.children ≡ (part n).answers.0) × (stop_of_children kept p.children ≡ (part n).answers.1)

abbrev pub KindWorks : Instant → (ℕ → Part) → ℕ → Processor → Bool → Type 0
KindWorks at part n p true = LeafWorks at part n p
KindWorks at part n p false = InnerWorks at part n p

pub record Works (at : Instant) (part : ℕ → Part) : Type 0 where
  pub some : 0 < length at.processors
  pub top : length at.processors ≤ parent_in at.processors 0
  pub takes : at.events ≡ (part 0).takes
  pub woken : (part 0).woken ≡ false
  pub placed : (n : ℕ) (p : Processor) → slice_get at.processors n ≡ Some p
      → Placed at.processors n p
  pub each : (n : ℕ) (p : Processor) → slice_get at.processors n ≡ Some p
      → KindWorks at part n p (is_leaf p.node)
