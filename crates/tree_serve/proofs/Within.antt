-- In a cycle of a model: its tables, its leaves and its processors.
use Rattle.std.proofs.Common.{◌≡◌, inl, inr, ℕ, zero, suc, ◌<◌, ◌≤◌, Option, Some, None, List, [], ◌∷◌, map, length, get_or, set, refl, sym, ◌∙◌, ap, subst, arith}
use Rattle.std.specs.Prelude.{slice_get, slice_set}
use Rattle.std.proofs.lemmas.Bool.{cases_eq}
use Rattle.std.proofs.lemmas.Option.{slice_get-get_or, get_or_from_slice_get}
use Rattle.model_tree.specs.Tree.{Tree, Leaf, leaves}
use Rattle.run_model.specs.Cycle.{LeafState}
use Rattle.run_model.specs.Run.{RunState}
use Rattle.sparse_cycle.specs.Sparse.{leaf_of, no_leaf}
use Rattle.tree_tables.specs.declared.entry.Entry.{Entry}
use Rattle.tree_tables.specs.Stations.{leaf_of_node as leaf_number, stations, station_in}
use Rattle.served_tree.specs.Processors.{leaf_node, Processor, processors}
use Rattle.served_tree.specs.Service.{Instant, instant_of}
use Rattle.served_tree.specs.Parts.{Part, parts, part_at}
use Rattle.served_tree.specs.Course.{Counts, IsChild, times}
use Rattle.served_tree.specs.Orders.{IsServable}
use Rattle.served_tree.proofs.Works.{Works}
use Rattle.served_tree.proofs.Counting.{bump, bump-same, bump-other, found-within}
use Rattle.served_tree.proofs.Stepping.{once}
use Rattle.served_tree.proofs.Finishing.{leaves-many}
use Rattle.served_tree.proofs.Whole.{works}
use Rattle.tree_messages.specs.Due.{due_at}
use Rattle.tree_mail.specs.Mail.{parent_at}
use Rattle.tree_serve.specs.InCycle.{Lies, LeavesLie}
use Rattle.tree_serve.proofs.Leaves.{leaf-is, one-processor, processor-of}
use Rattle.tree_serve.proofs.Entries.{many, processor-at, parent-same, children-of, leaf-node, pair-leaf, pair-node}
use Rattle.tree_serve.proofs.Left.{Family}

-- ---- lists of states

pub state-at : (states : List LeafState) (l : ℕ) → l < length states
    → slice_get states l ≡ Some (leaf_of states l)
state-at states l lt = slice_get-get_or states l no_leaf lt

pub state-is : (states : List LeafState) (l : ℕ) (x : LeafState) → slice_get states l ≡ Some x
    → leaf_of states l ≡ x
state-is states l x is = get_or_from_slice_get states l x no_leaf is

at-set : {X : Type 0} (xs : List X) (l : ℕ) (x d : X) → l < length xs → get_or (set xs l x) l d ≡ x
at-set [] l x d lt = absurd (omega (arith, lt))
at-set (y ∷ xs) zero x d lt = refl
at-set (y ∷ xs) (suc l) x d lt = at-set xs l x d (omega (arith, lt))

beside-set : {X : Type 0} (xs : List X) (l k : ℕ) (x d : X) → (k ≡ l → ⊥)
    → get_or (set xs l x) k d ≡ get_or xs k d
beside-set [] l k x d ne = refl
beside-set (y ∷ xs) zero zero x d ne = absurd (ne refl)
beside-set (y ∷ xs) zero (suc k) x d ne = refl
beside-set (y ∷ xs) (suc l) zero x d ne = refl
beside-set (y ∷ xs) (suc l) (suc k) x d ne = beside-set xs l k x d (λ e. ne (ap suc e))

pub state-set : (states : List LeafState) (l : ℕ) (x : LeafState) → l < length states
    → leaf_of (slice_set states l x) l ≡ x
state-set states l x lt = at-set states l x no_leaf lt

pub state-beside : (states : List LeafState) (l k : ℕ) (x : LeafState) → (k ≡ l → ⊥)
    → leaf_of (slice_set states l x) k ≡ leaf_of states k
state-beside states l k x ne = beside-set states l k x no_leaf ne

pub due-set : (due : List (Option ℕ)) (l : ℕ) (x : Option ℕ) → l < length due
    → due_at (slice_set due l x) l ≡ x
due-set due l x lt = at-set due l x None lt

pub due-beside : (due : List (Option ℕ)) (l k : ℕ) (x : Option ℕ) → (k ≡ l → ⊥)
    → due_at (slice_set due l x) k ≡ due_at due k
due-beside due l k x ne = beside-set due l k x None ne

-- ---- the model

module _ (tree : Tree) (t : ℕ) (s : RunState) (servable : IsServable tree s.leaf_states) where
  abbrev pub at : Instant
  at = instant_of tree t s

  abbrev pub part : ℕ → Part
  part = part_at (parts tree t s)

  abbrev ps : List Processor
  ps = processors tree

  abbrev pub here : Works at part
  here = works tree t s servable

  -- a processor that is a leaf
  pub record IsLeaf (n l : ℕ) (p : Processor) : Type 0 where
    pub leaf : Leaf
    pub node : p.node ≡ leaf_node l leaf
    pub there : slice_get (leaves tree) l ≡ Some leaf
    pub within : l < length s.leaf_states

  pub as-leaf : (n l : ℕ) (p : Processor) → slice_get ps n ≡ Some p → leaf_number p.node ≡ Some l
      → IsLeaf n l p
  as-leaf n l p p-is l-is =
      let x = leaf-node p.node l l-is in
      let there = (leaf-is tree n p l x.0 p-is x.1).0 in
      let a = found-within (leaves tree) l x.0 there in
      let b = leaves-many tree 0 in
      let c = servable.states_are in
      record { leaf = x.0; node = pair-node p.node l x.0 x.1; there = there; within = omega (arith, a, b, c) }

  -- two processors that are the same leaf are one
  pub same-leaf : (m n l : ℕ) (p q : Processor) → slice_get ps m ≡ Some p → slice_get ps n ≡ Some q
      → leaf_number p.node ≡ Some l → leaf_number q.node ≡ Some l → m ≡ n
  same-leaf m n l p q p-is q-is p-l q-l =
      let x = leaf-node p.node l p-l in
      let y = leaf-node q.node l q-l in
      one-processor tree m n p q l x.0 y.0 p-is q-is x.1 y.1

  -- each leaf has a processor
  pub leaf-processor : (l : ℕ) → l < length s.leaf_states
      → (n : ℕ) × (p : Processor) × (slice_get ps n ≡ Some p) × (leaf_number p.node ≡ Some l)
  leaf-processor l lt =
      let e = servable.states_are in
      let x = processor-of tree l (omega (arith, lt, e)) in
      let c = x.2 in
      (c.at, c.item, c.there, pair-leaf c.item.node l x.0 c.has)

  -- one message more of a processor, and only its leaf lies otherwise
  pub lie-on : (c : Counts) (n : ℕ) (now now' : List LeafState) (due due' : List (Option ℕ))
      → LeavesLie tree t s c now due
      → ((m l : ℕ) (p : Processor) → (m ≡ n → ⊥) → slice_get ps m ≡ Some p → leaf_number p.node ≡ Some l
      → (leaf_of now' l ≡ leaf_of now l) × (due_at due' l ≡ due_at due l))
      → ((l : ℕ) (p : Processor) → slice_get ps n ≡ Some p → leaf_number p.node ≡ Some l
      → Lies t (leaf_of s.leaf_states l) (part n).becomes (suc (c n)) (leaf_of now' l) (due_at due' l))
      → LeavesLie tree t s (bump c n) now' due'
  lie-on c n now now' due due' lie others this m l p p-is l-is = elim (cases_eq m n) [
    | inl e ↦
        let p-at : slice_get ps n ≡ Some p = ap (slice_get ps) (sym e) ∙ p-is in
        let h = this l p p-at l-is in
        let k : suc (c n) ≡ bump c n m = sym (bump-same c n) ∙ ap (bump c n) (sym e) in
        subst (λ j. Lies t (leaf_of s.leaf_states l) (part m).becomes j (leaf_of now' l) (due_at due' l)) k
        (subst (λ j. Lies t (leaf_of s.leaf_states l) (part j).becomes (suc (c n)) (leaf_of now' l) (due_at due' l)) (sym e) h)
    | inr ne ↦
        let o = others m l p ne p-is l-is in
        let h = lie m l p p-is l-is in
        subst (λ j. Lies t (leaf_of s.leaf_states l) (part m).becomes j (leaf_of now' l) (due_at due' l)) (sym (bump-other c n m ne))
        (subst (λ x. Lies t (leaf_of s.leaf_states l) (part m).becomes (c m) x (due_at due' l)) (sym o.0)
        (subst (λ d. Lies t (leaf_of s.leaf_states l) (part m).becomes (c m) (leaf_of now l) d) (sym o.1) h))
  ]

  -- ---- the tables

  module _ (entries : List Entry) (are : map station_in entries ≡ stations tree) where
    pub family : Family entries
    family =
        record {
          only = λ n m e is le.
              let p = processor-at tree entries are n e is in
              let same = children-of tree entries are e p.0 (sym p.2) in
              let child = (here.placed n p.0 p.1).only m (subst (λ ns. 1 ≤ times m ns) same le) in
              let long = many tree entries are in
              (child.0, (let w = child.1 in omega (arith, w, long)), parent-same tree entries are m ∙ child.2);
          once = λ m e pos lt is.
              let p = processor-at tree entries are (parent_at entries m) e is in
              let same = children-of tree entries are e p.0 (sym p.2) in
              let long = many tree entries are in
              let child : IsChild ps (parent_at entries m) m = (pos, omega (arith, lt, long), sym (parent-same tree entries are m)) in
              ap (times m) same ∙ once at part here (parent_at entries m) m p.0 p.1 child;
          top =
              let a = here.top in
              let b = parent-same tree entries are 0 in
              let long = many tree entries are in
              omega (arith, a, b, long);
        }
