-- What one served message makes of a cycle, and what it leaves of other processors.
use Rattle.std.proofs.Common.{◌≡◌, inl, inr, ℕ, zero, suc, ◌<◌, ◌≤◌, true, false, Option, Some, None, List, map, length, refl, sym, ◌∙◌, ap, arith}
use Rattle.std.specs.Prelude.{slice_get, slice_set}
use Rattle.quantity.specs.declared.value.Value.{Value}
use Rattle.model_tree.specs.Tree.{Tree}
use Rattle.run_model.specs.Cycle.{LeafState, stayed}
use Rattle.run_model.specs.Run.{RunState, computed_of}
use Rattle.sparse_cycle.specs.Sparse.{leaf_of}
use Rattle.tree_tables.specs.declared.entry.Entry.{Entry}
use Rattle.tree_tables.specs.Stations.{leaf_of_node as leaf_number, stations, station_in}
use Rattle.served_tree.specs.Processors.{Node, coupled_node, group_node, leaf_node, Processor, processors, at_processor}
use Rattle.served_tree.specs.Service.{Message, Kept, instant_of, keeps, causes}
use Rattle.served_tree.specs.Parts.{parts, part_at}
use Rattle.served_tree.specs.Course.{Counts, owner, kept_after}
use Rattle.served_tree.specs.Orders.{IsServable}
use Rattle.served_tree.proofs.Works.{is_leaf}
use Rattle.served_tree.proofs.Counting.{bump}
use Rattle.tree_mail.specs.declared.kept.Became.{Became}
use Rattle.tree_mail.specs.declared.kept.Became.TheVariants as leaf
use Rattle.tree_mail.specs.Notes.{Note, notes_with_change}
use Rattle.tree_mail.specs.Mail.{lies_at, became_in, kept_in, all_kept}
use Rattle.tree_mail.specs.Puts.{Puts}
use Rattle.tree_messages.specs.Changes.{Changing}
use Rattle.tree_serve.specs.InCycle.{LeavesLie}
use Rattle.tree_serve.specs.Holds.{AreTold, AreKept}
use Rattle.tree_serve.proofs.Choosing.{get-other}
use Rattle.tree_serve.proofs.Entries.{processor-at, leaf-of}
use Rattle.tree_serve.proofs.Keeping.{kept-at, before}
use Rattle.tree_serve.proofs.Within.{state-at, state-beside, same-leaf}

-- ---- nodes

pub no-number : (x : Node) → leaf_number x ≡ None → is_leaf x ≡ false
no-number (coupled_node name ins outs links) is = refl
no-number (group_node g) is = refl
no-number (leaf_node number leaf) is = absurd cc

pub some-number : (x : Node) (l : ℕ) → leaf_number x ≡ Some l → is_leaf x ≡ true
some-number (coupled_node name ins outs links) l is = absurd cc
some-number (group_node g) l is = absurd cc
some-number (leaf_node number leaf) l is = refl

-- what holds of a processor that is there
pub at-is : {A : Type 0} (ps : List Processor) (n : ℕ) (none : A) (go : Processor → A)
    (p : Processor) → slice_get ps n ≡ Some p → at_processor ps n none go ≡ go p
at-is ps n none go p is = ap (λ (o : Option Processor). elim o [ None ↦ none | Some q ↦ go q ]) is

pub at-none : {A : Type 0} (ps : List Processor) (n : ℕ) (none : A) (go : Processor → A)
    → slice_get ps n ≡ None → at_processor ps n none go ≡ none
at-none ps n none go is = ap (λ (o : Option Processor). elim o [ None ↦ none | Some q ↦ go q ]) is

-- a leaf of which is kept that it stays has stayed
stays-so : (x : LeafState) (b : Became) → became_in (Some x) b ≡ stayed → b ≡ leaf.Stayed
stays-so x leaf.Stayed is = refl
stays-so x (leaf.Moved value) is = absurd cc
stays-so x (leaf.Stopped why) is = absurd cc

kept-became : (c : Counts) (n k : ℕ) → k ≤ 2 → (p : _) → (kept_after p k).became ≡ stayed
kept-became c n zero le p = refl
kept-became c n (suc zero) le p = refl
kept-became c n (suc (suc zero)) le p = refl
kept-became c n (suc (suc (suc k))) le p = absurd (omega (arith, le))

module _ (tree : Tree) (t : ℕ) (s : RunState) (servable : IsServable tree s.leaf_states)
    (entries : List Entry) (are : map station_in entries ≡ stations tree) where
  -- what it makes of a cycle
  pub record Went (m : Message) (c : Counts) (old new : Changing) : Type 0 where
    pub puts : Puts old.waiting new.waiting
        (causes (instant_of tree t s) (keeps (instant_of tree t s) m (all_kept old.leaves.states entries old.notes)) m)
    pub kept : all_kept new.leaves.states entries new.notes
        ≡ keeps (instant_of tree t s) m (all_kept old.leaves.states entries old.notes)
    pub leaves : LeavesLie tree t s (bump c (owner m)) new.leaves.states new.due
    pub held : AreKept new.leaves.states entries new.notes
    pub states_long : length new.leaves.states ≡ length old.leaves.states
    pub due_long : length new.due ≡ length old.due

  -- one leaf lies otherwise: what is kept of other processors is the same
  module _ (n l : ℕ) (p : Processor) (p-is : slice_get (processors tree) n ≡ Some p)
      (l-is : leaf_number p.node ≡ Some l) (now : List LeafState) (y : LeafState) where
    other-leaf : (m k : ℕ) (e : Entry) → (m ≡ n → ⊥) → slice_get entries m ≡ Some e
        → e.leaf ≡ Some k → k ≡ l → ⊥
    other-leaf m k e ne e-is k-is same =
        let q = processor-at tree entries are m e e-is in
        let number : leaf_number q.0.node ≡ Some l = sym (leaf-of tree entries are e q.0 (sym q.2)) ∙ k-is ∙ ap Some same in
        ne (same-leaf tree t s servable m n l q.0 p q.1 p-is number l-is)

    lies-beside : (o : Option ℕ) → ((k : ℕ) → o ≡ Some k → k ≡ l → ⊥)
        → lies_at (slice_set now l y) o ≡ lies_at now o
    lies-beside None other = refl
    lies-beside (Some k) other = get-other now l k y (other k refl)

    pub kept-beside : (m : ℕ) (e : Entry) (k : Note) → (m ≡ n → ⊥) → slice_get entries m ≡ Some e
        → kept_in (slice_set now l y) e k ≡ kept_in now e k
    kept-beside m e k ne e-is =
        ap (λ o. record { gave = k.gave; answered = k.answered; took = k.took; became = became_in o k.became })
        (lies-beside e.leaf (λ j j-is. other-leaf m j e ne e-is j-is))

    pub told-beside : (m j : ℕ) (e : Entry) (value : Option Value) → (m ≡ n → ⊥)
        → slice_get entries m ≡ Some e → e.leaf ≡ Some j
        → value ≡ computed_of (leaf_of now j) → value ≡ computed_of (leaf_of (slice_set now l y) j)
    told-beside m j e value ne e-is j-is told =
        told ∙ ap computed_of (sym (state-beside now l j y (other-leaf m j e ne e-is j-is)))

  -- what is kept of a processor is the part that the reference gives
  pub kept-part : (c : Counts) (states : List LeafState) (notes : List Note) (n : ℕ) (e : Entry) (k : Note)
      → slice_get entries n ≡ Some e → slice_get notes n ≡ Some k
      → slice_get (all_kept states entries notes) n ≡ Some (kept_after (part_at (parts tree t s) n) (c n))
      → kept_in states e k ≡ kept_after (part_at (parts tree t s) n) (c n)
  kept-part c states notes n e k e-is k-is kept-is =
      let both : ◌≡◌ {A = Option Kept} (Some (kept_in states e k)) (Some (kept_after (part_at (parts tree t s) n) (c n))) =
      sym (kept-at states entries notes n e k e-is k-is) ∙ kept-is in
      cc

  -- a change of one note that leaves what became of leaves
  pub told-noted : (states : List LeafState) (notes : List Note) (q : ℕ) (f : Note → Note)
      → ((x : Note) → (f x).became ≡ x.became) → AreTold states entries notes
      → AreTold states entries (notes_with_change notes q f)
  told-noted states notes q f same told n l e j value e-is j-is l-is moved-to =
      let b = before notes q n f j j-is in
      let became : j.became ≡ b.note.became = elim b.is [
        | inl a ↦ ap (λ (x : Note). x.became) a
        | inr a ↦ ap (λ (x : Note). x.became) a.1 ∙ same b.note
      ] in
      told n l e b.note value e-is b.there l-is (sym became ∙ moved-to)

  -- until it moved a leaf has stayed
  pub stayed-so : (c : Counts) (states : List LeafState) (notes : List Note) (n l : ℕ) (e : Entry) (k : Note)
      → slice_get entries n ≡ Some e → slice_get notes n ≡ Some k → e.leaf ≡ Some l
      → l < length states → c n ≤ 2
      → slice_get (all_kept states entries notes) n ≡ Some (kept_after (part_at (parts tree t s) n) (c n))
      → k.became ≡ leaf.Stayed
  stayed-so c states notes n l e k e-is k-is l-is lt few kept-is =
      let same = kept-part c states notes n e k e-is k-is kept-is in
      let became : became_in (lies_at states e.leaf) k.became ≡ stayed =
      ap (λ (x : Kept). x.became) same ∙ kept-became c n (c n) few (part_at (parts tree t s) n) in
      let there : lies_at states e.leaf ≡ Some (leaf_of states l) = ap (lies_at states) l-is ∙ state-at states l lt in
      stays-so (leaf_of states l) k.became (ap (λ o. became_in o k.became) (sym there) ∙ became)
