-- What is asked of an entry of the tables.
use Rattle.std.proofs.Common.{◌≡◌, ℕ, Bool, true, false, Option, Some, None, List, [], ◌∷◌, map, refl, sym, subst}
use Rattle.std.specs.Prelude.{slice_get, if◌then◌else◌}
use Rattle.std.proofs.lemmas.List.{length-set}
use Rattle.atomic_face.specs.Classes.{is_at}
use Rattle.run_model.specs.Cycle.{leaf_next, leaf_emitted}
use Rattle.sparse_cycle.specs.Sparse.{leaf_of}
use Rattle.run_leaves.specs.Seated.{Seated}
use Rattle.run_leaves.specs.Moving.{with_seated_state, StaysAs}
use Rattle.tree_tables.specs.declared.entry.Entry.{Entry}
use Rattle.served_tree.specs.Service.{collect, output}
use Rattle.tree_mail.specs.Puts.{Puts}
use Rattle.tree_messages.specs.Changes.{Changing, asked_puts, asked_leaves, leaf_gives, leaves_asked, Asks, AsksAt}
use Rattle.tree_messages.proofs.Becoming.{stays-same}

-- a component asks its children
pub asks-children : (t n : ℕ) (e : Entry) (old new : Changing) → e.leaf ≡ None
    → Puts old.waiting new.waiting (map collect e.children.items) → new.notes ≡ old.notes
    → new.leaves ≡ old.leaves → new.due ≡ old.due → Asks t n e old new
asks-children t n e old new none puts notes leaves due =
    record {
      puts = subst (λ (o : Option ℕ). Puts old.waiting new.waiting (asked_puts t n e.children.items o old.leaves.states)) (sym none) puts;
      notes = notes;
      leaves = subst (λ (o : Option ℕ). new.leaves ≡ asked_leaves t o old.leaves) (sym none) leaves;
      due = due;
    }

-- a leaf gives
pub asks-leaf : (t n l : ℕ) (e : Entry) (old new : Changing) → e.leaf ≡ Some l
    → Puts old.waiting new.waiting (output n (leaf_gives t (leaf_of old.leaves.states l)) ∷ [])
    → new.notes ≡ old.notes → new.leaves ≡ leaves_asked t l old.leaves → new.due ≡ old.due
    → Asks t n e old new
asks-leaf t n l e old new some puts notes leaves due =
    record {
      puts = subst (λ (o : Option ℕ). Puts old.waiting new.waiting (asked_puts t n e.children.items o old.leaves.states)) (sym some) puts;
      notes = notes;
      leaves = subst (λ (o : Option ℕ). new.leaves ≡ asked_leaves t o old.leaves) (sym some) leaves;
      due = due;
    }

-- it is the entry of this number
pub asks-at : (es : List Entry) (t n : ℕ) (e : Entry) (old new : Changing) → slice_get es n ≡ Some e
    → Asks t n e old new → AsksAt es t n old new
asks-at es t n e old new there asks x is =
    let same : e ≡ x = cc in
    subst (λ (y : Entry). Asks t n y old new) same asks

-- a leaf that is asked stays where it sits
pub asked-stays : (t l : ℕ) (s s' : Seated) → s' ≡ leaves_asked t l s → StaysAs s s'
asked-stays t l s s' is = subst (StaysAs s) (sym is) (by (is_at t (leaf_next (leaf_of s.states l))))
  where
    by : (b : Bool) → StaysAs s (if b then with_seated_state s l (leaf_emitted t (leaf_of s.states l)) else s)
    by true =
        record { model = refl; seats = refl; layouts = refl; settings = refl; long = length-set s.states l (leaf_emitted t (leaf_of s.states l)) }
    by false = stays-same s
