-- What a leaf becomes, as it is told; and what is put where a processor has a parent.
use Rattle.std.proofs.Common.{◌≡◌, ℕ, ◌<◌, ◌≤◌, Bool, true, false, Option, Some, None, List, length, get_or, refl, sym, ◌∙◌, ap, subst}
use Rattle.std.specs.Prelude.{slice_get, slice_set}
use Rattle.std.specs.declared.result.Result.TheVariants.{Ok, Err}
use Rattle.std.proofs.lemmas.List.{length-set}
use Rattle.std.proofs.lemmas.Option.{slice_get_read, slice_get_past, get_or_from_slice_get}
use Rattle.rule_tree.specs.declared.outcome.RuleStop.{RuleStop}
use Rattle.atomic_face.specs.Classes.{Bag}
use Rattle.run_model.specs.Cycle.{LeafState, leaf_next, Moved, stayed, moved, stopped}
use Rattle.cycle_steps.specs.declared.told.Told.{Told}
use Rattle.run_model.specs.declared.stop.LeafStop.TheVariants.{Rule}
use Rattle.cycle_steps.specs.Moving.{Moves as MovesTo}
use Rattle.run_leaves.specs.Seated.{Seated}
use Rattle.run_leaves.specs.Moving.{StaysAs, OnlyLeaf}
use Rattle.tree_tables.specs.declared.entry.Entry.{Entry}
use Rattle.tree_mail.specs.declared.kept.Became.{Became}
use Rattle.tree_mail.specs.declared.kept.Became.TheVariants as leaf
use Rattle.tree_messages.specs.Due.{due_at}
use Rattle.tree_mail.specs.Mail.{parent_at}
use Rattle.tree_mail.specs.Puts.{at_parent}
use Rattle.tree_messages.specs.Changes.{has_to_move, Moves, MovesIf, move_in, Becomes}

-- ---- when a leaf is due

pub due-read : (due : List (Option ℕ)) (l : ℕ) (o : Option ℕ) → l < length due → o ≡ get_or due l o
    → due_at due l ≡ o
due-read due l o within is =
    get_or_from_slice_get due l o None (slice_get_read due (length due) l o refl within is)

-- ---- a leaf moved, or stopped

told-moves : (l : ℕ) (m : Moved) (old new : List LeafState) (due : List (Option ℕ)) (told : Told)
    → MovesTo old new l m (Ok told) → OnlyLeaf l old new
    → Moves l m old new due (slice_set due l told.next) (leaf.Moved told.value)
told-moves l stayed old new due told h only = absurd h
told-moves l (moved x) old new due told h only =
    (h.states_are, h.value_is, ap (slice_set due l) h.next_is, only)
told-moves l (stopped why) old new due told h only = absurd h

stop-moves : (l : ℕ) (m : Moved) (old new : List LeafState) (due : List (Option ℕ)) (why : RuleStop)
    → MovesTo old new l m (Err (Rule why)) → OnlyLeaf l old new
    → Moves l m old new due due (leaf.Stopped why)
stop-moves l stayed old new due why h only = absurd h
stop-moves l (moved x) old new due why h only = absurd h
stop-moves l (stopped w) old new due why h only = (h, only, refl)

module _ (t : ℕ) (woken : Bool) (bag : Bag) (l : ℕ) (old new : Seated) (due : List (Option ℕ))
    (has : has_to_move t (due_at due l) woken bag ≡ true) (only : OnlyLeaf l old.states new.states)
    (kept : StaysAs old new) where
  pub becomes-moved : (told : Told) → MovesTo old.states new.states l (move_in t woken bag l old) (Ok told)
      → Becomes t woken bag l old new due (slice_set due l told.next) (leaf.Moved told.value)
  becomes-moved told moves =
      record {
        moves = subst (λ b. MovesIf b l (move_in t woken bag l old) old.states new.states due (slice_set due l told.next) (leaf.Moved told.value)) (sym has) (told-moves l (move_in t woken bag l old) old.states new.states due told moves only);
        kept = kept;
      }

  pub becomes-stopped : (why : RuleStop)
      → MovesTo old.states new.states l (move_in t woken bag l old) (Err (Rule why))
      → Becomes t woken bag l old new due due (leaf.Stopped why)
  becomes-stopped why moves =
      record {
        moves = subst (λ b. MovesIf b l (move_in t woken bag l old) old.states new.states due due (leaf.Stopped why)) (sym has) (stop-moves l (move_in t woken bag l old) old.states new.states due why moves only);
        kept = kept;
      }

-- as many leaves are due or not
pub as-many-due : (t : ℕ) (woken : Bool) (bag : Bag) (l : ℕ) (old new : Seated)
    (due due' : List (Option ℕ)) (became : Became) → Becomes t woken bag l old new due due' became
    → length due' ≡ length due
as-many-due t woken bag l old new due due' became becomes =
    by (has_to_move t (due_at due l) woken bag) (move_in t woken bag l old) became becomes.moves
  where
    by : (b : Bool) (m : Moved) (k : Became) → MovesIf b l m old.states new.states due due' k
        → length due' ≡ length due
    by false m k h = ap length h.2
    by true (moved x) (leaf.Moved value) h = ap length h.2 ∙ length-set due l (leaf_next x)
    by true (stopped why) (leaf.Stopped stop) h = ap length h.2
    by true stayed k h = absurd h
    by true (moved x) leaf.Stayed h = absurd h
    by true (moved x) (leaf.Stopped stop) h = absurd h
    by true (stopped why) leaf.Stayed h = absurd h
    by true (stopped why) (leaf.Moved value) h = absurd h

-- nothing has changed
pub stays-same : (s : Seated) → StaysAs s s
stays-same s = record { model = refl; seats = refl; layouts = refl; settings = refl; long = refl }

-- ---- the parent of a processor

module _ {A : Type 0} (entries : List Entry) (from p : ℕ) (is : p ≡ parent_at entries from) (root : A)
    (go : ℕ → Entry → A) where
  abbrev by_parent : Option Entry → A
  by_parent o = elim o [ None ↦ root | Some e ↦ go (parent_at entries from) e ]

  -- it has none
  pub at-root : length entries ≤ p → at_parent entries from root go ≡ root
  at-root past =
      ap by_parent (ap (slice_get entries) (sym is) ∙ slice_get_past entries p past)

  -- it has one
  pub at-its-parent : (e : Entry) → p < length entries → e ≡ get_or entries p e
      → at_parent entries from root go ≡ go p e
  at-its-parent e within there =
      ap by_parent (ap (slice_get entries) (sym is) ∙ slice_get_read entries (length entries) p e refl within there)
      ∙ ap (λ n. go n e) (sym is)
