-- The records of a cycle, by the tables and what is kept.
use Rattle.std.specs.Prelude.{◌≡◌, ℕ, Bool, true, false, Option, Some, None, List, [], ◌∷◌, ◌++◌, map, if◌then◌else◌, unwrap_or}
use Rattle.std.specs.List.{filter}
use Rattle.std.specs.declared.result.Result.{Result}
use Rattle.std.specs.declared.result.Result.TheVariants.{Ok, Err}
use Rattle.atomic_face.specs.Classes.{Bag}
use Rattle.run_model.specs.Run.{PortRecord, StateRecord, Cycle, port_records, is_of_out}
use Rattle.text_forms.specs.declared.records.Records.{Records}
use Rattle.text_forms.specs.declared.records.YRecord.{YRecord}
use Rattle.text_forms.specs.Held.{Holds, y_at, x_at, s_at}
use Rattle.run_model.specs.declared.stop.Stop.{Stop}
use Rattle.run_model.specs.declared.stop.Stop.TheVariants.{Memory}
use Rattle.run_model.specs.Stopping.{stop_of_rules}
use Rattle.tree_tables.specs.declared.entry.Entry.{Entry}
use Rattle.served_tree.specs.Service.{StoppedLeaf, gave_of, child_answer}
use Rattle.served_tree.specs.KeptCycle.{out_record}
use Rattle.tree_mail.specs.declared.kept.Became.{Became}
use Rattle.tree_mail.specs.declared.kept.Became.TheVariants as leaf
use Rattle.tree_mail.specs.Notes.{Note, all_heard}

-- what one leaf gave and took, as records
abbrev pub given_records : ℕ → Note → List PortRecord
given_records l k = port_records (l, unwrap_or k.gave [])

abbrev pub taken_records : ℕ → Note → List PortRecord
taken_records l k = port_records (l, k.took)

-- the next time of an answer, if there is one
abbrev pub next_answered : Option (Option ℕ × StoppedLeaf) → Option ℕ
next_answered None = None
next_answered (Some a) = a.0

-- that it moved, if it did
abbrev pub move_record : ℕ → Became → Option ℕ → List StateRecord
move_record l leaf.Stayed next = []
move_record l (leaf.Moved value) next = record { leaf = l; value = value; next = next } ∷ []
move_record l (leaf.Stopped why) next = []

abbrev pub move_records : ℕ → Note → List StateRecord
move_records l k = move_record l k.became (next_answered k.answered)

-- over a processor that is a leaf
abbrev pub of_leaf_at : {A : Type 0} → (ℕ → Note → List A) → Option ℕ → Note → List A
of_leaf_at of None k = []
of_leaf_at of (Some l) k = of l k

-- over all leaves
abbrev pub by_leaf : {A : Type 0} → (ℕ → Note → List A) → List Entry → List Note → List A
by_leaf of (e ∷ es) (k ∷ ks) = of_leaf_at of e.leaf k ++ by_leaf of es ks
by_leaf of es ks = []

-- a record of a further port
abbrev pub is_further : PortRecord → Bool
is_further r = if is_of_out r then false else true

-- the records of the cycle at an instant
abbrev pub cycle_by : ℕ → List Entry → List Note → Cycle
cycle_by t entries notes =
    record {
      time = t;
      y = filter is_of_out (by_leaf given_records entries notes);
      n = filter is_further (by_leaf given_records entries notes);
      x = by_leaf taken_records entries notes;
      s = by_leaf move_records entries notes;
      out = map out_record (gave_of (all_heard notes) 0);
    }

-- the Y and the N records of what a leaf gave
abbrev pub y_given : ℕ → ℕ → Bag → List YRecord
y_given t l bag = map (y_at t) (filter is_of_out (port_records (l, bag)))

abbrev pub n_given : ℕ → ℕ → Bag → List YRecord
n_given t l bag = map (y_at t) (filter is_further (port_records (l, bag)))

-- records of leaves are added behind the others
pub record Adds (t : ℕ) (given taken : List PortRecord) (moved : List StateRecord)
    (old new : Records) : Type 0 where
  pub y : new.y.items ≡ old.y.items ++ map (y_at t) (filter is_of_out given)
  pub n : new.n.items ≡ old.n.items ++ map (y_at t) (filter is_further given)
  pub x : new.x.items ≡ old.x.items ++ map (x_at t) taken
  pub s : new.s.items ≡ old.s.items ++ map (s_at t) moved
  pub out : new.out.items ≡ old.out.items

-- ---- the end of a cycle

-- by the first leaf that stopped, if there is one: the records, or its stop
abbrev pub HoldsOrStops : {U : Type 0} → ℕ → List Entry → List Note → StoppedLeaf → Result U Stop
    → Records → Type 0
HoldsOrStops t entries notes None (Ok u) records = Holds records (cycle_by t entries notes)
HoldsOrStops t entries notes None (Err why) records = why ≡ Memory
HoldsOrStops t entries notes (Some s) (Ok u) records = ⊥
HoldsOrStops t entries notes (Some s) (Err why) records = why ≡ stop_of_rules s.0 t s.1

-- the stop of a cycle, by what top answered
abbrev pub stop_in : List Note → StoppedLeaf
stop_in notes = (child_answer (all_heard notes) 0).1
