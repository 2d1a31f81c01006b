-- What is kept of processors while a cycle is served, without where it lies in memory.
use Rattle.std.specs.Prelude.{◌≡◌, ℕ, ◌+◌, ◌-◌, ◌==◌, Bool, false, Option, Some, None, List, [], ◌∷◌, map, length, slice_get, set, if◌then◌else◌}
use Rattle.std.specs.Option.{option_map, is_some}
use Rattle.atomic_face.specs.Classes.{Bag}
use Rattle.run_model.specs.Cycle.{stayed}
use Rattle.tree_tables.specs.declared.entry.Entry.{Entry}
use Rattle.served_tree.specs.Service as service
use Rattle.served_tree.specs.Service.{StoppedLeaf}
use Rattle.tree_mail.specs.declared.message.Answer.{Answer}
use Rattle.tree_mail.specs.declared.kept.Kept.{Kept}
use Rattle.tree_mail.specs.declared.kept.Became.{Became}
use Rattle.tree_mail.specs.declared.kept.Became.TheVariants.{Stayed}

-- what is kept of a processor, and how many of its children have still to give, or to answer
pub record Note : Type 0 where
  pub gave : Option Bag
  pub answered : Option (Option ℕ × StoppedLeaf)
  pub took : Bag
  pub became : Became
  pub left : ℕ

-- an answer in code
abbrev pub answer_in : Answer → Option ℕ × StoppedLeaf
answer_in a = (a.next, a.stop)

abbrev pub note_of : Kept → Note
note_of k =
    record {
      gave = option_map (λ b. b.items) k.gave;
      answered = option_map answer_in k.answered;
      took = k.took.items;
      became = k.became;
      left = k.left;
    }

abbrev pub notes_of : List Kept → List Note
notes_of kept = map note_of kept

-- nothing is kept of a processor with so many children
abbrev pub nothing_noted : ℕ → Note
nothing_noted left =
    record { gave = None; answered = None; took = []; became = Stayed; left = left }

-- nor of a processor of the tables
abbrev pub fresh_note : Entry → Note
fresh_note e = nothing_noted (length e.children.items)

-- ---- as the definitions have it, but for the states of leaves that moved

abbrev pub heard : Note → service.Kept
heard k =
    record { gave = k.gave; answered = k.answered; took = k.took; became = stayed }

abbrev pub all_heard : List Note → List service.Kept
all_heard notes = map heard notes

-- ---- changes

-- what is kept, with one processor's changed
abbrev pub notes_with_change : List Note → ℕ → (Note → Note) → List Note
notes_with_change notes n change =
    elim (slice_get notes n) [ None ↦ notes | Some k ↦ set notes n (change k) ]

-- a processor gave a bag, answered, or took a bag and became this
abbrev pub given_noted : ℕ → Bag → List Note → List Note
given_noted n bag notes = notes_with_change notes n (λ k. record k { gave = Some bag })

abbrev pub answer_noted : ℕ → Option ℕ × StoppedLeaf → List Note → List Note
answer_noted n answer notes = notes_with_change notes n (λ k. record k { answered = Some answer })

abbrev pub move_noted : ℕ → Bag → Became → List Note → List Note
move_noted n bag became notes =
    notes_with_change notes n (λ k. record k { took = bag; became = became })

-- how many children of a processor have still to give, or to answer
abbrev pub left_at : List Note → ℕ → ℕ
left_at notes n = elim (slice_get notes n) [ None ↦ 0 | Some k ↦ k.left ]

-- one less, or so many
abbrev pub with_one_less : ℕ → List Note → List Note
with_one_less n notes = notes_with_change notes n (λ k. record k { left = k.left - 1 })

abbrev pub left_noted : ℕ → ℕ → List Note → List Note
left_noted n left notes = notes_with_change notes n (λ k. record k { left = left })

-- ---- how many are left

-- a processor has given, or answered
abbrev pub has_given : List Note → ℕ → Bool
has_given notes n = elim (slice_get notes n) [ None ↦ false | Some k ↦ is_some k.gave ]

abbrev pub has_answered : List Note → ℕ → Bool
has_answered notes n = elim (slice_get notes n) [ None ↦ false | Some k ↦ is_some k.answered ]

-- how many of these have not
abbrev pub count_lacking : (ℕ → Bool) → List ℕ → ℕ
count_lacking has [] = 0
count_lacking has (n ∷ ns) = (if has n then 0 else 1) + count_lacking has ns

-- how many of these children have still to give, and once all gave, to answer
abbrev pub still : List Note → List ℕ → ℕ
still notes children =
    if count_lacking (has_given notes) children == 0 then count_lacking
    (has_answered notes) children
    else count_lacking (has_given notes) children

-- so many are left of each processor
abbrev pub AreLeft : List Entry → List Note → Type 0
AreLeft entries notes =
    (n : ℕ) (e : Entry) (k : Note) → slice_get entries n ≡ Some e → slice_get notes n ≡ Some k
    → k.left ≡ still notes e.children.items
