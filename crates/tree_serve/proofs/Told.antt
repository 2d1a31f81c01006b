-- A done message is served.
use Rattle.std.proofs.Common.{◌≡◌, inr, ℕ, suc, ◌-◌, ◌<◌, ◌≤◌, Bool, true, false, Option, Some, None, List, [], ◌∷◌, ◌++◌, map, length, refl, sym, ◌∙◌, ap, subst, arith}
use Rattle.std.specs.Prelude.{slice_get, if◌then◌else◌}
use Rattle.std.specs.List.{list_all}
use Rattle.std.specs.Option.{is_some}
use Rattle.model_tree.specs.Tree.{Tree}
use Rattle.run_model.specs.Run.{RunState}
use Rattle.sparse_cycle.specs.Sparse.{leaf_of}
use Rattle.run_leaves.specs.Seated.{Seated}
use Rattle.tree_tables.specs.declared.entry.Entry.{Entry}
use Rattle.tree_tables.specs.Stations.{station_of, stations, station_in}
use Rattle.served_tree.specs.Processors.{Processor, processors, at_processor}
use Rattle.served_tree.specs.Service.{StoppedLeaf, Message, done, Kept, instant_of, kept_of, next_of_children, stop_of_children, all_answered, keeps, causes}
use Rattle.served_tree.specs.Parts.{parts, part_at}
use Rattle.served_tree.specs.Course.{Counts, IsChild, times, Stands}
use Rattle.served_tree.specs.Orders.{IsServable}
use Rattle.served_tree.proofs.Counting.{found-in, parent-is}
use Rattle.served_tree.proofs.Whole.{works}
use Rattle.tree_messages.specs.Due.{due_at}
use Rattle.tree_mail.specs.Notes.{Note, all_heard, answer_noted, with_one_less, left_at, has_given, has_answered, AreLeft}
use Rattle.tree_mail.specs.Mail.{messages_in, parent_at, kept_in, all_kept}
use Rattle.tree_messages.specs.Changes.{Changing, answered_puts, after_answered, Answers}
use Rattle.tree_mail.specs.Puts.{is_last, done_with, joined_answer, component_answers}
use Rattle.tree_serve.specs.InCycle.{Lies, LeavesLie}
use Rattle.tree_serve.specs.Holds.{AreTold, AreKept}
use Rattle.tree_serve.proofs.Entries.{many, processor-at, entry-at, no-processor, parent-same, children-of}
use Rattle.tree_serve.proofs.Keeping.{noted-same, noted-other, noted-length, kept-changed, unseen, Alike, heard-alike, least-same, first-same, has-answered-same}
use Rattle.tree_serve.proofs.Left.{Family, not-top, has_given-is, some-waits-there, last-told, left-after-answered}
use Rattle.tree_serve.proofs.Staying.{done-waits, child-some, parent-same as parent-served, some-given, none-answered}
use Rattle.tree_serve.proofs.Within.{family, lie-on}
use Rattle.tree_serve.proofs.Went.{at-is, at-none, Went, kept-part, told-noted}

module _ (tree : Tree) (t : ℕ) (s : RunState) (servable : IsServable tree s.leaf_states)
    (entries : List Entry) (are : map station_in entries ≡ stations tree) where
  module _ (c : Counts) (ws : List Message) (old : Changing)
      (stands : Stands (processors tree) (part_at (parts tree t s)) c (record { waiting = ws; kept = all_kept old.leaves.states entries old.notes }))
      (lie : LeavesLie tree t s c old.leaves.states old.due)
      (held : AreKept old.leaves.states entries old.notes)
      (n place : ℕ) (next : Option ℕ) (stop : StoppedLeaf) (is : slice_get ws place ≡ Some (done n next stop)) where
    abbrev kept : List Kept
    kept = all_kept old.leaves.states entries old.notes

    abbrev answer : Option ℕ × StoppedLeaf
    answer = (next, stop)

    abbrev told : List Note
    told = answer_noted n answer old.notes

    waits : (n < length (processors tree)) × (c n ≡ 3)
    waits = done-waits (instant_of tree t s) (part_at (parts tree t s)) (works tree t s servable) c (record { waiting = ws; kept = kept }) stands n place next stop is

    p : (q : Processor) × (slice_get (processors tree) n ≡ Some q)
    p = found-in (processors tree) n waits.0

    e : (x : Entry) × (slice_get entries n ≡ Some x) × (station_in x ≡ station_of (processors tree) p.0)
    e = entry-at tree entries are n p.0 p.1

    pub within : n < length old.notes
    within = let a = held.long in let b = many tree entries are in let w = waits.0 in omega (arith, a, b, w)

    k : (j : Note) × (slice_get old.notes n ≡ Some j)
    k = found-in old.notes n within

    first : k.0.answered ≡ None
    first =
        ap (λ (x : Kept). x.answered) (kept-part tree t s servable entries are c old.leaves.states old.notes n e.0 k.0 e.1 k.1 (stands.kept n waits.0))
        ∙ none-answered (part_at (parts tree t s) n) (c n) (let z = waits.1 in omega (arith, z))

    told-long : length told ≡ length entries
    told-long = noted-length old.notes n (λ x. record x { answered = Some answer }) ∙ held.long

    kin : Family entries
    kin = family tree t s servable entries are

    -- a child of the same parent has given
    given : (qe : Entry) → slice_get entries (parent_at entries n) ≡ Some qe → (m : ℕ)
        → 1 ≤ times m qe.children.items → has_given old.notes m ≡ true
    given qe qe-is m le =
        let long = many tree entries are in
        let q = parent_at entries n in
        let only = kin.only q m qe qe-is le in
        let child : IsChild (processors tree) q m = (only.0, (let w = only.1 in omega (arith, w, long)), sym (parent-same tree entries are m) ∙ only.2) in
        let this : IsChild (processors tree) q n = (not-top entries kin n qe qe-is, waits.0, sym (parent-same tree entries are n)) in
        let at-parent : c q ≡ 3 = parent-served (instant_of tree t s) (part_at (parts tree t s)) (works tree t s servable) c (record { waiting = ws; kept = kept }) stands q n 3 this waits.1 (inr refl) in
        let some = child-some (instant_of tree t s) (part_at (parts tree t s)) (works tree t s servable) c (record { waiting = ws; kept = kept }) stands q m child (omega (arith, at-parent)) in
        let me = found-in entries m only.1 in
        let mk = found-in old.notes m (let w = only.1 in let l = held.long in omega (arith, w, l)) in
        let part = kept-part tree t s servable entries are c old.leaves.states old.notes m me.0 mk.0 me.1 mk.1 (stands.kept m child.1) in
        let something : mk.0.gave ≡ Some (part_at (parts tree t s) m).gives = ap (λ (x : Kept). x.gave) part ∙ some-given (part_at (parts tree t s) m) (c m) some in
        has_given-is old.notes m mk.0 mk.1 ∙ ap is_some something

    -- its parent waits for it
    pub parent-waits : parent_at entries n < length entries → 1 ≤ left_at old.notes (parent_at entries n)
    parent-waits lt =
        let q = found-in entries (parent_at entries n) lt in
        some-waits-there entries kin old.notes held.long held.left n k.0 k.1 answer first (parent_at entries n) q.0 refl q.1 (given q.0 q.1)

    -- ---- what is kept

    kept-told : all_kept old.leaves.states entries told ≡ keeps (instant_of tree t s) (done n next stop) kept
    kept-told =
        kept-changed old.leaves.states old.leaves.states entries old.notes told n e.0 k.0 (record k.0 { answered = Some answer }) (λ x. record x { answered = Some (next, stop) })
        held.long told-long e.1 k.1 (noted-same old.notes n k.0 (λ x. record x { answered = Some answer }) k.1) refl
        (λ m x y y' ne x-is y-is y'-is.
        let there : slice_get told m ≡ Some y = noted-other old.notes n m k.0 (λ z. record z { answered = Some answer }) k.1 ne ∙ y-is in
        let same : ◌≡◌ {A = Note} y' y = cc (there, y'-is) in
        ap (kept_in old.leaves.states x) same)

    less-unseen : (q : ℕ) → all_kept old.leaves.states entries (with_one_less q told) ≡ all_kept old.leaves.states entries told
    less-unseen q = unseen old.leaves.states entries told q (λ x. record x { left = x.left - 1 }) told-long (λ x y. refl)

    less-long : (q : ℕ) → length (with_one_less q told) ≡ length entries
    less-long q = noted-length told q (λ x. record x { left = x.left - 1 }) ∙ told-long

    after-unseen : all_kept old.leaves.states entries (after_answered entries n told) ≡ all_kept old.leaves.states entries told
    after-unseen = by (slice_get entries (parent_at entries n))
      where
        by : (o : Option Entry) → all_kept old.leaves.states entries (elim o [ None ↦ told | Some x ↦ with_one_less (parent_at entries n) told ]) ≡ all_kept old.leaves.states entries told
        by None = refl
        by (Some x) = less-unseen (parent_at entries n)

    after-long : length (after_answered entries n told) ≡ length entries
    after-long = by (slice_get entries (parent_at entries n))
      where
        by : (o : Option Entry) → length {A = Note} (elim o [ None ↦ told | Some x ↦ with_one_less (parent_at entries n) told ]) ≡ length entries
        by None = told-long
        by (Some x) = less-long (parent_at entries n)

    after-told : AreTold old.leaves.states entries (after_answered entries n told)
    after-told = by (slice_get entries (parent_at entries n))
      where
        now : AreTold old.leaves.states entries told
        now = told-noted tree t s servable entries are old.leaves.states old.notes n (λ x. record x { answered = Some answer }) (λ x. refl) held.told

        by : (o : Option Entry) → AreTold old.leaves.states entries (elim o [ None ↦ told | Some x ↦ with_one_less (parent_at entries n) told ])
        by None = now
        by (Some x) = told-noted tree t s servable entries are old.leaves.states told (parent_at entries n) (λ y. record y { left = y.left - 1 }) (λ y. refl) now

    -- ---- what is put

    abbrev keeps-now : List Kept
    keeps-now = keeps (instant_of tree t s) (done n next stop) kept

    abbrev go : ℕ → Processor → List Message
    go q x = if all_answered keeps-now x.children then done q (next_of_children keeps-now x.children) (stop_of_children keeps-now x.children) ∷ [] else []

    caused : causes (instant_of tree t s) keeps-now (done n next stop) ≡ at_processor (processors tree) (parent_at entries n) [] (go (parent_at entries n))
    caused =
        at-is (processors tree) n [] (λ child. at_processor (processors tree) child.parent [] (go child.parent)) p.0 p.1
        ∙ ap (λ q. at_processor (processors tree) q [] (go q)) (sym (parent-is (processors tree) n p.0 p.1) ∙ sym (parent-same tree entries are n))

    same-list : (f g : ℕ → Bool) (ns : List ℕ) → ((m : ℕ) → f m ≡ g m) → list_all f ns ≡ list_all g ns
    same-list f g ns each = ap (λ h. list_all h ns) (λ i m. each m i)

    last-is : (qe : Entry) (pq : Processor) → slice_get entries (parent_at entries n) ≡ Some qe
        → station_in qe ≡ station_of (processors tree) pq → is_last told (parent_at entries n) ≡ all_answered keeps-now pq.children
    last-is qe pq qe-is same =
        last-told entries kin old.notes held.long held.left n k.0 k.1 answer first (parent_at entries n) qe refl qe-is (given qe qe-is)
        ∙ same-list (has_answered told) (λ m. kept_of (λ x. is_some x.answered) false keeps-now m) qe.children.items
        (λ m. has-answered-same old.leaves.states entries told told-long m ∙ ap (λ ks. kept_of (λ x. is_some x.answered) false ks m) kept-told)
        ∙ ap (list_all (λ m. kept_of (λ x. is_some x.answered) false keeps-now m)) (children-of tree entries are qe pq same)

    alike : Alike (all_heard (with_one_less (parent_at entries n) told)) keeps-now
    alike =
        let q = parent_at entries n in
        subst (Alike (all_heard (with_one_less q told))) (less-unseen q ∙ kept-told) (heard-alike old.leaves.states entries (with_one_less q told) (less-long q))

    joins : (qe : Entry) (pq : Processor) → station_in qe ≡ station_of (processors tree) pq
        → joined_answer (with_one_less (parent_at entries n) told) qe.children.items ≡ (next_of_children keeps-now pq.children, stop_of_children keeps-now pq.children)
    joins qe pq same =
        let heard = all_heard (with_one_less (parent_at entries n) told) in
        (λ i. (least-same heard keeps-now alike qe.children.items i, first-same heard keeps-now alike qe.children.items i))
        ∙ ap (λ ns. (next_of_children keeps-now ns, stop_of_children keeps-now ns)) (children-of tree entries are qe pq same)

    puts-are : answered_puts entries n told ≡ causes (instant_of tree t s) keeps-now (done n next stop)
    puts-are = by (slice_get entries (parent_at entries n)) refl ∙ sym caused
      where
        by : (o : Option Entry) → slice_get entries (parent_at entries n) ≡ o
            → answered_puts entries n told ≡ at_processor (processors tree) (parent_at entries n) [] (go (parent_at entries n))
        by None none =
            ap (λ (o : Option Entry). elim o [ None ↦ [] | Some x ↦ component_answers (parent_at entries n) x.children.items told ]) none
            ∙ sym (at-none (processors tree) (parent_at entries n) [] (go (parent_at entries n)) (no-processor tree entries are (parent_at entries n) none))
        by (Some qe) qe-is =
            let pq = processor-at tree entries are (parent_at entries n) qe qe-is in
            ap (λ (o : Option Entry). elim o [ None ↦ [] | Some x ↦ component_answers (parent_at entries n) x.children.items told ]) qe-is
            ∙ (λ i. if last-is qe pq.0 qe-is (sym pq.2) i then done_with (parent_at entries n) (joins qe pq.0 (sym pq.2) i) ∷ [] else [])
            ∙ sym (at-is (processors tree) (parent_at entries n) [] (go (parent_at entries n)) pq.0 pq.1)

    -- ---- all of it

    pub told-went : (new : Changing) → Answers entries n answer old new
        → Went tree t s servable entries are (done n next stop) c old new
    told-went new answers =
        record {
          puts = answers.puts ∙ ap (λ ms. messages_in old.waiting ++ ms) puts-are;
          kept =
              ap (all_kept new.leaves.states entries) answers.notes
              ∙ ap (λ (x : Seated). all_kept x.states entries (after_answered entries n told)) answers.leaves
              ∙ after-unseen ∙ kept-told;
          leaves = lie-on tree t s servable c n old.leaves.states new.leaves.states old.due new.due lie
              (λ m l q ne q-is l-is. (ap (λ (x : Seated). leaf_of x.states l) answers.leaves, ap (λ d. due_at d l) answers.due))
              (λ l q q-is l-is.
              let h = lie n l q q-is l-is in
              let at-three : Lies t (leaf_of s.leaf_states l) (part_at (parts tree t s) n).becomes 3 (leaf_of old.leaves.states l) (due_at old.due l) =
              subst (λ j. Lies t (leaf_of s.leaf_states l) (part_at (parts tree t s) n).becomes j (leaf_of old.leaves.states l) (due_at old.due l)) waits.1 h in
              let four : 4 ≡ suc (c n) = let z = waits.1 in omega (arith, z) in
              let at-four : Lies t (leaf_of s.leaf_states l) (part_at (parts tree t s) n).becomes 4 (leaf_of old.leaves.states l) (due_at old.due l) = at-three in
              subst (λ j. Lies t (leaf_of s.leaf_states l) (part_at (parts tree t s) n).becomes j (leaf_of new.leaves.states l) (due_at new.due l)) four
              (subst (λ d. Lies t (leaf_of s.leaf_states l) (part_at (parts tree t s) n).becomes 4 (leaf_of new.leaves.states l) (due_at d l)) (sym answers.due)
              (subst (λ (x : Seated). Lies t (leaf_of s.leaf_states l) (part_at (parts tree t s) n).becomes 4 (leaf_of x.states l) (due_at old.due l)) (sym answers.leaves) at-four)));
          held = record {
            long = ap length answers.notes ∙ after-long;
            left = subst (AreLeft entries) (sym answers.notes)
                (left-after-answered entries kin old.notes held.long held.left n k.0 k.1 answer first given);
            told = subst (λ (x : Seated). AreTold x.states entries new.notes) (sym answers.leaves)
                (subst (AreTold old.leaves.states entries) (sym answers.notes) after-told);
          };
          states_long = ap (λ (x : Seated). length x.states) answers.leaves;
          due_long = ap length answers.due;
        }
