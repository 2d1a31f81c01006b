-- An output message is served.
use Rattle.std.proofs.Common.{◌≡◌, inl, ℕ, suc, ◌-◌, ◌<◌, ◌≤◌, Bool, true, false, Option, Some, None, List, [], ◌∷◌, ◌++◌, map, length, refl, sym, ◌∙◌, ap, subst, arith}
use Rattle.std.specs.Prelude.{slice_get, if◌then◌else◌}
use Rattle.std.specs.List.{list_all}
use Rattle.std.specs.Option.{is_some}
use Rattle.atomic_face.specs.Classes.{Bag}
use Rattle.model_tree.specs.Tree.{Tree}
use Rattle.run_model.specs.Run.{RunState}
use Rattle.sparse_cycle.specs.Sparse.{leaf_of}
use Rattle.run_leaves.specs.Seated.{Seated}
use Rattle.tree_tables.specs.declared.entry.Entry.{Entry}
use Rattle.tree_tables.specs.Stations.{row_of, station_of, stations, station_in}
use Rattle.served_tree.specs.Processors.{Processor, processors, at_processor}
use Rattle.served_tree.specs.Service.{Message, output, transition, Kept, instant_of, kept_of, bag_at_outputs, all_gave, keeps, causes}
use Rattle.served_tree.specs.Rows.{read_rows, RowsBring}
use Rattle.served_tree.specs.Parts.{parts, part_at}
use Rattle.served_tree.specs.Course.{Counts, IsChild, times, Stands}
use Rattle.served_tree.specs.Orders.{IsServable}
use Rattle.served_tree.proofs.Counting.{found-in, parent-is}
use Rattle.served_tree.proofs.Whole.{works}
use Rattle.tree_messages.specs.Due.{due_at}
use Rattle.tree_mail.specs.Notes.{Note, all_heard, given_noted, with_one_less, left_noted, left_at, has_given, has_answered, AreLeft}
use Rattle.tree_mail.specs.Mail.{messages_in, parent_at, kept_in, all_kept}
use Rattle.tree_messages.specs.Changes.{Changing, Gives}
use Rattle.tree_mail.specs.Puts.{is_last, outs_read, component_gives, component_gave, given_puts, after_given}
use Rattle.tree_serve.specs.InCycle.{Lies, LeavesLie}
use Rattle.tree_serve.specs.Holds.{AreTold, AreKept}
use Rattle.tree_serve.proofs.Entries.{many, processor-at, entry-at, no-processor, parent-same, children-of, outs-of}
use Rattle.tree_serve.proofs.Keeping.{noted-same, noted-other, noted-length, kept-changed, unseen, Alike, heard-alike, reads-same, has-given-same}
use Rattle.tree_serve.proofs.Left.{Family, not-top, has_answered-is, some-left, last-gave, left-after-given}
use Rattle.tree_serve.proofs.Staying.{output-waits, child-few, parent-same as parent-served, none-given, none-answered}
use Rattle.tree_serve.proofs.Within.{family, lie-on}
use Rattle.tree_serve.proofs.Went.{at-is, at-none, Went, kept-part, told-noted}

module _ (tree : Tree) (t : ℕ) (s : RunState) (servable : IsServable tree s.leaf_states)
    (entries : List Entry) (are : map station_in entries ≡ stations tree) (brings : RowsBring) where
  module _ (c : Counts) (ws : List Message) (old : Changing)
      (stands : Stands (processors tree) (part_at (parts tree t s)) c (record { waiting = ws; kept = all_kept old.leaves.states entries old.notes }))
      (lie : LeavesLie tree t s c old.leaves.states old.due)
      (held : AreKept old.leaves.states entries old.notes)
      (n place : ℕ) (bag : Bag) (is : slice_get ws place ≡ Some (output n bag)) where
    abbrev kept : List Kept
    kept = all_kept old.leaves.states entries old.notes

    gave-note : Note → Note
    gave-note x = record x { gave = Some bag }

    abbrev gave : List Note
    gave = given_noted n bag old.notes

    waits : (n < length (processors tree)) × (c n ≡ 1) × (bag ≡ (part_at (parts tree t s) n).gives)
    waits = output-waits (instant_of tree t s) (part_at (parts tree t s)) (works tree t s servable) c (record { waiting = ws; kept = kept }) stands n place bag is

    p : (q : Processor) × (slice_get (processors tree) n ≡ Some q)
    p = found-in (processors tree) n waits.0

    e : (x : Entry) × (slice_get entries n ≡ Some x) × (station_in x ≡ station_of (processors tree) p.0)
    e = entry-at tree entries are n p.0 p.1

    pub within : n < length old.notes
    within = let a = held.long in let b = many tree entries are in let w = waits.0 in omega (arith, a, b, w)

    k : (j : Note) × (slice_get old.notes n ≡ Some j)
    k = found-in old.notes n within

    first : k.0.gave ≡ None
    first =
        ap (λ (x : Kept). x.gave) (kept-part tree t s servable entries are c old.leaves.states old.notes n e.0 k.0 e.1 k.1 (stands.kept n waits.0))
        ∙ none-given (part_at (parts tree t s) n) (c n) (let z = waits.1 in omega (arith, z))

    gave-long : length gave ≡ length entries
    gave-long = noted-length old.notes n (λ x. record x { gave = Some bag }) ∙ held.long

    kin : Family entries
    kin = family tree t s servable entries are

    -- a child of the same parent has answered nothing
    fresh : (qe : Entry) → slice_get entries (parent_at entries n) ≡ Some qe → (m : ℕ)
        → 1 ≤ times m qe.children.items → has_answered old.notes m ≡ false
    fresh qe qe-is m le =
        let long = many tree entries are in
        let q = parent_at entries n in
        let only = kin.only q m qe qe-is le in
        let child : IsChild (processors tree) q m = (only.0, (let w = only.1 in omega (arith, w, long)), sym (parent-same tree entries are m) ∙ only.2) in
        let this : IsChild (processors tree) q n = (not-top entries kin n qe qe-is, waits.0, sym (parent-same tree entries are n)) in
        let at-parent : c q ≡ 1 = parent-served (instant_of tree t s) (part_at (parts tree t s)) (works tree t s servable) c (record { waiting = ws; kept = kept }) stands q n 1 this waits.1 (inl refl) in
        let few = child-few (instant_of tree t s) (part_at (parts tree t s)) (works tree t s servable) c (record { waiting = ws; kept = kept }) stands q m child at-parent in
        let me = found-in entries m only.1 in
        let mk = found-in old.notes m (let w = only.1 in let l = held.long in omega (arith, w, l)) in
        let part = kept-part tree t s servable entries are c old.leaves.states old.notes m me.0 mk.0 me.1 mk.1 (stands.kept m child.1) in
        let nothing : mk.0.answered ≡ None = ap (λ (x : Kept). x.answered) part ∙ none-answered (part_at (parts tree t s) m) (c m) (omega (arith, few)) in
        has_answered-is old.notes m mk.0 mk.1 ∙ ap is_some nothing

    -- its parent waits for it
    pub parent-waits : parent_at entries n < length entries → 1 ≤ left_at old.notes (parent_at entries n)
    parent-waits lt =
        let q = found-in entries (parent_at entries n) lt in
        some-left entries kin old.notes held.long held.left n k.0 k.1 bag first (parent_at entries n) q.0 refl q.1

    -- ---- what is kept

    kept-gave : all_kept old.leaves.states entries gave ≡ keeps (instant_of tree t s) (output n bag) kept
    kept-gave =
        kept-changed old.leaves.states old.leaves.states entries old.notes gave n e.0 k.0 (record k.0 { gave = Some bag }) (λ x. record x { gave = Some bag })
        held.long gave-long e.1 k.1 (noted-same old.notes n k.0 (λ x. record x { gave = Some bag }) k.1) refl
        (λ m x y y' ne x-is y-is y'-is.
        let there : slice_get gave m ≡ Some y = noted-other old.notes n m k.0 (λ z. record z { gave = Some bag }) k.1 ne ∙ y-is in
        let same : ◌≡◌ {A = Note} y' y = cc (there, y'-is) in
        ap (kept_in old.leaves.states x) same)

    less-unseen : (notes : List Note) (q : ℕ) → length notes ≡ length entries
        → all_kept old.leaves.states entries (with_one_less q notes) ≡ all_kept old.leaves.states entries notes
    less-unseen notes q long = unseen old.leaves.states entries notes q (λ x. record x { left = x.left - 1 }) long (λ x y. refl)

    left-unseen : (notes : List Note) (q left : ℕ) → length notes ≡ length entries
        → all_kept old.leaves.states entries (left_noted q left notes) ≡ all_kept old.leaves.states entries notes
    left-unseen notes q left long = unseen old.leaves.states entries notes q (λ x. record x { left = left }) long (λ x y. refl)

    less-long : (q : ℕ) → length (with_one_less q gave) ≡ length entries
    less-long q = noted-length gave q (λ x. record x { left = x.left - 1 }) ∙ gave-long

    child-unseen : (q : ℕ) (qe : Entry) (b : Bool)
        → all_kept old.leaves.states entries (if b then left_noted q (length qe.children.items) (with_one_less q gave) else with_one_less q gave) ≡ all_kept old.leaves.states entries gave
    child-unseen q qe true = left-unseen (with_one_less q gave) q (length qe.children.items) (less-long q) ∙ less-unseen gave q gave-long
    child-unseen q qe false = less-unseen gave q gave-long

    child-long : (q : ℕ) (qe : Entry) (b : Bool)
        → length (if b then left_noted q (length qe.children.items) (with_one_less q gave) else with_one_less q gave) ≡ length entries
    child-long q qe true = noted-length (with_one_less q gave) q (λ x. record x { left = length qe.children.items }) ∙ less-long q
    child-long q qe false = less-long q

    after-unseen : all_kept old.leaves.states entries (after_given entries n gave) ≡ all_kept old.leaves.states entries gave
    after-unseen = by (slice_get entries (parent_at entries n))
      where
        by : (o : Option Entry) → all_kept old.leaves.states entries (elim o [ None ↦ gave | Some x ↦ component_gave (parent_at entries n) x gave ]) ≡ all_kept old.leaves.states entries gave
        by None = refl
        by (Some x) = child-unseen (parent_at entries n) x (is_last gave (parent_at entries n))

    after-long : length (after_given entries n gave) ≡ length entries
    after-long = by (slice_get entries (parent_at entries n))
      where
        by : (o : Option Entry) → length {A = Note} (elim o [ None ↦ gave | Some x ↦ component_gave (parent_at entries n) x gave ]) ≡ length entries
        by None = gave-long
        by (Some x) = child-long (parent_at entries n) x (is_last gave (parent_at entries n))

    after-told : AreTold old.leaves.states entries (after_given entries n gave)
    after-told = by (slice_get entries (parent_at entries n))
      where
        told : AreTold old.leaves.states entries gave
        told = told-noted tree t s servable entries are old.leaves.states old.notes n (λ x. record x { gave = Some bag }) (λ x. refl) held.told

        less : (q : ℕ) → AreTold old.leaves.states entries (with_one_less q gave)
        less q = told-noted tree t s servable entries are old.leaves.states gave q (λ x. record x { left = x.left - 1 }) (λ x. refl) told

        child : (q : ℕ) (x : Entry) (b : Bool) → AreTold old.leaves.states entries (if b then left_noted q (length x.children.items) (with_one_less q gave) else with_one_less q gave)
        child q x true = told-noted tree t s servable entries are old.leaves.states (with_one_less q gave) q (λ y. record y { left = length x.children.items }) (λ y. refl) (less q)
        child q x false = less q

        by : (o : Option Entry) → AreTold old.leaves.states entries (elim o [ None ↦ gave | Some x ↦ component_gave (parent_at entries n) x gave ])
        by None = told
        by (Some x) = child (parent_at entries n) x (is_last gave (parent_at entries n))

    -- ---- what is put

    abbrev keeps-now : List Kept
    keeps-now = keeps (instant_of tree t s) (output n bag) kept

    abbrev go : ℕ → Processor → List Message
    go q x = if all_gave keeps-now x.children then output q (bag_at_outputs (instant_of tree t s) keeps-now x) ∷ [] else []

    abbrev root : List Message
    root = transition 0 (instant_of tree t s).events false ∷ []

    caused : causes (instant_of tree t s) keeps-now (output n bag) ≡ at_processor (processors tree) (parent_at entries n) root (go (parent_at entries n))
    caused =
        at-is (processors tree) n [] (λ child. at_processor (processors tree) child.parent root (go child.parent)) p.0 p.1
        ∙ ap (λ q. at_processor (processors tree) q root (go q)) (sym (parent-is (processors tree) n p.0 p.1) ∙ sym (parent-same tree entries are n))

    same-list : (f g : ℕ → Bool) (ns : List ℕ) → ((m : ℕ) → f m ≡ g m) → list_all f ns ≡ list_all g ns
    same-list f g ns each = ap (λ h. list_all h ns) (λ i m. each m i)

    last-is : (qe : Entry) (pq : Processor) → slice_get entries (parent_at entries n) ≡ Some qe
        → station_in qe ≡ station_of (processors tree) pq → is_last gave (parent_at entries n) ≡ all_gave keeps-now pq.children
    last-is qe pq qe-is same =
        last-gave entries kin old.notes held.long held.left n k.0 k.1 bag first (parent_at entries n) qe refl qe-is
        ∙ same-list (has_given gave) (λ m. kept_of (λ x. is_some x.gave) false keeps-now m) qe.children.items
        (λ m. has-given-same old.leaves.states entries gave gave-long m ∙ ap (λ ks. kept_of (λ x. is_some x.gave) false ks m) kept-gave)
        ∙ ap (list_all (λ m. kept_of (λ x. is_some x.gave) false keeps-now m)) (children-of tree entries are qe pq same)

    reads : (qe : Entry) (pq : Processor) → station_in qe ≡ station_of (processors tree) pq
        → outs_read (with_one_less (parent_at entries n) gave) qe ≡ bag_at_outputs (instant_of tree t s) keeps-now pq
    reads qe pq same =
        let q = parent_at entries n in
        let seen : all_kept old.leaves.states entries (with_one_less q gave) ≡ keeps-now = less-unseen gave q gave-long ∙ kept-gave in
        let alike : Alike (all_heard (with_one_less q gave)) keeps-now = subst (Alike (all_heard (with_one_less q gave))) seen (heard-alike old.leaves.states entries (with_one_less q gave) (less-long q)) in
        reads-same (all_heard (with_one_less q gave)) keeps-now alike [] (map row_of qe.outs.items)
        ∙ ap (read_rows [] keeps-now) (outs-of tree entries are qe pq same)
        ∙ brings.outputs (instant_of tree t s) keeps-now pq

    puts-are : (inputs : Bag) → inputs ≡ (instant_of tree t s).events
        → given_puts entries n inputs gave ≡ causes (instant_of tree t s) keeps-now (output n bag)
    puts-are inputs inputs-are = by (slice_get entries (parent_at entries n)) refl ∙ sym caused
      where
        by : (o : Option Entry) → slice_get entries (parent_at entries n) ≡ o
            → given_puts entries n inputs gave ≡ at_processor (processors tree) (parent_at entries n) root (go (parent_at entries n))
        by None none =
            ap (λ (o : Option Entry). elim o [ None ↦ transition 0 inputs false ∷ [] | Some x ↦ component_gives (parent_at entries n) x gave ]) none
            ∙ ap (λ b. transition 0 b false ∷ []) inputs-are
            ∙ sym (at-none (processors tree) (parent_at entries n) root (go (parent_at entries n)) (no-processor tree entries are (parent_at entries n) none))
        by (Some qe) qe-is =
            let pq = processor-at tree entries are (parent_at entries n) qe qe-is in
            ap (λ (o : Option Entry). elim o [ None ↦ transition 0 inputs false ∷ [] | Some x ↦ component_gives (parent_at entries n) x gave ]) qe-is
            ∙ (λ i. if last-is qe pq.0 qe-is (sym pq.2) i then output (parent_at entries n) (reads qe pq.0 (sym pq.2) i) ∷ [] else [])
            ∙ sym (at-is (processors tree) (parent_at entries n) root (go (parent_at entries n)) pq.0 pq.1)

    -- ---- all of it

    pub gave-went : (inputs : Bag) → inputs ≡ (instant_of tree t s).events → (new : Changing)
        → Gives entries inputs n bag old new → Went tree t s servable entries are (output n bag) c old new
    gave-went inputs inputs-are new gives =
        record {
          puts = gives.puts ∙ ap (λ ms. messages_in old.waiting ++ ms) (puts-are inputs inputs-are);
          kept =
              ap (all_kept new.leaves.states entries) gives.notes
              ∙ ap (λ (x : Seated). all_kept x.states entries (after_given entries n gave)) gives.leaves
              ∙ after-unseen ∙ kept-gave;
          leaves = lie-on tree t s servable c n old.leaves.states new.leaves.states old.due new.due lie
              (λ m l q ne q-is l-is. (ap (λ (x : Seated). leaf_of x.states l) gives.leaves, ap (λ d. due_at d l) gives.due))
              (λ l q q-is l-is.
              let h = lie n l q q-is l-is in
              let at-one : Lies t (leaf_of s.leaf_states l) (part_at (parts tree t s) n).becomes 1 (leaf_of old.leaves.states l) (due_at old.due l) =
              subst (λ j. Lies t (leaf_of s.leaf_states l) (part_at (parts tree t s) n).becomes j (leaf_of old.leaves.states l) (due_at old.due l)) waits.1 h in
              let two : 2 ≡ suc (c n) = let z = waits.1 in omega (arith, z) in
              subst (λ j. Lies t (leaf_of s.leaf_states l) (part_at (parts tree t s) n).becomes j (leaf_of new.leaves.states l) (due_at new.due l)) two
              (ap (λ (x : Seated). leaf_of x.states l) gives.leaves ∙ at-one.0, ap (λ d. due_at d l) gives.due ∙ at-one.1));
          held = record {
            long = ap length gives.notes ∙ after-long;
            left = subst (AreLeft entries) (sym gives.notes)
                (left-after-given entries kin old.notes held.long held.left n k.0 k.1 bag first fresh);
            told = subst (λ (x : Seated). AreTold x.states entries new.notes) (sym gives.leaves)
                (subst (AreTold old.leaves.states entries) (sym gives.notes) after-told);
          };
          states_long = ap (λ (x : Seated). length x.states) gives.leaves;
          due_long = ap length gives.due;
        }
