-- A collect message is served.
use Rattle.std.proofs.Common.{◌≡◌, ◌⊎◌, inl, inr, ℕ, suc, ◌<◌, Bool, true, false, Option, Some, None, List, [], ◌∷◌, ◌++◌, map, length, refl, sym, ◌∙◌, ap, subst, arith}
use Rattle.std.specs.Prelude.{slice_get, slice_set, if◌then◌else◌}
use Rattle.std.proofs.lemmas.Bool.{cases_eq}
use Rattle.std.proofs.lemmas.List.{length-set, set-get_or}
use Rattle.atomic_face.specs.Classes.{Bag, is_at}
use Rattle.model_tree.specs.Tree.{Tree}
use Rattle.run_model.specs.Cycle.{LeafState, leaf_next, leaf_emitted, collected_of}
use Rattle.run_model.specs.Run.{RunState, next_instant, computed_of}
use Rattle.sparse_cycle.specs.Sparse.{leaf_of, no_leaf}
use Rattle.sparse_cycle.specs.AnyOrder.{UndueAreQuiet, IsQuiet}
use Rattle.run_leaves.specs.Seated.{Seated}
use Rattle.run_leaves.specs.Moving.{with_seated_state}
use Rattle.tree_tables.specs.declared.entry.Entry.{Entry}
use Rattle.tree_tables.specs.Stations.{leaf_of_node as leaf_number, station_of, stations, station_in}
use Rattle.served_tree.specs.Processors.{Processor, processors}
use Rattle.served_tree.specs.Service.{Message, collect, output, Kept, instant_of, collect_from, causes}
use Rattle.served_tree.specs.Parts.{parts, part_at}
use Rattle.served_tree.specs.Course.{Counts, Stands}
use Rattle.served_tree.specs.Orders.{IsServable}
use Rattle.served_tree.proofs.Works.{InnerWorks, KindWorks}
use Rattle.served_tree.proofs.Counting.{found-in}
use Rattle.served_tree.proofs.Whole.{works}
use Rattle.tree_mail.specs.declared.kept.Became.{Became}
use Rattle.tree_mail.specs.declared.kept.Became.TheVariants as leaf
use Rattle.tree_messages.specs.Due.{due_at}
use Rattle.tree_mail.specs.Notes.{Note, AreLeft}
use Rattle.tree_mail.specs.Mail.{messages_in, lies_at, became_in, kept_in, all_kept}
use Rattle.tree_mail.specs.Puts.{Puts}
use Rattle.tree_messages.specs.Changes.{Changing, leaf_gives, asked_puts, asked_leaves, Asks, AsksAt}
use Rattle.tree_serve.specs.InCycle.{Lies, LeavesLie}
use Rattle.tree_serve.specs.Holds.{AreTold, AreKept}
use Rattle.tree_serve.proofs.Entries.{many, entry-at, children-of, leaf-of}
use Rattle.tree_serve.proofs.Keeping.{kept-same}
use Rattle.tree_serve.proofs.Staying.{collect-waits}
use Rattle.tree_serve.proofs.Within.{state-at, state-set, state-beside, IsLeaf, as-leaf, same-leaf, lie-on}
use Rattle.tree_serve.proofs.Went.{no-number, at-is, Went, kept-beside, told-beside, stayed-so}

-- ---- one leaf

-- a leaf that isn't due gives nothing and stays
gives-by : (b : Bool) (given : Bag) → (b ≡ false → given ≡ [])
    → ◌≡◌ {A = Bag} (if b then given else []) given
gives-by true given quiet = refl
gives-by false given quiet = sym (quiet refl)

set-itself : (states : List LeafState) (l : ℕ) (y : LeafState) → y ≡ leaf_of states l
    → slice_set states l y ≡ states
set-itself states l y same = ap (slice_set states l) same ∙ set-get_or states l no_leaf

both-stay : (b : Became) (x y : Option LeafState) → b ≡ leaf.Stayed → became_in x b ≡ became_in y b
both-stay b x y is = ap (became_in x) is ∙ stays x y ∙ ap (became_in y) (sym is)
  where
    stays : (x y : Option LeafState) → became_in x leaf.Stayed ≡ became_in y leaf.Stayed
    stays x y = refl

asked-by : (b : Bool) (leaves : Seated) (l : ℕ) (y : LeafState) → (b ≡ false → y ≡ leaf_of leaves.states l)
    → (if b then with_seated_state leaves l y else leaves).states ≡ slice_set leaves.states l y
asked-by true leaves l y quiet = refl
asked-by false leaves l y quiet = sym (set-itself leaves.states l y (quiet refl))

module _ (tree : Tree) (t : ℕ) (s : RunState) (servable : IsServable tree s.leaf_states)
    (entries : List Entry) (are : map station_in entries ≡ stations tree) (undue : UndueAreQuiet)
    (instant : next_instant s ≡ Some t) where
  module _ (c : Counts) (ws : List Message) (old new : Changing)
      (stands : Stands (processors tree) (part_at (parts tree t s)) c (record { waiting = ws; kept = all_kept old.leaves.states entries old.notes }))
      (lie : LeavesLie tree t s c old.leaves.states old.due)
      (held : AreKept old.leaves.states entries old.notes)
      (long : length old.leaves.states ≡ length s.leaf_states)
      (n place : ℕ) (is : slice_get ws place ≡ Some (collect n))
      (asks : AsksAt entries t n old new) where
    abbrev kept : List Kept
    kept = all_kept old.leaves.states entries old.notes

    waits : (n < length (processors tree)) × (c n ≡ 0)
    waits = collect-waits (instant_of tree t s) (part_at (parts tree t s)) (works tree t s servable) c (record { waiting = ws; kept = kept }) stands n place is

    p : (q : Processor) × (slice_get (processors tree) n ≡ Some q)
    p = found-in (processors tree) n waits.0

    e : (x : Entry) × (slice_get entries n ≡ Some x) × (station_in x ≡ station_of (processors tree) p.0)
    e = entry-at tree entries are n p.0 p.1

    asks-e : Asks t n e.0 old new
    asks-e = asks e.0 e.1

    number : e.0.leaf ≡ leaf_number p.0.node
    number = leaf-of tree entries are e.0 p.0 e.2

    caused : causes (instant_of tree t s) kept (collect n) ≡ collect_from (instant_of tree t s) n p.0
    caused = at-is (processors tree) n [] (collect_from (instant_of tree t s) n) p.0 p.1

    -- ---- a component

    module _ (none : e.0.leaf ≡ None) where
      inner : InnerWorks (instant_of tree t s) (part_at (parts tree t s)) n p.0
      inner =
          subst (KindWorks (instant_of tree t s) (part_at (parts tree t s)) n p.0) (no-number p.0.node (sym number ∙ none))
          ((works tree t s servable).each n p.0 p.1)

      same-leaves : new.leaves ≡ old.leaves
      same-leaves = subst (λ o. new.leaves ≡ asked_leaves t o old.leaves) none asks-e.leaves

      inner-puts : Puts old.waiting new.waiting (causes (instant_of tree t s) kept (collect n))
      inner-puts =
          subst (λ o. Puts old.waiting new.waiting (asked_puts t n e.0.children.items o old.leaves.states)) none asks-e.puts
          ∙ ap (λ ms. messages_in old.waiting ++ ms)
          (ap (map collect) (children-of tree entries are e.0 p.0 e.2) ∙ sym inner.asks ∙ sym caused)

      asked-inner : Went tree t s servable entries are (collect n) c old new
      asked-inner =
          record {
            puts = inner-puts;
            kept = λ i. all_kept (same-leaves i).states entries (asks-e.notes i);
            leaves = lie-on tree t s servable c n old.leaves.states new.leaves.states old.due new.due lie
                (λ m l q ne q-is l-is. (ap (λ (x : Seated). leaf_of x.states l) same-leaves, ap (λ d. due_at d l) asks-e.due))
                (λ l q q-is l-is.
                let q-same : ◌≡◌ {A = Processor} q p.0 = cc (q-is, p.1) in
                let h : ◌≡◌ {A = Option ℕ} None (Some l) = sym none ∙ number ∙ ap (λ (x : Processor). leaf_number x.node) (sym q-same) ∙ l-is in
                absurd cc);
            held = subst (λ (ks : List Note). AreKept new.leaves.states entries ks) (sym asks-e.notes)
                (subst (λ (x : Seated). AreKept x.states entries old.notes) (sym same-leaves) held);
            states_long = ap (λ (x : Seated). length x.states) same-leaves;
            due_long = ap length asks-e.due;
          }

    -- ---- a leaf

    module _ (l : ℕ) (some : e.0.leaf ≡ Some l) where
      l-is : leaf_number p.0.node ≡ Some l
      l-is = sym number ∙ some

      a-leaf : IsLeaf tree t s servable n l p.0
      a-leaf = as-leaf tree t s servable n l p.0 p.1 l-is

      abbrev was : LeafState
      was = leaf_of s.leaf_states l

      lay : (leaf_of old.leaves.states l ≡ was) × (due_at old.due l ≡ leaf_next was)
      lay =
          subst (λ k. Lies t was (part_at (parts tree t s) n).becomes k (leaf_of old.leaves.states l) (due_at old.due l)) waits.1
          (lie n l p.0 p.1 l-is)

      within : l < length old.leaves.states
      within = let w = a-leaf.within in omega (arith, w, long)

      quiet : is_at t (leaf_next was) ≡ false → IsQuiet t l s.leaf_states
      quiet off = undue t l s instant off

      gives : leaf_gives t (leaf_of old.leaves.states l) ≡ collected_of t was
      gives =
          ap (leaf_gives t) lay.0
          ∙ gives-by (is_at t (leaf_next was)) (collected_of t was) (λ off. (quiet off).gives)

      leaf-caused : causes (instant_of tree t s) kept (collect n) ≡ output n (collected_of t was) ∷ []
      leaf-caused =
          caused
          ∙ (λ i. collect_from (instant_of tree t s) n (record { node = a-leaf.node i; parent = p.0.parent; children = p.0.children }))
          ∙ ap (λ (o : Option LeafState). elim o [ None ↦ [] | Some x ↦ output n (collected_of t x) ∷ [] ]) (state-at s.leaf_states l a-leaf.within)

      leaf-puts : Puts old.waiting new.waiting (causes (instant_of tree t s) kept (collect n))
      leaf-puts =
          subst (λ o. Puts old.waiting new.waiting (asked_puts t n e.0.children.items o old.leaves.states)) some asks-e.puts
          ∙ ap (λ bag. messages_in old.waiting ++ output n bag ∷ []) gives
          ∙ ap (λ ms. messages_in old.waiting ++ ms) (sym leaf-caused)

      states-are : new.leaves.states ≡ slice_set old.leaves.states l (leaf_emitted t was)
      states-are =
          ap (λ (x : Seated). x.states) (subst (λ o. new.leaves ≡ asked_leaves t o old.leaves) some asks-e.leaves)
          ∙ asked-by (is_at t (leaf_next (leaf_of old.leaves.states l))) old.leaves l (leaf_emitted t (leaf_of old.leaves.states l))
          (λ off. ap (leaf_emitted t) lay.0 ∙ (quiet (sym (ap (λ x. is_at t (leaf_next x)) lay.0) ∙ off)).stays ∙ sym lay.0)
          ∙ ap (λ x. slice_set old.leaves.states l (leaf_emitted t x)) lay.0

      k : (j : Note) × (slice_get old.notes n ≡ Some j)
      k = found-in old.notes n (let a = held.long in let b = many tree entries are in let w = waits.0 in omega (arith, a, b, w))

      became : k.0.became ≡ leaf.Stayed
      became =
          stayed-so tree t s servable entries are c old.leaves.states old.notes n l e.0 k.0 e.1 k.1 some within
          (let z = waits.1 in omega (arith, z)) (stands.kept n waits.0)

      leaf-kept : all_kept new.leaves.states entries new.notes ≡ kept
      leaf-kept =
          ap (all_kept new.leaves.states entries) asks-e.notes
          ∙ ap (λ states. all_kept states entries old.notes) states-are
          ∙ kept-same (slice_set old.leaves.states l (leaf_emitted t was)) old.leaves.states entries old.notes old.notes held.long held.long
          (λ m x j j' x-is j-is j'-is.
          let same : ◌≡◌ {A = Note} j j' = cc (j-is, j'-is) in
          here m x j x-is j-is (cases_eq m n) ∙ ap (kept_in old.leaves.states x) same)
        where
          here : (m : ℕ) (x : Entry) (j : Note) → slice_get entries m ≡ Some x → slice_get old.notes m ≡ Some j
              → (m ≡ n) ⊎ (m ≡ n → ⊥)
              → kept_in (slice_set old.leaves.states l (leaf_emitted t was)) x j ≡ kept_in old.leaves.states x j
          here m x j x-is j-is (inl same) =
              let at-n : slice_get old.notes n ≡ Some j = ap (slice_get old.notes) (sym same) ∙ j-is in
              let one : ◌≡◌ {A = Note} j k.0 = cc (at-n, k.1) in
              let stayed-one : j.became ≡ leaf.Stayed = ap (λ (y : Note). y.became) one ∙ became in
              λ i. record { gave = j.gave; answered = j.answered; took = j.took; became = both-stay j.became (lies_at (slice_set old.leaves.states l (leaf_emitted t was)) x.leaf) (lies_at old.leaves.states x.leaf) stayed-one i }
          here m x j x-is j-is (inr ne) =
              kept-beside tree t s servable entries are n l p.0 p.1 l-is old.leaves.states (leaf_emitted t was) m x j ne x-is

      leaf-told : AreTold new.leaves.states entries new.notes
      leaf-told m j x y value x-is y-is j-is moved-to =
          let y-old : slice_get old.notes m ≡ Some y = ap (λ ks. slice_get ks m) (sym asks-e.notes) ∙ y-is in
          let told = held.told m j x y value x-is y-old j-is moved-to in
          subst (λ states. value ≡ computed_of (leaf_of states j)) (sym states-are)
          (by (cases_eq m n) y-old told)
        where
          by : (m ≡ n) ⊎ (m ≡ n → ⊥) → slice_get old.notes m ≡ Some y → value ≡ computed_of (leaf_of old.leaves.states j)
              → value ≡ computed_of (leaf_of (slice_set old.leaves.states l (leaf_emitted t was)) j)
          by (inl same) y-old told =
              let at-n : slice_get old.notes n ≡ Some y = ap (slice_get old.notes) (sym same) ∙ y-old in
              let one : ◌≡◌ {A = Note} y k.0 = cc (at-n, k.1) in
              let h : leaf.Moved value ≡ leaf.Stayed = sym moved-to ∙ ap (λ (z : Note). z.became) one ∙ became in
              absurd cc
          by (inr ne) y-old told =
              told-beside tree t s servable entries are n l p.0 p.1 l-is old.leaves.states (leaf_emitted t was) m j x value ne x-is j-is told

      asked-leaf : Went tree t s servable entries are (collect n) c old new
      asked-leaf =
          record {
            puts = leaf-puts;
            kept = leaf-kept;
            leaves = lie-on tree t s servable c n old.leaves.states new.leaves.states old.due new.due lie
                (λ m j q ne q-is j-is.
                let apart : j ≡ l → ⊥ = λ same. ne (same-leaf tree t s servable m n l q p.0 q-is p.1 (j-is ∙ ap Some same) l-is) in
                (ap (λ states. leaf_of states j) states-are ∙ state-beside old.leaves.states l j (leaf_emitted t was) apart, ap (λ d. due_at d j) asks-e.due))
                (λ j q q-is j-is.
                let q-same : ◌≡◌ {A = Processor} q p.0 = cc (q-is, p.1) in
                let both : ◌≡◌ {A = Option ℕ} (Some j) (Some l) = sym j-is ∙ ap (λ (x : Processor). leaf_number x.node) q-same ∙ l-is in
                let same : j ≡ l = cc in
                let one : 1 ≡ suc (c n) = let z = waits.1 in omega (arith, z) in
                subst (λ i. Lies t (leaf_of s.leaf_states i) (part_at (parts tree t s) n).becomes (suc (c n)) (leaf_of new.leaves.states i) (due_at new.due i)) (sym same)
                (subst (λ i. Lies t was (part_at (parts tree t s) n).becomes i (leaf_of new.leaves.states l) (due_at new.due l)) one
                (ap (λ states. leaf_of states l) states-are ∙ state-set old.leaves.states l (leaf_emitted t was) within, ap (λ d. due_at d l) asks-e.due ∙ lay.1)));
            held = record {
              long = ap length asks-e.notes ∙ held.long;
              left = subst (AreLeft entries) (sym asks-e.notes) held.left;
              told = leaf-told;
            };
            states_long = ap length states-are ∙ length-set old.leaves.states l (leaf_emitted t was);
            due_long = ap length asks-e.due;
          }

    pub asked-went : Went tree t s servable entries are (collect n) c old new
    asked-went = by e.0.leaf refl
      where
        by : (o : Option ℕ) → e.0.leaf ≡ o → Went tree t s servable entries are (collect n) c old new
        by None none = asked-inner none
        by (Some l) some = asked-leaf l some
