-- A transition message to a leaf is served.
use Rattle.std.proofs.Common.{◌≡◌, ◌⊎◌, inl, inr, ℕ, zero, suc, ◌<◌, ◌≤◌, Bool, true, false, ◌||◌, Option, Some, None, List, [], ◌∷◌, ◌++◌, map, length, refl, sym, ◌∙◌, ap, subst, arith}
use Rattle.std.specs.Prelude.{slice_get, slice_set, if◌then◌else◌}
use Rattle.std.specs.Option.{option_map}
use Rattle.std.proofs.lemmas.Bool.{cases_eq, cases_lt}
use Rattle.std.proofs.lemmas.List.{length-set, length-map, set-get_or}
use Rattle.std.proofs.lemmas.Option.{slice_get-map, slice_get_past}
use Rattle.quantity.specs.declared.value.Value.{Value}
use Rattle.rule_tree.specs.declared.outcome.RuleStop.{RuleStop}
use Rattle.atomic_face.specs.Classes.{Bag, is_at}
use Rattle.model_tree.specs.Tree.{Tree, Leaf, leaves}
use Rattle.run_model.specs.Cycle.{LeafState, leaf_next, leaf_emitted, emitted_values, has_values, Moved, stayed, moved, stopped, leaf_moved}
use Rattle.run_model.specs.Run.{RunState, next_instant, computed_of}
use Rattle.sparse_cycle.specs.Sparse.{leaf_of, no_leaf, move_to}
use Rattle.sparse_cycle.specs.AnyOrder.{SeeAlike, BecomesTheSame, UndueAreQuiet}
use Rattle.run_leaves.specs.Seated.{tree_at}
use Rattle.run_leaves.specs.Moving.{OnlyLeaf}
use Rattle.tree_tables.specs.declared.entry.Entry.{Entry}
use Rattle.tree_tables.specs.Stations.{leaf_of_node as leaf_number, station_of, stations, station_in}
use Rattle.served_tree.specs.Processors.{leaf_node, Processor, processors}
use Rattle.served_tree.specs.Service.{Message, transition, done, Kept, instant_of, kept_of, became_of, leaf_done, transition_from, keeps, causes}
use Rattle.served_tree.specs.Parts.{parts, part_at}
use Rattle.served_tree.specs.Course.{Counts, Stands}
use Rattle.served_tree.specs.Orders.{IsServable}
use Rattle.served_tree.proofs.Works.{LeafWorks, KindWorks}
use Rattle.served_tree.proofs.Counting.{found-in, found-within, changed-same}
use Rattle.served_tree.proofs.Serving.{kept-is}
use Rattle.served_tree.proofs.Whole.{works}
use Rattle.tree_mail.specs.declared.kept.Became.{Became}
use Rattle.tree_mail.specs.declared.kept.Became.TheVariants as leaf
use Rattle.tree_messages.specs.Due.{due_at}
use Rattle.tree_mail.specs.Notes.{Note, move_noted, AreLeft}
use Rattle.tree_mail.specs.Mail.{messages_in, lies_at, became_in, kept_in, all_kept}
use Rattle.tree_messages.specs.Changes.{Changing, has_to_move, MovesIf, move_in, leaf_answers, MovesOn}
use Rattle.tree_mail.specs.Puts.{done_with}
use Rattle.tree_serve.specs.InCycle.{HasBecome, Lies, LeavesLie}
use Rattle.tree_serve.specs.Holds.{AreTold, AreKept}
use Rattle.tree_serve.proofs.Choosing.{get-same}
use Rattle.tree_serve.proofs.Entries.{processor-at, leaf-of}
use Rattle.tree_serve.proofs.Keeping.{noted-same, noted-other, noted-length, Before, before, kept-at, kept-changed}
use Rattle.tree_serve.proofs.Left.{left-after-move}
use Rattle.tree_serve.proofs.Staying.{transition-waits}
use Rattle.tree_serve.proofs.Within.{state-at, state-set, state-beside, due-set, due-beside, IsLeaf, as-leaf, same-leaf, leaf-processor, family, lie-on}
use Rattle.tree_serve.proofs.Went.{at-is, Went, some-number, kept-beside, told-beside}

-- ---- what all leaves have emitted

emits : (t : ℕ) (s : LeafState) (m : Moved) (k : ℕ) (now : LeafState) (due : Option ℕ) → 2 ≤ k
    → Lies t s m k now due → emitted_values (Some now) ≡ emitted_values (Some (leaf_emitted t s))
emits t s m zero now due le h = absurd (omega (arith, le))
emits t s m (suc zero) now due le h = absurd (omega (arith, le))
emits t s m (suc (suc zero)) now due le h = ap (λ x. emitted_values (Some x)) h.0
emits t s m (suc (suc (suc k))) now due le h = h.0

-- ---- what becomes of the leaf

-- what it becomes in the cycle
abbrev turns : Bool → Moved → Moved
turns b m = if b then m else stayed

-- the leaf lies, answers and is seen as it becomes in the cycle
record Turned (t n l : ℕ) (s : LeafState) (m : Moved) (old new : List LeafState)
    (due due' : List (Option ℕ)) (became : Became) : Type 0 where
  state : LeafState
  states : new ≡ slice_set old l state
  seen : became_in (Some state) became ≡ m
  lies : HasBecome t s m state (due_at due' l)
  answers : done_with n (leaf_answers l became (due_at due' l)) ≡ leaf_done n l (Some s) m
  told : (value : Option Value) → became ≡ leaf.Moved value → value ≡ computed_of state
  due_long : length due' ≡ length due
  others : (k : ℕ) → (k ≡ l → ⊥) → due_at due' k ≡ due_at due k

set-itself : (states : List LeafState) (l : ℕ) → states ≡ slice_set states l (leaf_of states l)
set-itself states l = sym (set-get_or states l no_leaf)

module _ (t n l : ℕ) (s : LeafState) (old new : List LeafState) (due due' : List (Option ℕ))
    (within : l < length old) (inside : l < length due) (lay : leaf_of old l ≡ leaf_emitted t s)
    (was_due : due_at due l ≡ leaf_next s) where
  -- one state at the leaf is like another
  same-state : (x y : LeafState) → new ≡ slice_set old l x → new ≡ slice_set old l y → x ≡ y
  same-state x y a b =
      sym (state-set old l x within) ∙ ap (λ states. leaf_of states l) (sym a ∙ b) ∙ state-set old l y within

  turn-stays : leaf_emitted t s ≡ s → new ≡ old → due' ≡ due → Turned t n l s stayed old new due due' leaf.Stayed
  turn-stays quiet states due-is =
      record {
        state = leaf_of old l;
        states = states ∙ set-itself old l;
        seen = refl;
        lies = (
          ap (λ x. emitted_values (Some x)) lay,
          (lay ∙ quiet, ap (λ d. due_at d l) due-is ∙ was_due ∙ ap leaf_next (sym quiet ∙ sym lay)),
        );
        answers = ap (λ d. done n d None) (ap (λ d. due_at d l) due-is ∙ was_due);
        told = λ value e. absurd cc;
        due_long = ap length due-is;
        others = λ k ne. ap (λ d. due_at d k) due-is;
      }

  turn-moves : (x : LeafState) (value : Option Value) → new ≡ slice_set old l x → value ≡ computed_of x
      → due' ≡ slice_set due l (leaf_next x) → OnlyLeaf l old new
      → Turned t n l s (moved x) old new due due' (leaf.Moved value)
  turn-moves x value states value-is due-is only =
      let now : due_at due' l ≡ leaf_next x = ap (λ d. due_at d l) due-is ∙ due-set due l (leaf_next x) inside in
      record {
        state = x;
        states = states;
        seen = refl;
        lies = (
          ap (λ y. emitted_values (Some y)) (same-state x only.state states only.states) ∙ only.emitted ∙ ap (λ y. emitted_values (Some y)) lay,
          (refl, now),
        );
        answers = ap (λ d. done n d None) now;
        told = λ other e. (let both : value ≡ other = cc in sym both ∙ value-is);
        due_long = ap length due-is ∙ length-set due l (leaf_next x);
        others = λ k ne. ap (λ d. due_at d k) due-is ∙ due-beside due l k (leaf_next x) ne;
      }

  turn-stops : (why stop : RuleStop) → stop ≡ why → OnlyLeaf l old new → due' ≡ due
      → Turned t n l s (stopped why) old new due due' (leaf.Stopped stop)
  turn-stops why stop same only due-is =
      record {
        state = only.state;
        states = only.states;
        seen = ap stopped same;
        lies = (only.emitted ∙ ap (λ y. emitted_values (Some y)) lay, tt);
        answers = ap (λ w. done n None (Some (l, w))) same;
        told = λ value e. absurd cc;
        due_long = ap length due-is;
        others = λ k ne. ap (λ d. due_at d k) due-is;
      }

  turned : (b : Bool) (m : Moved) (became : Became) → (b ≡ false → leaf_emitted t s ≡ s)
      → MovesIf b l m old new due due' became → Turned t n l s (turns b m) old new due due' became
  turned false m leaf.Stayed quiet h = turn-stays (quiet refl) h.1 h.2
  turned false m (leaf.Moved value) quiet h = absurd (let e : leaf.Moved value ≡ leaf.Stayed = h.0 in cc)
  turned false m (leaf.Stopped why) quiet h = absurd (let e : leaf.Stopped why ≡ leaf.Stayed = h.0 in cc)
  turned true (moved x) (leaf.Moved value) quiet h = turn-moves x value h.0 h.1 h.2 h.3
  turned true (stopped why) (leaf.Stopped stop) quiet h = turn-stops why stop h.0 h.1 h.2
  turned true stayed leaf.Stayed quiet h = absurd h
  turned true stayed (leaf.Moved value) quiet h = absurd h
  turned true stayed (leaf.Stopped why) quiet h = absurd h
  turned true (moved x) leaf.Stayed quiet h = absurd h
  turned true (moved x) (leaf.Stopped why) quiet h = absurd h
  turned true (stopped why) leaf.Stayed quiet h = absurd h
  turned true (stopped why) (leaf.Moved value) quiet h = absurd h

-- one that doesn't have to move isn't due
not-due : (a b c : Bool) → (a || b || c) ≡ false → a ≡ false
not-due true true true e = absurd cc
not-due true true false e = absurd cc
not-due true false true e = absurd cc
not-due true false false e = absurd cc
not-due false b c e = refl

module _ (tree : Tree) (t : ℕ) (s : RunState) (servable : IsServable tree s.leaf_states)
    (entries : List Entry) (are : map station_in entries ≡ stations tree) (undue : UndueAreQuiet)
    (alike : BecomesTheSame) (instant : next_instant s ≡ Some t) where
  -- all leaves are seen as after their emission
  see-alike : (c : Counts) (now : List LeafState) (due : List (Option ℕ)) → LeavesLie tree t s c now due
      → length now ≡ length s.leaf_states → ((m : ℕ) → m < length (processors tree) → 2 ≤ c m)
      → SeeAlike now (map (leaf_emitted t) s.leaf_states)
  see-alike c now due lie long all j = elim (cases_lt j (length s.leaf_states)) [
    | inl lt ↦
        let p = leaf-processor tree t s servable j lt in
        let within = found-within (processors tree) p.0 p.1 p.2 in
        let h = emits t (leaf_of s.leaf_states j) (part_at (parts tree t s) p.0).becomes (c p.0) (leaf_of now j) (due_at due j) (all p.0 within) (lie p.0 j p.1 p.2 p.3) in
        ap emitted_values (state-at now j (omega (arith, lt, long)))
        ∙ h
        ∙ sym (ap emitted_values (slice_get-map (leaf_emitted t) s.leaf_states j ∙ ap (option_map (leaf_emitted t)) (state-at s.leaf_states j lt)))
    | inr ge ↦
        let many = length-map s.leaf_states (leaf_emitted t) in
        ap emitted_values (slice_get_past now j (omega (arith, ge, long)))
        ∙ sym (ap emitted_values (slice_get_past (map (leaf_emitted t) s.leaf_states) j (omega (arith, ge, many))))
  ]

  module _ (c : Counts) (ws : List Message) (old : Changing)
      (tree_is : tree_at old.leaves.model old.leaves.settings ≡ tree)
      (stands : Stands (processors tree) (part_at (parts tree t s)) c (record { waiting = ws; kept = all_kept old.leaves.states entries old.notes }))
      (lie : LeavesLie tree t s c old.leaves.states old.due)
      (held : AreKept old.leaves.states entries old.notes)
      (long : length old.leaves.states ≡ length s.leaf_states)
      (due_long : length old.due ≡ length s.leaf_states)
      (n place : ℕ) (bag : Bag) (woken : Bool) (is : slice_get ws place ≡ Some (transition n bag woken))
      (e : Entry) (e-is : slice_get entries n ≡ Some e) (l : ℕ) (some : e.leaf ≡ Some l) where
    abbrev kept : List Kept
    kept = all_kept old.leaves.states entries old.notes

    abbrev keeps-now : List Kept
    keeps-now = keeps (instant_of tree t s) (transition n bag woken) kept

    abbrev was : LeafState
    was = leaf_of s.leaf_states l

    waits : (n < length (processors tree)) × (c n ≡ 2) × (bag ≡ (part_at (parts tree t s) n).takes) × (woken ≡ (part_at (parts tree t s) n).woken) × ((m : ℕ) → m < length (processors tree) → 2 ≤ c m)
    waits = transition-waits (instant_of tree t s) (part_at (parts tree t s)) (works tree t s servable) c (record { waiting = ws; kept = kept }) stands n place bag woken is

    p : (q : Processor) × (slice_get (processors tree) n ≡ Some q) × (station_of (processors tree) q ≡ station_in e)
    p = processor-at tree entries are n e e-is

    l-is : leaf_number p.0.node ≡ Some l
    l-is = sym (leaf-of tree entries are e p.0 (sym p.2)) ∙ some

    me : IsLeaf tree t s servable n l p.0
    me = as-leaf tree t s servable n l p.0 p.1 l-is

    within : l < length old.leaves.states
    within = let w = me.within in omega (arith, w, long)

    inside : l < length old.due
    inside = let w = me.within in omega (arith, w, due_long)

    lay : (leaf_of old.leaves.states l ≡ leaf_emitted t was) × (due_at old.due l ≡ leaf_next was)
    lay =
        subst (λ k. Lies t was (part_at (parts tree t s) n).becomes k (leaf_of old.leaves.states l) (due_at old.due l)) waits.1
        (lie n l p.0 p.1 l-is)

    works-so : LeafWorks (instant_of tree t s) (part_at (parts tree t s)) n p.0
    works-so =
        subst (KindWorks (instant_of tree t s) (part_at (parts tree t s)) n p.0) (some-number p.0.node l l-is)
        ((works tree t s servable).each n p.0 p.1)

    leaf-there : slice_get (processors tree) n ≡ Some (record { node = leaf_node l me.leaf; parent = p.0.parent; children = p.0.children })
    leaf-there = p.1 ∙ (λ i. Some (record { node = me.node i; parent = p.0.parent; children = p.0.children }))

    abbrev goes : Bool
    goes = has_to_move t (leaf_next was) woken bag

    abbrev goes-to : Moved
    goes-to = leaf_moved t (map (leaf_emitted t) s.leaf_states) woken bag me.leaf was

    -- what the definitions make of it
    became-so : became_of (instant_of tree t s) n bag woken ≡ turns goes goes-to
    became-so =
        at-is (processors tree) n stayed _ (record { node = leaf_node l me.leaf; parent = p.0.parent; children = p.0.children }) leaf-there
        ∙ ap (λ (o : Option LeafState). elim o [ None ↦ stayed | Some x ↦ if is_at t (leaf_next x) || woken || has_values bag then leaf_moved t (map (leaf_emitted t) s.leaf_states) woken bag me.leaf x else stayed ]) (state-at s.leaf_states l me.within)

    becomes-so : turns goes goes-to ≡ (part_at (parts tree t s) n).becomes
    becomes-so =
        sym became-so
        ∙ (λ i. became_of (instant_of tree t s) n (waits.2 i) (waits.3 i))
        ∙ works-so.becomes

    -- and the code
    moves-so : move_in t woken bag l old.leaves ≡ goes-to
    moves-so =
        ap (λ (x : Tree). move_to t old.leaves.states woken bag (slice_get (leaves x) l) (leaf_of old.leaves.states l)) tree_is
        ∙ ap (λ (o : Option Leaf). move_to t old.leaves.states woken bag o (leaf_of old.leaves.states l)) me.there
        ∙ alike t l s.leaf_states old.leaves.states woken bag me.leaf (see-alike c old.leaves.states old.due lie long waits.4) lay.0

    quiet : goes ≡ false → leaf_emitted t was ≡ was
    quiet off = (undue t l s instant (not-due (is_at t (leaf_next was)) woken (has_values bag) off)).stays

    module _ (new : Changing) (moves : MovesOn t n l bag woken old new) where
      abbrev became : Became
      became = moves.became

      went : Turned t n l was (turns goes goes-to) old.leaves.states new.leaves.states old.due new.due became
      went =
          turned t n l was old.leaves.states new.leaves.states old.due new.due within inside lay.0 lay.1 goes goes-to became quiet
          (subst (λ m. MovesIf goes l m old.leaves.states new.leaves.states old.due new.due became) moves-so
          (subst (λ d. MovesIf (has_to_move t d woken bag) l (move_in t woken bag l old.leaves) old.leaves.states new.leaves.states old.due new.due became) lay.1 moves.becomes.moves))

      abbrev moved-notes : List Note
      moved-notes = move_noted n bag became old.notes

      k : (j : Note) × (slice_get old.notes n ≡ Some j)
      k = found-in old.notes n (let a = held.long in let w = found-within entries n e e-is in omega (arith, a, w))

      moved-long : length moved-notes ≡ length entries
      moved-long = noted-length old.notes n (λ x. record x { took = bag; became = became }) ∙ held.long

      lies-there : lies_at (slice_set old.leaves.states l went.state) e.leaf ≡ Some went.state
      lies-there =
          ap (lies_at (slice_set old.leaves.states l went.state)) some
          ∙ get-same old.leaves.states l (leaf_of old.leaves.states l) went.state (state-at old.leaves.states l within)

      kept-moved : all_kept (slice_set old.leaves.states l went.state) entries moved-notes ≡ keeps-now
      kept-moved =
          kept-changed old.leaves.states (slice_set old.leaves.states l went.state) entries old.notes moved-notes n e k.0 (record k.0 { took = bag; became = became })
          (λ x. record x { took = bag; became = became_of (instant_of tree t s) n bag woken })
          held.long moved-long e-is k.1 (noted-same old.notes n k.0 (λ x. record x { took = bag; became = became }) k.1)
          (λ i. record { gave = k.0.gave; answered = k.0.answered; took = bag; became = (ap (λ o. became_in o became) lies-there ∙ went.seen ∙ sym became-so) i })
          (λ x y z z' ne y-is z-is z'-is.
          let there : slice_get moved-notes x ≡ Some z = noted-other old.notes n x k.0 (λ w. record w { took = bag; became = became }) k.1 ne ∙ z-is in
          let same : ◌≡◌ {A = Note} z' z = cc (there, z'-is) in
          kept-beside tree t s servable entries are n l p.0 p.1 l-is old.leaves.states went.state x y z' ne y-is ∙ ap (kept_in old.leaves.states y) same)

      -- what it answers
      became-kept : kept_of (λ x. x.became) stayed keeps-now n ≡ turns goes goes-to
      became-kept =
          let at-n = kept-at old.leaves.states entries old.notes n e k.0 e-is k.1 in
          let change : Kept → Kept = λ x. record x { took = bag; became = became_of (instant_of tree t s) n bag woken } in
          kept-is (λ x. x.became) stayed keeps-now n (change (kept_in old.leaves.states e k.0)) (changed-same kept n (kept_in old.leaves.states e k.0) change at-n)
          ∙ became-so

      caused : causes (instant_of tree t s) keeps-now (transition n bag woken) ≡ leaf_done n l (Some was) (turns goes goes-to) ∷ []
      caused =
          at-is (processors tree) n [] (transition_from (instant_of tree t s) keeps-now n bag) p.0 p.1
          ∙ (λ i. transition_from (instant_of tree t s) keeps-now n bag (record { node = me.node i; parent = p.0.parent; children = p.0.children }))
          ∙ (λ i. leaf_done n l (state-at s.leaf_states l me.within i) (became-kept i) ∷ [])

      puts-are : done_with n (leaf_answers l became (due_at new.due l)) ∷ [] ≡ causes (instant_of tree t s) keeps-now (transition n bag woken)
      puts-are = ap (λ m. m ∷ []) went.answers ∙ sym caused

      moved-told : AreTold (slice_set old.leaves.states l went.state) entries moved-notes
      moved-told x j y z value y-is z-is j-is moved-to =
          let b = before old.notes n x (λ w. record w { took = bag; became = became }) z z-is in
          by (cases_eq x n) b b.is
        where
          here : x ≡ n → became ≡ leaf.Moved value → value ≡ computed_of (leaf_of (slice_set old.leaves.states l went.state) j)
          here same is-moved =
              let at-n : slice_get entries n ≡ Some y = ap (slice_get entries) (sym same) ∙ y-is in
              let one : ◌≡◌ {A = Entry} y e = cc (at-n, e-is) in
              let both : ◌≡◌ {A = Option ℕ} (Some j) (Some l) = sym j-is ∙ ap (λ (w : Entry). w.leaf) one ∙ some in
              let number : j ≡ l = cc in
              went.told value is-moved
              ∙ ap computed_of (sym (ap (leaf_of (slice_set old.leaves.states l went.state)) number ∙ state-set old.leaves.states l went.state within))

          by : (x ≡ n) ⊎ (x ≡ n → ⊥) → (b : Before old.notes n x (λ w. record w { took = bag; became = became }) z)
              → (z ≡ b.note) ⊎ ((x ≡ n) × (z ≡ record b.note { took = bag; became = became }))
              → value ≡ computed_of (leaf_of (slice_set old.leaves.states l went.state) j)
          by (inl same) b (inl a) =
              let after : slice_get moved-notes n ≡ Some (record k.0 { took = bag; became = became }) = noted-same old.notes n k.0 (λ w. record w { took = bag; became = became }) k.1 in
              let z-at : slice_get moved-notes n ≡ Some z = ap (slice_get moved-notes) (sym same) ∙ z-is in
              let one : ◌≡◌ {A = Note} z (record k.0 { took = bag; became = became }) = cc (after, z-at) in
              here same (sym (ap (λ (w : Note). w.became) one) ∙ moved-to)
          by (inl same) b (inr a) = here same (sym (ap (λ (w : Note). w.became) a.1) ∙ moved-to)
          by (inr ne) b (inl a) =
              told-beside tree t s servable entries are n l p.0 p.1 l-is old.leaves.states went.state x j y value ne y-is j-is
              (held.told x j y b.note value y-is b.there j-is (ap (λ (w : Note). w.became) (sym a) ∙ moved-to))
          by (inr ne) b (inr a) = absurd (ne a.0)

      pub moved-went : Went tree t s servable entries are (transition n bag woken) c old new
      moved-went =
          record {
            puts = moves.puts ∙ ap (λ ms. messages_in old.waiting ++ ms) puts-are;
            kept =
                ap (all_kept new.leaves.states entries) moves.notes
                ∙ ap (λ states. all_kept states entries moved-notes) went.states
                ∙ kept-moved;
            leaves = lie-on tree t s servable c n old.leaves.states new.leaves.states old.due new.due lie
                (λ x j q ne q-is j-is.
                let apart : j ≡ l → ⊥ = λ same. ne (same-leaf tree t s servable x n l q p.0 q-is p.1 (j-is ∙ ap Some same) l-is) in
                (ap (λ states. leaf_of states j) went.states ∙ state-beside old.leaves.states l j went.state apart, went.others j apart))
                (λ j q q-is j-is.
                let q-same : ◌≡◌ {A = Processor} q p.0 = cc (q-is, p.1) in
                let both : ◌≡◌ {A = Option ℕ} (Some j) (Some l) = sym j-is ∙ ap (λ (x : Processor). leaf_number x.node) q-same ∙ l-is in
                let same : j ≡ l = cc in
                let three : 3 ≡ suc (c n) = let z = waits.1 in omega (arith, z) in
                let there : went.state ≡ leaf_of new.leaves.states l = sym (ap (λ states. leaf_of states l) went.states ∙ state-set old.leaves.states l went.state within) in
                subst (λ i. Lies t (leaf_of s.leaf_states i) (part_at (parts tree t s) n).becomes (suc (c n)) (leaf_of new.leaves.states i) (due_at new.due i)) (sym same)
                (subst (λ i. Lies t was (part_at (parts tree t s) n).becomes i (leaf_of new.leaves.states l) (due_at new.due l)) three
                (subst (λ x. HasBecome t was (part_at (parts tree t s) n).becomes x (due_at new.due l)) there
                (subst (λ m. HasBecome t was m went.state (due_at new.due l)) becomes-so went.lies))));
            held = record {
              long = ap length moves.notes ∙ moved-long;
              left = subst (AreLeft entries) (sym moves.notes)
                  (left-after-move entries (family tree t s servable entries are) old.notes held.long held.left n k.0 k.1 bag became);
              told = subst (λ states. AreTold states entries new.notes) (sym went.states)
                  (subst (AreTold (slice_set old.leaves.states l went.state) entries) (sym moves.notes) moved-told);
            };
            states_long = moves.becomes.kept.long;
            due_long = went.due_long;
          }
