-- A cycle of which all messages were served: what is kept of its leaves, and its records.
use Rattle.std.proofs.Common.{◌≡◌, ℕ, zero, suc, ◌+◌, ◌*◌, ◌<◌, ◌≤◌, Option, Some, None, List, [], ◌∷◌, ◌++◌, map, length, refl, sym, ◌∙◌, ap, subst, arith}
use Rattle.std.specs.Prelude.{slice_get, unwrap_or}
use Rattle.std.specs.List.{filter, filter_map, flat_map, enumerate_from, cons_option}
use Rattle.std.specs.Option.{option_map}
use Rattle.std.proofs.lemmas.List.{length-map}
use Rattle.std.proofs.lemmas.Option.{slice_get-map, slice_get-get_or}
use Rattle.quantity.specs.declared.value.Value.{Value}
use Rattle.atomic_face.specs.Classes.{Bag}
use Rattle.model_tree.specs.Tree.{Word, Tree, Leaf, leaves}
use Rattle.run_model.specs.Cycle.{LeafState, leaf_next, output_bags, Moved, stayed, moved, stopped, first_stop, after, all_after}
use Rattle.run_model.specs.Run.{RunState, at_top, port_records, records_of_bags, is_of_out, state_record}
use Rattle.sparse_cycle.specs.Sparse.{leaf_of}
use Rattle.tree_tables.specs.declared.entry.Entry.{Entry}
use Rattle.tree_tables.specs.Stations.{Station, leaf_of_node as leaf_number, station_of, stations, station_in}
use Rattle.served_tree.specs.Processors.{Node, coupled_node, group_node, leaf_node, Processor, size, processors}
use Rattle.served_tree.specs.Service.{Message, StoppedLeaf, Kept, Instant, instant_of, kept_of, child_answer, leaf_done, transition_from, done}
use Rattle.served_tree.specs.KeptCycle.{of_leaf, of_leaves, out_record, kept_cycle}
use Rattle.served_tree.specs.Parts.{Part, parts, part_at}
use Rattle.served_tree.specs.Course.{kept_after, total}
use Rattle.served_tree.specs.Orders.{IsServable, IsOnItsWay}
use Rattle.served_tree.proofs.Works.{LeafWorks, KindWorks}
use Rattle.served_tree.proofs.Counting.{found-in, found-within}
use Rattle.served_tree.proofs.Serving.{kept-is}
use Rattle.served_tree.proofs.Through.{all-served, full-through}
use Rattle.served_tree.proofs.Lists.{stands-itself, same-by-places}
use Rattle.served_tree.proofs.Placing.{size-pos, size-is}
use Rattle.served_tree.proofs.Parting.{parts-many, head-part, part-is}
use Rattle.served_tree.proofs.Finishing.{kept_last, leaves_of, of-leaves, leaf_parts, leaves-kept, leaves-stop}
use Rattle.served_tree.proofs.Whole.{works}
use Rattle.tree_mail.specs.declared.kept.Became.{Became}
use Rattle.tree_mail.specs.declared.kept.Became.TheVariants as leaf
use Rattle.tree_messages.specs.Due.{due_at}
use Rattle.tree_mail.specs.Notes.{Note, all_heard}
use Rattle.tree_mail.specs.Mail.{lies_at, became_in, kept_in, all_kept}
use Rattle.tree_mail.specs.Recorded.{given_records, taken_records, next_answered, move_record, move_records, of_leaf_at, by_leaf, is_further, cycle_by, stop_in}
use Rattle.tree_serve.specs.InCycle.{HasBecome, Lies, LeavesLie}
use Rattle.tree_serve.specs.Holds.{AreKept}
use Rattle.tree_serve.proofs.Choosing.{more, place}
use Rattle.tree_serve.proofs.Leaves.{leaf_in, pair_of, pairs, leaf-is}
use Rattle.tree_serve.proofs.Entries.{processor-at, leaf-of, leaf-node}
use Rattle.tree_serve.proofs.Keeping.{kept-at, heard-alike, gave-same, answer-same}
use Rattle.tree_serve.proofs.Went.{some-number}
use Rattle.tree_serve.proofs.Within.{state-at, as-leaf, leaf-processor}

-- ---- what is kept of the leaves among processors

leaf-kept : {A : Type 0} (sel : Kept → A) (x : Node) (k : Kept) (q : ℕ) (cs : List ℕ) (l : ℕ)
    → leaf_number x ≡ Some l → of_leaf sel (record { node = x; parent = q; children = cs }, k) ≡ Some (sel k)
leaf-kept sel (coupled_node name ins outs links) k q cs l is = absurd cc
leaf-kept sel (group_node g) k q cs l is = absurd cc
leaf-kept sel (leaf_node number leaf) k q cs l is = refl

-- it is there or not, as the processor is a leaf or not
same-more : {A : Type 0} (sel : Kept → A) (x : Node) (k : Kept) (q : ℕ) (cs : List ℕ) (n : ℕ)
    → more (pair_of x) n ≡ more (of_leaf sel (record { node = x; parent = q; children = cs }, k)) n
same-more sel (coupled_node name ins outs links) k q cs n = refl
same-more sel (group_node g) k q cs n = refl
same-more sel (leaf_node number leaf) k q cs n = refl

get-more : {A : Type 0} (o : Option A) (xs : List A) (n : ℕ) (x : A) → slice_get xs n ≡ Some x
    → slice_get (cons_option o xs) (more o n) ≡ Some x
get-more None xs n x is = is
get-more (Some y) xs n x is = is

leaf-at-place : {A : Type 0} (sel : Kept → A) (ps : List Processor) (ks : List Kept) (n : ℕ)
    (p : Processor) (k : Kept) (l : ℕ) → slice_get ps n ≡ Some p → slice_get ks n ≡ Some k
    → leaf_number p.node ≡ Some l → slice_get (leaves_of sel ps ks) (place leaf_in ps n) ≡ Some (sel k)
leaf-at-place sel [] ks n p k l p-is k-is l-is = absurd cc
leaf-at-place sel (q ∷ ps) [] n p k l p-is k-is l-is = absurd cc
leaf-at-place sel (q ∷ ps) (j ∷ ks) zero p k l p-is k-is l-is =
    let a : q ≡ p = cc in
    let b : j ≡ k = cc in
    let here : of_leaf sel (q, j) ≡ Some (sel k) = (λ i. of_leaf sel (a i, b i)) ∙ leaf-kept sel p.node k p.parent p.children l l-is in
    ap (λ o. slice_get (cons_option o (leaves_of sel ps ks)) 0) here
leaf-at-place sel (q ∷ ps) (j ∷ ks) (suc n) p k l p-is k-is l-is =
    ap (slice_get (leaves_of sel (q ∷ ps) (j ∷ ks))) (same-more sel q.node j q.parent q.children (place leaf_in ps n))
    ∙ get-more (of_leaf sel (q, j)) (leaves_of sel ps ks) (place leaf_in ps n) (sel k) (leaf-at-place sel ps ks n p k l p-is k-is l-is)

-- ---- stops

none-stops : (f : ℕ) (ms : List Moved) (l : ℕ) (why : _) → first_stop f ms ≡ None
    → slice_get ms l ≡ Some (stopped why) → ⊥
none-stops f [] l why none is = absurd cc
none-stops f (stayed ∷ ms) zero why none is = absurd cc
none-stops f (stayed ∷ ms) (suc l) why none is = none-stops (f + 1) ms l why none is
none-stops f (moved x ∷ ms) zero why none is = absurd cc
none-stops f (moved x ∷ ms) (suc l) why none is = none-stops (f + 1) ms l why none is
none-stops f (stopped w ∷ ms) l why none is = absurd cc

-- ---- leaves after their moves

after-at : (ss : List LeafState) (ms : List Moved) (l : ℕ) (x : LeafState) (m : Moved)
    → slice_get ss l ≡ Some x → slice_get ms l ≡ Some m
    → slice_get (all_after ss ms) l ≡ Some (after x m)
after-at [] ms l x m x-is m-is = absurd cc
after-at (y ∷ ss) [] l x m x-is m-is = absurd cc
after-at (y ∷ ss) (n ∷ ms) zero x m x-is m-is =
    let a : y ≡ x = cc in
    let b : n ≡ m = cc in
    λ i. Some (after (a i) (b i))
after-at (y ∷ ss) (n ∷ ms) (suc l) x m x-is m-is = after-at ss ms l x m x-is m-is

after-long : (ss : List LeafState) (ms : List Moved) → length ss ≤ length ms
    → length (all_after ss ms) ≡ length ss
after-long [] ms le = refl
after-long (s ∷ ss) [] le = absurd (omega (arith, le))
after-long (s ∷ ss) (m ∷ ms) le = ap suc (after-long ss ms (omega (arith, le)))

-- ---- records, leaf by leaf

-- the leaves among processors have these numbers, one after another
abbrev CountedBy : ℕ → Option ℕ → Type 0 → Type 0 → Type 0
CountedBy f None here next = here
CountedBy f (Some l) here next = (l ≡ f) × next

abbrev Counted : ℕ → List Processor → Type 0
Counted f [] = Unit {0}
Counted f (p ∷ ps) = CountedBy f (leaf_number p.node) (Counted f ps) (Counted (f + 1) ps)

counted-by : (x : Node) (f : ℕ) (ps : List Processor) (ls : List Leaf)
    → cons_option (pair_of x) (filter_map leaf_in ps) ≡ enumerate_from f ls
    → ((g : ℕ) (ms : List Leaf) → filter_map leaf_in ps ≡ enumerate_from g ms → Counted g ps)
    → CountedBy f (leaf_number x) (Counted f ps) (Counted (f + 1) ps)
counted-by (coupled_node name ins outs links) f ps ls are rest = rest f ls are
counted-by (group_node g) f ps ls are rest = rest f ls are
counted-by (leaf_node number leaf) f ps [] are rest = absurd cc
counted-by (leaf_node number leaf) f ps (l ∷ ls) are rest =
    let first : ◌≡◌ {A = ℕ × Leaf} (number, leaf) (f, l) = cc in
    let behind : filter_map leaf_in ps ≡ enumerate_from (f + 1) ls = cc in
    (ap (λ (q : ℕ × Leaf). q.0) first, rest (f + 1) ls behind)

counted : (f : ℕ) (ps : List Processor) (ls : List Leaf)
    → filter_map leaf_in ps ≡ enumerate_from f ls → Counted f ps
counted f [] ls are = tt
counted f (p ∷ ps) ls are = counted-by p.node f ps ls are (λ g ms h. counted g ps ms h)

-- entries say which processors are leaves
abbrev Matches : List Processor → List Entry → Type 0
Matches [] [] = Unit {0}
Matches [] (e ∷ es) = ⊥
Matches (p ∷ ps) [] = ⊥
Matches (p ∷ ps) (e ∷ es) = (leaf_number p.node ≡ e.leaf) × Matches ps es

matches : (qs ps : List Processor) (es : List Entry) → map station_in es ≡ map (station_of qs) ps
    → Matches ps es
matches qs [] [] are = tt
matches qs [] (e ∷ es) are = absurd cc
matches qs (p ∷ ps) [] are = absurd cc
matches qs (p ∷ ps) (e ∷ es) are =
    let first : station_in e ≡ station_of qs p = cc in
    let rest : map station_in es ≡ map (station_of qs) ps = cc in
    (ap (λ (s : Station). s.leaf) (sym first), matches qs ps es rest)

module _ {A B : Type 0} (sel : Kept → A) (g : ℕ × A → List B) (f : ℕ → Note → List B)
    (states : List LeafState) where
  -- what is told of each leaf is what is kept of it
  abbrev Agrees : List Entry → List Note → Type 0
  Agrees [] ks = Unit {0}
  Agrees (e ∷ es) [] = Unit {0}
  Agrees (e ∷ es) (k ∷ ks) =
      ((l : ℕ) → e.leaf ≡ Some l → g (l, sel (kept_in states e k)) ≡ f l k) × Agrees es ks

  agrees : (es : List Entry) (ks : List Note)
      → ((n l : ℕ) (e : Entry) (k : Note) → slice_get es n ≡ Some e → slice_get ks n ≡ Some k → e.leaf ≡ Some l → g (l, sel (kept_in states e k)) ≡ f l k)
      → Agrees es ks
  agrees [] ks each = tt
  agrees (e ∷ es) [] each = tt
  agrees (e ∷ es) (k ∷ ks) each =
      (λ l is. each 0 l e k refl refl is, agrees es ks (λ n l x y x-is y-is is. each (suc n) l x y x-is y-is is))

  leaf-more : (x : Node) (q : ℕ) (cs : List ℕ) (e : Entry) (k : Note) (c : ℕ) (here next : Type 0)
      (rest : List A) (behind : List B) → leaf_number x ≡ e.leaf
      → ((l : ℕ) → e.leaf ≡ Some l → g (l, sel (kept_in states e k)) ≡ f l k)
      → CountedBy c (leaf_number x) here next
      → (here → flat_map g (enumerate_from c rest) ≡ behind)
      → (next → flat_map g (enumerate_from (c + 1) rest) ≡ behind)
      → flat_map g (enumerate_from c (cons_option (of_leaf sel (record { node = x; parent = q; children = cs }, kept_in states e k)) rest))
      ≡ of_leaf_at f e.leaf k ++ behind
  leaf-more (coupled_node name ins outs links) q cs e k c here next rest behind is agree count a b =
      a count ∙ ap (λ o. of_leaf_at f o k ++ behind) is
  leaf-more (group_node h) q cs e k c here next rest behind is agree count a b =
      a count ∙ ap (λ o. of_leaf_at f o k ++ behind) is
  leaf-more (leaf_node number leaf) q cs e k c here next rest behind is agree count a b =
      let first : g (c, sel (kept_in states e k)) ≡ f number k = ap (λ i. g (i, sel (kept_in states e k))) (sym count.0) ∙ agree number (sym is) in
      (λ i. first i ++ b count.1 i) ∙ ap (λ o. of_leaf_at f o k ++ behind) is

  by-leaves : (c : ℕ) (ps : List Processor) (es : List Entry) (ks : List Note) → Counted c ps
      → Matches ps es → Agrees es ks
      → flat_map g (enumerate_from c (leaves_of sel ps (all_kept states es ks))) ≡ by_leaf f es ks
  by-leaves c [] [] ks count match agree = refl
  by-leaves c [] (e ∷ es) ks count match agree = absurd match
  by-leaves c (p ∷ ps) [] ks count match agree = absurd match
  by-leaves c (p ∷ ps) (e ∷ es) [] count match agree = refl
  by-leaves c (p ∷ ps) (e ∷ es) (k ∷ ks) count match agree =
      leaf-more p.node p.parent p.children e k c (Counted c ps) (Counted (c + 1) ps) (leaves_of sel ps (all_kept states es ks)) (by_leaf f es ks) match.0 agree.0 count
      (λ h. by-leaves c ps es ks h match.1 agree.1)
      (λ h. by-leaves (c + 1) ps es ks h match.1 agree.1)

-- one that there is, as a list
abbrev listed : {A : Type 0} → Option A → List A
listed None = []
listed (Some x) = x ∷ []

chosen-more : {A : Type 0} (o : Option A) (xs : List A) → cons_option o xs ≡ listed o ++ xs
chosen-more None xs = refl
chosen-more (Some x) xs = refl

chosen-flat : {X Y : Type 0} (h : X → Option Y) (xs : List X)
    → filter_map h xs ≡ flat_map (λ x. listed (h x)) xs
chosen-flat h [] = refl
chosen-flat h (x ∷ xs) =
    chosen-more (h x) (filter_map h xs) ∙ ap (λ ys. listed (h x) ++ ys) (chosen-flat h xs)

-- ---- the cycle

module _ (tree : Tree) (t : ℕ) (s : RunState) (servable : IsServable tree s.leaf_states)
    (entries : List Entry) (are : map station_in entries ≡ stations tree) (states : List LeafState)
    (due : List (Option ℕ)) (notes : List Note) (ws : List Message)
    (way : IsOnItsWay tree t s (4 * size tree) (record { waiting = ws; kept = all_kept states entries notes }))
    (lie : LeavesLie tree t s way.0 states due) (held : AreKept states entries notes)
    (long : length states ≡ length s.leaf_states) (due_long : length due ≡ length s.leaf_states) where
  abbrev at : Instant
  at = instant_of tree t s

  abbrev ps : List Processor
  ps = processors tree

  abbrev part : ℕ → Part
  part = part_at (parts tree t s)

  abbrev kept : List Kept
  kept = all_kept states entries notes

  abbrev gave : List Bag
  gave = output_bags t s.leaf_states

  abbrev own : Word → List Value
  own = at_top tree t s.events

  abbrev pt : List Part
  pt = parts tree t s

  long-ps : length (processors tree) ≡ size tree
  long-ps = size-is tree 0 (size tree) 0

  long-pt : length (parts tree t s) ≡ size tree
  long-pt = parts-many (instant_of tree t s) (output_bags t s.leaf_states) tree 0 (at_top tree t s.events)

  full : (ws ≡ []) × (length (all_kept states entries notes) ≡ length (processors tree))
      × ((n : ℕ) → n < length (processors tree) → slice_get (all_kept states entries notes) n ≡ Some (kept_after (part_at (parts tree t s) n) 4))
  full =
      full-through (instant_of tree t s) (part_at (parts tree t s)) (works tree t s servable) way.0 (record { waiting = ws; kept = all_kept states entries notes }) way.1
      (ap (total way.0) long-ps ∙ way.2 ∙ ap (λ n. 4 * n) (sym long-ps))

  four : (n : ℕ) → n < length (processors tree) → way.0 n ≡ 4
  four n lt =
      all-served (instant_of tree t s) (part_at (parts tree t s)) (works tree t s servable) way.0
      (record { waiting = ws; kept = all_kept states entries notes }) way.1 full.0 n lt

  kept-last : all_kept states entries notes ≡ map kept_last (parts tree t s)
  kept-last =
      same-by-places (all_kept states entries notes) (map kept_last (parts tree t s)) (full.1 ∙ long-ps ∙ sym (length-map (parts tree t s) kept_last ∙ long-pt)) (λ n lt.
      let within : n < length (processors tree) = let a = full.1 in omega (arith, lt, a) in
      let x = found-in (parts tree t s) n (omega (arith, within, long-ps, long-pt)) in
      full.2 n within ∙ ap (λ p. Some (kept_after p 4)) (part-is (instant_of tree t s) (output_bags t s.leaf_states) (parts tree t s) refl n x.0 x.1)
      ∙ sym (slice_get-map kept_last (parts tree t s) n ∙ ap (option_map kept_last) x.1))

  -- what became of the leaves
  abbrev bs : List Moved
  bs = map (λ (x : Part). x.becomes) (leaf_parts (instant_of tree t s) (output_bags t s.leaf_states) tree 0 (at_top tree t s.events))

  became-are : of_leaves (λ k. k.became) (instant_of tree t s) (all_kept states entries notes) ≡ bs
  became-are =
      of-leaves (λ k. k.became) (instant_of tree t s) (processors tree) (all_kept states entries notes)
      ∙ ap (leaves_of (λ k. k.became) (processors tree)) kept-last
      ∙ leaves-kept (instant_of tree t s) (output_bags t s.leaf_states) (λ k. k.became) tree 0 (size tree) 0 (at_top tree t s.events)

  -- that of one leaf
  leaf-became : (n l : ℕ) (p : Processor) → slice_get (processors tree) n ≡ Some p → leaf_number p.node ≡ Some l
      → slice_get bs l ≡ Some (part_at (parts tree t s) n).becomes
  leaf-became n l p p-is l-is =
      let within = found-within (processors tree) n p p-is in
      let x = leaf-node p.node l l-is in
      let there = full.2 n within in
      let spot = leaf-at-place (λ k. k.became) (processors tree) (all_kept states entries notes) n p (kept_after (part_at (parts tree t s) n) 4) l p-is there l-is in
      ap (slice_get bs) (leaf-is tree n p l x.0 p-is x.1).1
      ∙ ap (λ ms. slice_get ms (place leaf_in (processors tree) n)) (sym became-are ∙ of-leaves (λ k. k.became) (instant_of tree t s) (processors tree) (all_kept states entries notes))
      ∙ spot

  -- the stop that top answered is the first of the leaves
  pub stop-is : (child_answer (all_kept states entries notes) 0).1 ≡ first_stop 0 bs
  stop-is =
      let first = head-part (instant_of tree t s) (output_bags t s.leaf_states) (parts tree t s) refl tree 0 0 (at_top tree t s.events) (stands-itself (parts tree t s)) in
      let top = full.2 0 (let pos = size-pos tree in omega (arith, pos, long-ps)) in
      ap (λ (a : Option ℕ × StoppedLeaf). a.1) (kept-is (λ k. unwrap_or k.answered (None, None)) (None, None) (all_kept states entries notes) 0 (kept_after (part_at (parts tree t s) 0) 4) top ∙ first.answers)
      ∙ leaves-stop (instant_of tree t s) (output_bags t s.leaf_states) tree 0 (at_top tree t s.events)

  -- ---- no leaf stopped

  module _ (none : (child_answer (all_kept states entries notes) 0).1 ≡ None) where
    none-stopped : (n l : ℕ) (p : Processor) (why : _) → slice_get (processors tree) n ≡ Some p → leaf_number p.node ≡ Some l
        → (part_at (parts tree t s) n).becomes ≡ stopped why → ⊥
    none-stopped n l p why p-is l-is is =
        none-stops 0 bs l why (sym stop-is ∙ none) (leaf-became n l p p-is l-is ∙ ap Some is)

    lies-so : (m : Moved) (x now : LeafState) (d : Option ℕ) → ((why : _) → m ≡ stopped why → ⊥)
        → HasBecome t x m now d → (now ≡ after x m) × (d ≡ leaf_next now)
    lies-so stayed x now d never h = h.1
    lies-so (moved y) x now d never h = h.1
    lies-so (stopped why) x now d never h = absurd (never why refl)

    -- each leaf lies as after its move, and waits for its next time
    lies-after : (l : ℕ) → l < length s.leaf_states
        → (m : Moved) × (slice_get bs l ≡ Some m) × (leaf_of states l ≡ after (leaf_of s.leaf_states l) m) × (due_at due l ≡ leaf_next (leaf_of states l))
    lies-after l lt =
        let p = leaf-processor tree t s servable l lt in
        let within = found-within (processors tree) p.0 p.1 p.2 in
        let h : Lies t (leaf_of s.leaf_states l) (part_at (parts tree t s) p.0).becomes 4 (leaf_of states l) (due_at due l) =
        subst (λ k. Lies t (leaf_of s.leaf_states l) (part_at (parts tree t s) p.0).becomes k (leaf_of states l) (due_at due l)) (four p.0 within) (lie p.0 l p.1 p.2 p.3) in
        let r = lies-so (part_at (parts tree t s) p.0).becomes (leaf_of s.leaf_states l) (leaf_of states l) (due_at due l) (λ why is. none-stopped p.0 l p.1 why p.2 p.3 is) h in
        ((part_at (parts tree t s) p.0).becomes, leaf-became p.0 l p.1 p.2 p.3, r.0, r.1)

    bs-long : length s.leaf_states ≤ length bs
    bs-long = by (length s.leaf_states) refl
      where
        by : (k : ℕ) → length s.leaf_states ≡ k → length s.leaf_states ≤ length bs
        by zero e = omega (arith, e)
        by (suc k) e =
            let h = lies-after k (omega (arith, e)) in
            let w = found-within bs k h.0 h.1 in
            omega (arith, e, w)

    pub states-are : states ≡ all_after s.leaf_states (of_leaves (λ k. k.became) (instant_of tree t s) (all_kept states entries notes))
    states-are =
        same-by-places states (all_after s.leaf_states bs) (long ∙ sym (after-long s.leaf_states bs bs-long)) (λ l lt.
        let within : l < length s.leaf_states = omega (arith, lt, long) in
        let h = lies-after l within in
        state-at states l lt ∙ ap Some h.2
        ∙ sym (after-at s.leaf_states bs l (leaf_of s.leaf_states l) h.0 (state-at s.leaf_states l within) h.1))
        ∙ ap (all_after s.leaf_states) (sym became-are)

    pub due-are : due ≡ map leaf_next states
    due-are =
        same-by-places due (map leaf_next states) (due_long ∙ sym (length-map states leaf_next ∙ long)) (λ l lt.
        let within : l < length s.leaf_states = omega (arith, lt, due_long) in
        let h = lies-after l within in
        slice_get-get_or due l None lt ∙ ap Some h.3
        ∙ sym (slice_get-map leaf_next states l ∙ ap (option_map leaf_next) (state-at states l (omega (arith, within, long)))))

  -- ---- the records

  count : Counted 0 (processors tree)
  count = counted 0 (processors tree) (leaves tree) (pairs tree)

  match : Matches (processors tree) entries
  match = matches (processors tree) (processors tree) entries are

  given-are : records_of_bags (of_leaves (λ k. unwrap_or k.gave []) (instant_of tree t s) (all_kept states entries notes)) ≡ by_leaf given_records entries notes
  given-are =
      ap records_of_bags (of-leaves (λ k. unwrap_or k.gave []) (instant_of tree t s) (processors tree) (all_kept states entries notes))
      ∙ by-leaves (λ k. unwrap_or k.gave []) port_records given_records states 0 (processors tree) entries notes count match
      (agrees (λ k. unwrap_or k.gave []) port_records given_records states entries notes (λ n l e k e-is k-is is. refl))

  taken-are : records_of_bags (of_leaves (λ k. k.took) (instant_of tree t s) (all_kept states entries notes)) ≡ by_leaf taken_records entries notes
  taken-are =
      ap records_of_bags (of-leaves (λ k. k.took) (instant_of tree t s) (processors tree) (all_kept states entries notes))
      ∙ by-leaves (λ k. k.took) port_records taken_records states 0 (processors tree) entries notes count match
      (agrees (λ k. k.took) port_records taken_records states entries notes (λ n l e k e-is k-is is. refl))

  -- a leaf that moved answered its next time
  next-told : (n l : ℕ) (e : Entry) (k : Note) (x : LeafState) → slice_get entries n ≡ Some e → slice_get notes n ≡ Some k
      → e.leaf ≡ Some l → became_in (lies_at states e.leaf) k.became ≡ moved x → next_answered k.answered ≡ leaf_next x
  next-told n l e k x e-is k-is l-is is =
      let q = processor-at tree entries are n e e-is in
      let within = found-within (processors tree) n q.0 q.1 in
      let number : leaf_number q.0.node ≡ Some l = sym (leaf-of tree entries are e q.0 (sym q.2)) ∙ l-is in
      let me = as-leaf tree t s servable n l q.0 q.1 number in
      let there = full.2 n within in
      let same : ◌≡◌ {A = Option Kept} (Some (kept_in states e k)) (Some (kept_after (part_at (parts tree t s) n) 4)) = sym (kept-at states entries notes n e k e-is k-is) ∙ there in
      let one : kept_in states e k ≡ kept_after (part_at (parts tree t s) n) 4 = cc in
      let becomes : (part_at (parts tree t s) n).becomes ≡ moved x = sym (ap (λ (y : Kept). y.became) one) ∙ is in
      let answered : k.answered ≡ Some (part_at (parts tree t s) n).answers = ap (λ (y : Kept). y.answered) one in
      let works-so : LeafWorks (instant_of tree t s) (part_at (parts tree t s)) n q.0 =
      subst (KindWorks (instant_of tree t s) (part_at (parts tree t s)) n q.0) (some-number q.0.node l number) ((works tree t s servable).each n q.0 q.1) in
      let kept-so : kept_of (λ y. y.became) stayed (all_kept states entries notes) n ≡ (part_at (parts tree t s) n).becomes = kept-is (λ y. y.became) stayed (all_kept states entries notes) n (kept_after (part_at (parts tree t s) n) 4) there in
      let told : leaf_done n l (slice_get s.leaf_states l) (moved x) ∷ [] ≡ done n (part_at (parts tree t s) n).answers.0 (part_at (parts tree t s) n).answers.1 ∷ [] =
      (λ i. leaf_done n l (slice_get s.leaf_states l) ((sym becomes ∙ sym kept-so) i) ∷ [])
      ∙ (λ i. transition_from (instant_of tree t s) (all_kept states entries notes) n (part_at (parts tree t s) n).takes (record { node = sym me.node i; parent = q.0.parent; children = q.0.children }))
      ∙ works-so.answers (all_kept states entries notes) kept-so in
      let next : leaf_next x ≡ (part_at (parts tree t s) n).answers.0 = cc in
      ap next_answered answered ∙ sym next

  move-agrees : (n l : ℕ) (e : Entry) (k : Note) → slice_get entries n ≡ Some e → slice_get notes n ≡ Some k → e.leaf ≡ Some l
      → listed (state_record (l, became_in (lies_at states e.leaf) k.became)) ≡ move_records l k
  move-agrees n l e k e-is k-is l-is = by k.became refl
    where
      there : lies_at states e.leaf ≡ Some (leaf_of states l)
      there =
          let q = processor-at tree entries are n e e-is in
          let number : leaf_number q.0.node ≡ Some l = sym (leaf-of tree entries are e q.0 (sym q.2)) ∙ l-is in
          let me = as-leaf tree t s servable n l q.0 q.1 number in
          let w = me.within in
          ap (lies_at states) l-is ∙ state-at states l (omega (arith, w, long))

      by : (b : Became) → k.became ≡ b
          → listed (state_record (l, became_in (lies_at states e.leaf) k.became)) ≡ move_record l k.became (next_answered k.answered)
      by leaf.Stayed is =
          ap (λ b. listed (state_record (l, became_in (lies_at states e.leaf) b))) is ∙ ap (λ b. move_record l b (next_answered k.answered)) (sym is)
      by (leaf.Stopped why) is =
          ap (λ b. listed (state_record (l, became_in (lies_at states e.leaf) b))) is ∙ ap (λ b. move_record l b (next_answered k.answered)) (sym is)
      by (leaf.Moved value) is =
          let now : became_in (lies_at states e.leaf) k.became ≡ moved (leaf_of states l) = (λ i. became_in (there i) (is i)) in
          let told = held.told n l e k value e-is k-is l-is is in
          let next = next-told n l e k (leaf_of states l) e-is k-is l-is now in
          ap (λ m. listed (state_record (l, m))) now
          ∙ (λ i. record { leaf = l; value = sym told i; next = sym next i } ∷ [])
          ∙ ap (λ b. move_record l b (next_answered k.answered)) (sym is)

  moved-are : filter_map state_record (enumerate_from 0 (of_leaves (λ k. k.became) (instant_of tree t s) (all_kept states entries notes))) ≡ by_leaf move_records entries notes
  moved-are =
      chosen-flat state_record (enumerate_from 0 (of_leaves (λ k. k.became) (instant_of tree t s) (all_kept states entries notes)))
      ∙ ap (λ ms. flat_map (λ m. listed (state_record m)) (enumerate_from 0 ms)) (of-leaves (λ k. k.became) (instant_of tree t s) (processors tree) (all_kept states entries notes))
      ∙ by-leaves (λ k. k.became) (λ m. listed (state_record m)) move_records states 0 (processors tree) entries notes count match
      (agrees (λ k. k.became) (λ m. listed (state_record m)) move_records states entries notes move-agrees)

  pub cycle-is : kept_cycle (instant_of tree t s) (all_kept states entries notes) ≡ cycle_by t entries notes
  cycle-is =
      λ i. record {
        time = t;
        y = filter is_of_out (given-are i);
        n = filter is_further (given-are i);
        x = taken-are i;
        s = moved-are i;
        out = map out_record (sym (gave-same (all_heard notes) (all_kept states entries notes) (heard-alike states entries notes held.long) 0) i);
      }

  pub stop-same : stop_in notes ≡ (child_answer (all_kept states entries notes) 0).1
  stop-same =
      ap (λ (a : Option ℕ × StoppedLeaf). a.1) (answer-same (all_heard notes) (all_kept states entries notes) (heard-alike states entries notes held.long) 0)
