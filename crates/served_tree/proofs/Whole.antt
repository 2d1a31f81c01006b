-- A cycle that is served in any order is the cycle of the reference run.
use Rattle.std.proofs.Common.{◌≡◌, ℕ, suc, ◌+◌, ◌*◌, ◌<◌, ◌≤◌, Bool, true, false, not, Option, Some, None, List, [], map, length, refl, sym, ◌∙◌, ap, subst, arith}
use Rattle.std.specs.Prelude.{slice_get, unwrap_or, if◌then◌else◌}
use Rattle.std.specs.List.{enumerate_from, flat_map, filter, filter_map}
use Rattle.std.specs.Option.{option_map}
use Rattle.std.proofs.lemmas.List.{length-map}
use Rattle.std.proofs.lemmas.Option.{slice_get-map}
use Rattle.quantity.specs.declared.value.Value.{Value}
use Rattle.atomic_face.specs.Classes.{Bag}
use Rattle.model_tree.specs.Tree.{Word, Tree, coupled, cells, atomic, leaf_count, leaves, ins_of}
use Rattle.model_tree.specs.Pull.{top_pulled}
use Rattle.run_model.specs.Cycle.{collected_of, output_bags, given_by_leaf, bag_of, bags, Moved, all_asked, moves, first_stop}
use Rattle.run_model.specs.Run.{PortRecord, RunState, records_of_bags, is_of_out, state_record, out_records, at_top, cycle_of, state_after, unless_stop, cycled_at}
use Rattle.served_tree.specs.Processors.{Processor, size, processors}
use Rattle.served_tree.specs.Service.{StoppedLeaf, Kept, Instant, Service, gave_of, child_answer, instant_of, service_at_start, serve}
use Rattle.served_tree.specs.KeptCycle.{of_leaves, out_record, kept_cycle, next_after_service}
use Rattle.served_tree.specs.Parts.{Part, parts, part_at}
use Rattle.served_tree.specs.Course.{parent_in, kept_after, total}
use Rattle.served_tree.specs.Linked.{HasPorts}
use Rattle.served_tree.specs.Orders.{IsServable, served_so_far, IsOnItsWay, EachServes, AnyOrderServes}
use Rattle.served_tree.proofs.Counting.{bump, found-in, parent-is, total-bump, total-zero}
use Rattle.served_tree.proofs.Works.{Placed, Works}
use Rattle.served_tree.proofs.Serving.{kept-is}
use Rattle.served_tree.proofs.Through.{begins, one-step, some-waits, through, full-through}
use Rattle.served_tree.proofs.Lists.{stands-itself, all-from-at, same-by-places}
use Rattle.served_tree.proofs.Placing.{size-pos, size-is, head-at, place-tree}
use Rattle.served_tree.proofs.Parting.{parts-many, ins_in, gives_of, head-part, part-is, Does, works-tree}
use Rattle.served_tree.proofs.Finishing.{kept_last, leaf_parts, of-leaves, leaves-kept, leaves-gave, leaves-took, leaves-became, leaves-stop, outs-are, list-again}

if-not : (b : Bool) → (if b then false else true) ≡ not b
if-not true = refl
if-not false = refl

ins-same : (tree : Tree) → HasPorts tree → ins_of tree ≡ ins_in tree
ins-same (coupled name ins outs children links) has = refl
ins-same (cells g) has = refl
ins-same (atomic name class settings) has = absurd has

module _ (tree : Tree) (t : ℕ) (s : RunState) (servable : IsServable tree s.leaf_states) where
  abbrev at : Instant
  at = instant_of tree t s

  abbrev gave : List Bag
  gave = output_bags t s.leaf_states

  abbrev own : Word → List Value
  own = at_top tree t s.events

  abbrev pt : List Part
  pt = parts tree t s

  abbrev ps : List Processor
  ps = processors tree

  many : length ps ≡ size tree
  many = size-is tree 0 (size tree) 0

  parts-all : length pt ≡ size tree
  parts-all = parts-many at gave tree 0 own

  pub works : Works at (part_at pt)
  works =
      let head = head-at ps tree 0 (size tree) 0 (stands-itself ps) in
      let first = head-part at gave pt refl tree 0 0 own (stands-itself pt) in
      let states = servable.states_are in
      record {
        some = let pos = size-pos tree in omega (arith, many, pos);
        top = let e : parent_in ps 0 ≡ size tree = parent-is ps 0 head.0 head.1 ∙ head.3 in omega (arith, many, e);
        takes = ap (λ ins. bag_of (map own ins)) (ins-same tree servable.ports) ∙ sym first.takes;
        woken = first.woken;
        placed = λ n p is. subst (λ k. Placed ps k p) (let e : 0 + n ≡ n = omega arith in e)
            (all-from-at (Placed ps) 0 ps n p (place-tree ps tree 0 (size tree) 0 (stands-itself ps) (λ pos. absurd (omega (arith, pos)))) is);
        each = λ n p is. subst (λ k. Does at gave pt refl k p) (let e : 0 + n ≡ n = omega arith in e)
            (all-from-at (Does at gave pt refl) 0 ps n p
            (works-tree at gave pt refl tree 0 (size tree) 0 own servable.linked (stands-itself ps) (stands-itself pt) (omega (arith, states))) is);
      }

  -- what top gives is what reaches its outputs
  top-gives : (c : Tree) → HasPorts c
      → gives_of at gave pt refl c 0 ≡ bag_of (top_pulled c (given_by_leaf gave))
  top-gives (coupled name ins outs children links) has = refl
  top-gives (cells g) has = refl
  top-gives (atomic name class settings) has = absurd has

  -- ---- what is kept in the end

  abbrev last : List Kept
  last = map kept_last pt

  module _ (v : Service) (way : IsOnItsWay tree t s (4 * size tree) v) where
    enough : total way.0 (length ps) ≡ 4 * length ps
    enough = ap (total way.0) many ∙ way.2 ∙ ap (λ n. 4 * n) (sym many)

    ended : v.waiting ≡ []
    ended = (full-through at (part_at pt) works way.0 v way.1 enough).0

    kept-is-last : v.kept ≡ last
    kept-is-last =
        let all = full-through at (part_at pt) works way.0 v way.1 enough in
        same-by-places v.kept last (all.1 ∙ many ∙ sym (length-map pt kept_last ∙ parts-all)) (λ n lt.
        let within : n < length ps = omega (arith, lt, all.1) in
        let x = found-in pt n (omega (arith, within, many, parts-all)) in
        all.2 n within ∙ ap (λ p. Some (kept_after p 4)) (part-is at gave pt refl n x.0 x.1)
        ∙ sym (slice_get-map kept_last pt n ∙ ap (option_map kept_last) x.1))

  top-kept : slice_get last 0 ≡ Some (kept_last (part_at pt 0))
  top-kept =
      let x = found-in pt 0 (let pos = size-pos tree in omega (arith, pos, parts-all)) in
      slice_get-map kept_last pt 0 ∙ ap (option_map kept_last) x.1 ∙ ap (λ p. Some (kept_last p)) (sym (part-is at gave pt refl 0 x.0 x.1))

  abbrev qs : List Part
  qs = leaf_parts at gave tree 0 own

  abbrev ms : List Moved
  ms = moves tree t s.leaf_states gave own

  gave-all : of_leaves (λ k. unwrap_or k.gave []) at last ≡ gave
  gave-all =
      of-leaves (λ k. unwrap_or k.gave []) at ps last
      ∙ leaves-kept at gave (λ k. unwrap_or k.gave []) tree 0 (size tree) 0 own
      ∙ leaves-gave at gave tree 0 own
      ∙ list-again gave [] (leaf_count tree) (sym (length-map s.leaf_states (collected_of t) ∙ servable.states_are))

  took-all : of_leaves (λ k. k.took) at last ≡ bags tree gave own
  took-all =
      of-leaves (λ k. k.took) at ps last
      ∙ leaves-kept at gave (λ k. k.took) tree 0 (size tree) 0 own
      ∙ leaves-took at gave tree 0 own

  became-all : of_leaves (λ k. k.became) at last ≡ ms
  became-all =
      of-leaves (λ k. k.became) at ps last
      ∙ leaves-kept at gave (λ k. k.became) tree 0 (size tree) 0 own
      ∙ sym (leaves-became at gave tree 0 own (let e = servable.states_are in omega (arith, e)))
      ∙ ap (all_asked t at.emitted gave (leaves tree) s.leaf_states) (leaves-took at gave tree 0 own)

  stop-is : (child_answer last 0).1 ≡ first_stop 0 ms
  stop-is =
      let first = head-part at gave pt refl tree 0 0 own (stands-itself pt) in
      ap (λ (a : Option ℕ × StoppedLeaf). a.1) (kept-is (λ k. unwrap_or k.answered (None, None)) (None, None) last 0 (kept_last (part_at pt 0)) top-kept ∙ first.answers)
      ∙ leaves-stop at gave tree 0 own
      ∙ ap (first_stop 0) (sym (leaves-became at gave tree 0 own (let e = servable.states_are in omega (arith, e))) ∙ ap (all_asked t at.emitted gave (leaves tree) s.leaf_states) (leaves-took at gave tree 0 own))

  outs-all : map out_record (gave_of last 0) ≡ flat_map out_records (enumerate_from 0 (top_pulled tree (given_by_leaf gave)))
  outs-all =
      let first = head-part at gave pt refl tree 0 0 own (stands-itself pt) in
      ap (map out_record) (kept-is (λ k. unwrap_or k.gave []) [] last 0 (kept_last (part_at pt 0)) top-kept ∙ first.gives ∙ top-gives tree servable.ports)
      ∙ outs-are 0 (top_pulled tree (given_by_leaf gave))

  further : filter (λ (r : PortRecord). if is_of_out r then false else true) (records_of_bags (of_leaves (λ k. unwrap_or k.gave []) at last)) ≡ filter (λ (r : PortRecord). not (is_of_out r)) (records_of_bags gave)
  further = λ i. filter (λ (r : PortRecord). if-not (is_of_out r) i) (records_of_bags (gave-all i))

  cycle-kept : kept_cycle at last ≡ cycle_of tree t gave own ms
  cycle-kept =
      λ i. record {
        time = t;
        y = filter is_of_out (records_of_bags (gave-all i));
        n = further i;
        x = records_of_bags (took-all i);
        s = filter_map state_record (enumerate_from 0 (became-all i));
        out = outs-all i;
      }

  finished-last : unless_stop t (child_answer last 0).1 (kept_cycle at last) (state_after t s (of_leaves (λ k. k.became) at last)) ≡ cycled_at tree t s
  finished-last = λ i. unless_stop t (stop-is i) (cycle-kept i) (state_after t s (became-all i))

  finished-is : (v : Service) → IsOnItsWay tree t s (4 * size tree) v
      → next_after_service tree t s v ≡ cycled_at tree t s
  finished-is v way =
      ap (λ ks. unless_stop t (child_answer ks 0).1 (kept_cycle at ks) (state_after t s (of_leaves (λ k. k.became) at ks))) (kept-is-last v way)
      ∙ finished-last

  -- ---- message by message

  first-way : IsOnItsWay tree t s 0 (service_at_start at)
  first-way = ((λ n. 0), begins at (part_at pt) works, total-zero (size tree))

  waits-on : (many' : ℕ) (v : Service) → IsOnItsWay tree t s many' v → many' < 4 * size tree
      → 1 ≤ length v.waiting
  waits-on many' v way less =
      some-waits at (part_at pt) works way.0 v way.1 (let e : total way.0 (length ps) ≡ many' = ap (total way.0) many ∙ way.2 in omega (arith, e, less, many))

  serves-on : (many' : ℕ) (v : Service) → IsOnItsWay tree t s many' v → many' < 4 * size tree
      → (number : ℕ) → IsOnItsWay tree t s (suc many') (serve at v number)
  serves-on many' v way less number =
      let step = one-step at (part_at pt) works way.0 v number way.1 (waits-on many' v way less) in
      let lt = step.1 in
      let more = total-bump way.0 step.0 (size tree) (omega (arith, lt, many)) in
      (bump way.0 step.0, step.2, more ∙ ap suc way.2)

  -- ---- by numbers

  by-numbers : (numbers : List ℕ) → length numbers ≤ 4 * size tree
      → IsOnItsWay tree t s (length numbers) (served_so_far tree t s numbers)
  by-numbers numbers le =
      let z = total-zero (length ps) in
      let all = through at (part_at pt) works numbers (λ n. 0) (service_at_start at) (begins at (part_at pt) works) (omega (arith, le, z, many)) in
      (all.0, all.1, ap (total all.0) (sym many) ∙ all.2 ∙ (let e : total (λ n. 0) (length ps) + length numbers ≡ length numbers = omega (arith, z) in e))

  by-all : (numbers : List ℕ) → length numbers ≡ 4 * size tree
      → IsOnItsWay tree t s (4 * size tree) (served_so_far tree t s numbers)
  by-all numbers full = subst (λ n. IsOnItsWay tree t s n (served_so_far tree t s numbers)) full (by-numbers numbers (omega (arith, full)))

pub each-serves : EachServes
each-serves =
    record {
      begins = λ tree t s servable. first-way tree t s servable;
      waits = λ tree t s many v servable way less. waits-on tree t s servable many v way less;
      serves = λ tree t s many v servable way less number. serves-on tree t s servable many v way less number;
      ends = λ tree t s v servable way. ended tree t s servable v way;
      cycle = λ tree t s v servable way. finished-is tree t s servable v way;
    }

pub any-order-serves : AnyOrderServes
any-order-serves =
    record {
      stands = λ tree t s numbers servable le. by-numbers tree t s servable numbers le;
      waits = λ tree t s numbers servable lt. waits-on tree t s servable (length numbers) (served_so_far tree t s numbers) (by-numbers tree t s servable numbers (omega (arith, lt))) lt;
      ends = λ tree t s numbers servable full. ended tree t s servable (served_so_far tree t s numbers) (by-all tree t s servable numbers full);
      cycle = λ tree t s numbers servable full. finished-is tree t s servable (served_so_far tree t s numbers) (by-all tree t s servable numbers full);
    }
