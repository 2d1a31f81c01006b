-- What a served cycle keeps of each leaf, and what the next one begins with.
use Rattle.std.specs.Prelude.{ℕ, true, false, Option, Some, None, List, ◌∷◌, map, if◌then◌else◌, unwrap_or, []}
use Rattle.std.specs.List.{filter, filter_map, enumerate_from}
use Rattle.quantity.specs.declared.value.Value.{Value}
use Rattle.atomic_face.specs.declared.class.PortNo.{PortNo}
use Rattle.model_tree.specs.Tree.{Tree}
use Rattle.run_model.specs.Run.{OutRecord, Cycle, RunState, Next, records_of_bags, is_of_out, state_record, state_after, unless_stop}
use Rattle.served_tree.specs.Processors.{Node, leaf_node, Processor, processors}
use Rattle.served_tree.specs.Service.{Instant, Kept, Service, child_answer, gave_of, instant_of, serve}

-- messages are served one after another, each picked by its number from those that wait
unfoldable pub service_after : Instant → Service → List ℕ → Service
service_after at s [] = s
service_after at s (n ∷ ns) = service_after at (serve at s n) ns

-- what was kept of each leaf, in declared order
abbrev pub of_leaf : {A : Type 0} → (Kept → A) → Processor × Kept → Option A
of_leaf {A} part p = of p.0.node
  where
    of : Node → Option A
    of (leaf_node number leaf) = Some (part p.1)
    of node = None

-- a part of what the leaves' processors keep
abbrev pub of_leaves : {A : Type 0} → (Kept → A) → Instant → List Kept → List A
of_leaves part at kept = filter_map (of_leaf part) (zip_with_kept at.processors kept)
  where
    zip_with_kept : List Processor → List Kept → List (Processor × Kept)
    zip_with_kept (p ∷ ps) (k ∷ ks) = (p, k) ∷ zip_with_kept ps ks
    zip_with_kept ps ks = []

-- a value at an output port of the model
abbrev pub out_record : PortNo × Value → OutRecord
out_record o = record { port = o.0.0; value = o.1 }

-- the cycle's records, as the processors kept them
abbrev pub kept_cycle : Instant → List Kept → Cycle
kept_cycle at kept =
    let gave = records_of_bags (of_leaves (λ k. unwrap_or k.gave []) at kept) in
    record {
      time = at.time;
      y = filter is_of_out gave;
      n = filter (λ r. if is_of_out r then false else true) gave;
      x = records_of_bags (of_leaves (λ k. k.took) at kept);
      s = filter_map state_record (enumerate_from 0 (of_leaves (λ k. k.became) at kept));
      out = map out_record (gave_of kept 0);
    }

-- the cycle, or its stop
abbrev pub next_after_service : Tree → ℕ → RunState → Service → Next
next_after_service tree t s v =
    let at = instant_of tree t s in
    unless_stop t (child_answer v.kept 0).1 (kept_cycle at v.kept)
    (state_after t s (of_leaves (λ k. k.became) at v.kept))
