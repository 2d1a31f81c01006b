-- A served run before its first cycle.
use Rattle.std.proofs.Common.{◌≡◌, ℕ, ℤ, ◌≤◌, Option, None, List, [], map, sym, ◌∙◌, ap, subst, arith}
use Rattle.std.specs.Prelude.{IsTrue}
use Rattle.std.specs.List.{All}
use Rattle.quantity.specs.declared.bounds.TheConstants.{MAX_DELAY}
use Rattle.atomic_face.specs.StockView.{Stocked}
use Rattle.atomic_face.specs.Classes.{Bag}
use Rattle.event_list.specs.Events.{Event}
use Rattle.model_leaves.specs.declared.table.Model.{Model}
use Rattle.model_tree.specs.Tree.{Tree, ins_of}
use Rattle.model_tree.specs.Tree as trees
use Rattle.model_leaves.specs.Leaves.{OfTree}
use Rattle.model_tree.specs.Sound.{is_sound_model}
use Rattle.run_model.specs.Cycle.{LeafState, leaf_next, initial_leaf}
use Rattle.run_model.specs.Fitting.{FitsTree, StartFits}
use Rattle.run_model.specs.Run.{RunState, start}
use Rattle.sparse_cycle.specs.Feed.{AreAtInputs}
use Rattle.run_leaves.specs.Seated.{Seated, settings_in, settings_at, tree_at}
use Rattle.run_leaves.specs.Waiting.{WaitsAtStart}
use Rattle.run_leaves.proofs.AtStart.{initial-wait}
use Rattle.served_tree.specs.Linked.{HasPorts}
use Rattle.tree_mail.specs.declared.mail.Mail.{Mail}
use Rattle.tree_mail.specs.declared.tables.Tables.{Tables}
use Rattle.tree_tables.specs.declared.entry.Entry.{Entry}
use Rattle.tree_mail.specs.Notes.{notes_of}
use Rattle.tree_mail.specs.Mail.{messages_in, all_kept, service_of}
use Rattle.tree_mail.specs.Tabled.{AreTables}
use Rattle.tree_serve.specs.Processing.{no_service}
use Rattle.tree_serve.specs.Holds.{seen_as, HoldsServed}
use Rattle.tree_serve.proofs.Keeping.{none-kept}

-- nothing waits, and nothing is kept
pub no-service-yet : (states : List LeafState) (entries : List Entry) (mail : Mail)
    → mail.waiting ≡ [] → mail.kept.items ≡ []
    → service_of entries states mail ≡ no_service
no-service-yet states entries mail waits kept =
    λ i. record {
      waiting = messages_in (waits i);
      kept = (ap (λ ks. all_kept states entries (notes_of ks)) kept ∙ none-kept states entries) i;
    }

-- the top of a model is a coupled component
model-ports : (m : Model) (settings : List (List ℤ)) → HasPorts (tree_at m settings)
model-ports m settings = tt

module _ (m : Model) (stock : List Stocked) (leaves : Seated) (model : leaves.model ≡ m)
    (settings : leaves.settings ≡ settings_in stock)
    (states : leaves.states ≡ map initial_leaf (trees.leaves (tree_at m (settings_in stock)))) where
  tree-is : tree_at m (settings_in stock) ≡ tree_at leaves.model leaves.settings
  tree-is = λ i. tree_at (sym model i) (sym settings i)

  pub waits-there : All WaitsAtStart leaves.states
  waits-there =
      subst (λ (ss : List LeafState). All WaitsAtStart ss) (sym states) (initial-wait (trees.leaves (tree_at m (settings_in stock))))

  pub state-there : (events : List Event)
      → ◌≡◌ {A = RunState} (record { leaf_states = leaves.states; events = events; last = None; count = 0 }) (start (tree_at leaves.model leaves.settings) events)
  state-there events =
      λ i. record {
        leaf_states = (states ∙ ap (λ t. map initial_leaf (trees.leaves t)) tree-is) i;
        events = events;
        last = None;
        count = 0;
      }

  pub made-holds : StartFits → (tables : Tables) (events : List Event) (end limit : ℕ) (due : List (Option ℕ))
      (inputs : Bag) (mail : Mail) → IsTrue (is_sound_model (tree_at m (settings_in stock)))
      → AreAtInputs (ins_of (tree_at m (settings_in stock))) events → end ≤ MAX_DELAY → 1 ≤ limit
      → OfTree m (λ t. AreTables t tables) → due ≡ map leaf_next leaves.states → mail.waiting ≡ []
      → mail.kept.items ≡ []
      → HoldsServed (seen_as leaves tables events end limit None 0 None due None inputs mail) tables mail
  made-holds fit tables events end limit due inputs mail sound at_inputs end_is some tables_are due_are waits kept =
      record {
        served = record {
          tables_are = subst (λ t. AreTables t tables) tree-is (tables_are (settings_at (settings_in stock)));
          sound = subst (λ t. IsTrue (is_sound_model t)) tree-is sound;
          ports = model-ports leaves.model leaves.settings;
          counts = record { end_is = end_is; few = omega arith; some = some };
        };
        at = record {
          nothing_waits = waits;
          nothing_kept = kept;
          at_rest = λ goes. record {
            at_inputs = subst (λ (t : Tree). AreAtInputs (ins_of t) events) tree-is at_inputs;
            fits = subst (λ (t : Tree). FitsTree t leaves.states) tree-is (subst (FitsTree (tree_at m (settings_in stock))) (sym states) (fit (tree_at m (settings_in stock)) []));
            due_are = due_are;
          };
        };
      }
