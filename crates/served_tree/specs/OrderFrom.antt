-- The order in which a seed serves the children of a component.
use Rattle.std.specs.Prelude.{ℕ, zero, suc, ◌/◌, Some, None, List, ◌∷◌, []}
use Rattle.served_tree.specs.Service.{Instant}
use Rattle.served_tree.specs.Order.{Served, Serving, next_seed, next_served, serve_next}

-- the numbers that a seed gives, one for each message
abbrev pub numbers_from : ℕ → ℕ → List ℕ
numbers_from zero seed = []
numbers_from (suc n) seed = (next_seed seed / 65536) ∷ numbers_from n (next_seed seed)

-- the messages that are served, in their order
unfoldable pub order_from : ℕ → Instant → Serving → List Served
order_from zero at v = []
order_from (suc n) at v =
    elim (next_served at v.service (next_seed v.seed / 65536))
    [ None ↦ [] | Some s ↦ s ∷ order_from n at (serve_next at v) ]
