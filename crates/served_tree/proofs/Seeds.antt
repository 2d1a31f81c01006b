-- The order of a seed is one of all orders.
use Rattle.std.proofs.Common.{◌≡◌, ℕ, zero, suc, ◌*◌, length, refl, ◌∙◌, ap}
use Rattle.served_tree.specs.Processors.{size}
use Rattle.served_tree.specs.Service.{Instant, Service, service_at_start, instant_of}
use Rattle.served_tree.specs.KeptCycle.{service_after, next_after_service}
use Rattle.served_tree.specs.Order.{Serving, next_seed, serve_next, serve_times}
use Rattle.served_tree.specs.OrderFrom.{numbers_from}
use Rattle.served_tree.specs.Orders.{SeedServes}
use Rattle.served_tree.proofs.Whole.{any-order-serves}

so-many : (n seed : ℕ) → length (numbers_from n seed) ≡ n
so-many zero seed = refl
so-many (suc n) seed = ap suc (so-many n (next_seed seed))

chosen-by : (n : ℕ) (at : Instant) (v : Serving)
    → (serve_times n at v).service ≡ service_after at v.service (numbers_from n v.seed)
unfolding serve_times service_after
chosen-by zero at v = refl
chosen-by (suc n) at v = chosen-by n at (serve_next at v)

pub seed-serves : SeedServes
seed-serves =
    record {
      numbers = λ n tree t s v. chosen-by n (instant_of tree t s) v;
      ends = λ tree t s v servable.
          ap (λ (w : Service). w.waiting) (chosen-by (4 * size tree) (instant_of tree t s) (record v { service = service_at_start (instant_of tree t s) }))
          ∙ any-order-serves.ends tree t s (numbers_from (4 * size tree) v.seed) servable (so-many (4 * size tree) v.seed);
      cycle = λ tree t s v servable.
          ap (next_after_service tree t s) (chosen-by (4 * size tree) (instant_of tree t s) (record v { service = service_at_start (instant_of tree t s) }))
          ∙ any-order-serves.cycle tree t s (numbers_from (4 * size tree) v.seed) servable (so-many (4 * size tree) v.seed);
    }
