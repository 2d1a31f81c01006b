use Rattle.std.proofs.Common.{◌≡◌, ℕ, List, Result, Ok, Err, sym, ◌∙◌, ap, subst}
use Rattle.std.specs.Prelude.{IfOk, OnErr}
use Rattle.route_flat.specs.Counts.{AreCounts}
use Rattle.route_flat.specs.declared.refusal.RouteRefusal.{RouteRefusal}
use Rattle.route_flat.specs.declared.refusal.RouteRefusal.TheVariants.{Memory, TooManyRoutes}
use Rattle.route_flat.proofs.port_lists.PortLists.of_net.Goals as goal

in-any-case : {T E P : Type 0} (r : Result T E) → P → IfOk r (λ x. P)
in-any-case (Ok x) p = p
in-any-case (Err e) p = tt

-- want of memory is no other refusal
not-many : {T : Type 0} (r : Result T RouteRefusal) → OnErr r (r ≡ Err Memory) → r ≡ Err TooManyRoutes → ⊥
not-many (Ok x) h e = cc
not-many (Err x) h e = cc

pub with_counts-requires : goal.with_counts-requires
with_counts-requires c =
    record {
      parted = c.requires;
      counts = subst (λ (ks : List ℕ). AreCounts c.args.net.nodes.items ks) (sym c.deref.ensures.value) c.in-Ok.ensures.counts;
    }

pub returns-in-Ok-clause-few : goal.returns-in-Ok-clause-few
returns-in-Ok-clause-few c = in-any-case c.with_counts.result c.in-Ok.ensures.few

pub returns-in-Ok-clause-many : goal.returns-in-Ok-clause-many
returns-in-Ok-clause-many c = λ e. absurd (not-many c.with_counts.result c.with_counts.ensures.memory e)

pub returns-in-Err-clause-many : goal.returns-in-Err-clause-many
returns-in-Err-clause-many c = λ e.
    let same : c.in-Err.refusal ≡ TooManyRoutes = cc in
    c.in-Err.ensures.many (ap Err same)
