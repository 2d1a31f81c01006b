use Rattle.std.proofs.Common.{◌+◌, ◌≤◌, subst}
use Rattle.model_tree.specs.Tree.{groups}
use Rattle.run_model.specs.Visits.{most_offsets}
use Rattle.run_leaves.specs.Seated.{Seated, settings_in, layouts_in, sizes_in, tree_at, visits_at}
use Rattle.run_leaves.proofs.Short.{short}
use Rattle.run_leaves.proofs.leaves.FlatLeaves.moves_are_short.Goals as goal

pub returns : goal.returns
returns g c = λ l.
    let stock = c.self.inside.stock in
    let stores = c.self.inside.stores.items in
    subst (λ (s : Seated). visits_at s l ≤ most_offsets (groups (tree_at s.model s.settings)) + 2) c.self.view_is
    (short (tree_at c.self.inside.model (settings_in stock)) c.self.inside.seats (settings_in stock) (layouts_in stores) (sizes_in stores) c.self.invariant.0 l)
