use Rattle.std.proofs.Common.{ap, ◌∙◌}
use Rattle.run_leaves.specs.Seated.{tree_at}
use Rattle.served_tree.specs.Processors.{size}
use Rattle.tree_serve.specs.Processing.{Processing, tree_on}
use Rattle.tree_serve.proofs.Entries.{as-many}
use Rattle.tree_serve.proofs.run.TreeRun.processors.Goals as goal

pub returns : goal.returns
returns g c =
    let tables = c.self.invariant.served.tables_are in
    let tree = tree_at c.self.inside.leaves.model c.self.inside.leaves.settings in
    tables.count ∙ as-many tree c.self.inside.tables.entries.items tables.entries
    ∙ ap (λ (p : Processing). size (tree_on p)) c.self.view_is
