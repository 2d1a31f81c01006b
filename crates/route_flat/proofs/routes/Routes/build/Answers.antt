use Rattle.std.proofs.Common.{◌<◌, ◌≤◌, ℕ, sym, subst}
use Rattle.std.proofs.lemmas.Result.{IfOk-weaker}
use Rattle.model_leaves.specs.Models.{tree_of}
use Rattle.model_leaves.specs.Leaves.{no_settings}
use Rattle.route_flat.proofs.Totals.{tree-of-net}
use Rattle.route_flat.proofs.routes.Routes.build.Goals as goal

pub of_net-requires : goal.of_net-requires
of_net-requires c = (c.in_ok-net.ensures no_settings).parted

pub returns-clause-few : goal.returns-clause-few
returns-clause-few c =
    IfOk-weaker c.of_net.result _ _
    (λ r h settings. subst (λ (n : ℕ). n ≤ 65536) (sym (tree-of-net (tree_of c.args.model.now settings) c.in_ok-net.net (c.in_ok-net.ensures settings).routes)) h)
    c.of_net.ensures.few

pub returns-clause-many : goal.returns-clause-many
returns-clause-many c = λ e settings.
    subst (λ (n : ℕ). 65536 < n) (sym (tree-of-net (tree_of c.args.model.now settings) c.in_ok-net.net (c.in_ok-net.ensures settings).routes)) (c.of_net.ensures.many e)
