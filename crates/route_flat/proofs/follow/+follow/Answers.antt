use Rattle.std.proofs.Common.{rules, ◌≡◌, ◌<◌, ◌++◌, ℕ, List, take, length, sym, ap, ◌∙◌, [], ◌∷◌, arith, append-nil}
use Rattle.std.proofs.lemmas.List.{take_all}
use Rattle.std.proofs.lemmas.Result.{on_ok_weaker}
use Rattle.std.specs.List.{flat_map}
use Rattle.model_leaves.specs.declared.path.Source.{Source}
use Rattle.port_net.specs.declared.net.Node.TheVariants.{Given, Joins}
use Rattle.port_net.specs.Nodes.{sources_at}
use Rattle.route_flat.proofs.Stood.{with-none, followed-more, none-beyond, not-led, led, node-is}
use Rattle.route_flat.proofs.follow.+follow.Goals as goal

pub follow-returns-then-node-nodes : goal.follow-returns-then-node-nodes
follow-returns-then-node-nodes t c = with-none _ _ (none-beyond c.args.nodes.now c.args.node c.if-node-nodes.true)

pub follow-returns-in_ok-map_err-in-Given : goal.follow-returns-in_ok-map_err-in-Given
follow-returns-in_ok-map_err-in-Given t c =
    let within : c.args.node < length c.args.nodes.now = omega arith in
    let pushed : c.push.new.self.items ≡ c.args.into.now.items ++ c.in-Given.source ∷ [] = search rules in
    pushed ∙ ap (λ (l : List Source). c.args.into.now.items ++ l) (node-is c.args.nodes.now c.args.node c.index-nodes-node.result (Given c.in-Given.source) within c.index-nodes-node.is c.in-Given.is)

pub follow-returns-in-Joins : goal.follow-returns-in-Joins
follow-returns-in-Joins t c =
    let within : c.args.node < length c.args.nodes.now = omega arith in
    on_ok_weaker c.follow_all.result
    (λ h. h ∙ ap (λ (ks : List ℕ). c.args.into.now.items ++ flat_map (sources_at (take c.args.node c.args.nodes.now)) ks) c.deref.ensures.value
    ∙ ap (λ (l : List Source). c.args.into.now.items ++ l) (node-is c.args.nodes.now c.args.node c.index-nodes-node.result (Joins c.in-Joins.older) within c.index-nodes-node.is c.in-Joins.is))
    c.follow_all.ensures

pub follow_all-loop-other-init : goal.follow_all-loop-other-init
follow_all-loop-other-init t c = sym (append-nil c.args.into.now.items)

pub follow_all-loop-other-preserved : goal.follow_all-loop-other-preserved
follow_all-loop-other-preserved t c =
    followed-more (sources_at (take c.args.node c.args.nodes.now)) c.args.older.now c.loop-other.other-index c.args.into.now.items c.loop-other.into.items c.follow_one.new.into.items
    c.loop-other-test.true c.loop-other.invariant c.in_ok-follow_one.ensures

pub follow_all-returns : goal.follow_all-returns
follow_all-returns t c =
    c.loop-other.invariant
    ∙ ap (λ (ks : List ℕ). c.args.into.now.items ++ flat_map (sources_at (take c.args.node c.args.nodes.now)) ks) (take_all c.loop-other.other-index c.args.older.now c.loop-other-test.false)

pub follow_one-returns-then-leads : goal.follow_one-returns-then-leads
follow_one-returns-then-leads t c =
    on_ok_weaker c.follow.result
    (λ h. h ∙ ap (λ (l : List Source). c.args.into.now.items ++ l) (led c.args.nodes.now c.args.counts.now c.args.node c.args.other c.requires.node (sym c.leads.ensures ∙ c.if-leads.true)))
    c.follow.ensures

pub follow_one-returns-else-leads : goal.follow_one-returns-else-leads
follow_one-returns-else-leads t c =
    with-none _ _ (not-led c.args.nodes.now c.args.counts.now c.args.node c.args.other c.requires.counts c.requires.node (sym c.leads.ensures ∙ c.if-leads.false))
