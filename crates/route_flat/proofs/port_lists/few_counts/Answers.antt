use Rattle.std.proofs.Common.{◌≡◌, ℕ, List, length, min, arith, ap, ◌∙◌}
use Rattle.std.specs.List.{flat_map}
use Rattle.port_net.specs.Nodes.{sources_at}
use Rattle.route_flat.specs.Counts.{sum_of}
use Rattle.route_flat.proofs.Stood.{of-counts, kept-sum}
use Rattle.route_flat.proofs.Totals.{net-paths}
use Rattle.route_flat.proofs.port_lists.few_counts.Goals as goal

pub returns-then-to_ports-to_outputs-gt-MAX_PATHS-clause-many : goal.returns-then-to_ports-to_outputs-gt-MAX_PATHS-clause-many
returns-then-to_ports-to_outputs-gt-MAX_PATHS-clause-many c = λ e.
    let n = c.args.net.now in
    let are = of-counts c.deref.result.now n.nodes.items c.in_ok-counts.counts.items c.deref.ensures.value c.in_ok-counts.ensures in
    let ports : c.sum_of-to_ports.result ≡ min (length (flat_map (sources_at n.nodes.items) n.ports.items)) 65537 =
    c.sum_of-to_ports.ensures ∙ ap (λ (ks : List ℕ). sum_of ks c.deref-3.result.now) c.deref-2.ensures.value ∙ ap (sum_of n.ports.items) c.deref-3.ensures.value ∙ kept-sum n.nodes.items c.in_ok-counts.counts.items n.ports.items are in
    let outputs : c.sum_of-to_outputs.result ≡ min (length (flat_map (sources_at n.nodes.items) n.outputs.items)) 65537 =
    c.sum_of-to_outputs.ensures ∙ ap (λ (ks : List ℕ). sum_of ks c.deref-5.result.now) c.deref-4.ensures.value ∙ ap (sum_of n.outputs.items) c.deref-5.ensures.value ∙ kept-sum n.nodes.items c.in_ok-counts.counts.items n.outputs.items are in
    let whole = net-paths n c.requires in
    omega (arith, ports, outputs, whole, c.if-to_ports-to_outputs-gt-MAX_PATHS.true)

pub returns-clause-counts : goal.returns-clause-counts
returns-clause-counts c = of-counts c.deref.result.now c.args.net.now.nodes.items c.in_ok-counts.counts.items c.deref.ensures.value c.in_ok-counts.ensures

pub returns-clause-few : goal.returns-clause-few
returns-clause-few c =
    let n = c.args.net.now in
    let are = of-counts c.deref.result.now n.nodes.items c.in_ok-counts.counts.items c.deref.ensures.value c.in_ok-counts.ensures in
    let ports : c.sum_of-to_ports.result ≡ min (length (flat_map (sources_at n.nodes.items) n.ports.items)) 65537 =
    c.sum_of-to_ports.ensures ∙ ap (λ (ks : List ℕ). sum_of ks c.deref-3.result.now) c.deref-2.ensures.value ∙ ap (sum_of n.ports.items) c.deref-3.ensures.value ∙ kept-sum n.nodes.items c.in_ok-counts.counts.items n.ports.items are in
    let outputs : c.sum_of-to_outputs.result ≡ min (length (flat_map (sources_at n.nodes.items) n.outputs.items)) 65537 =
    c.sum_of-to_outputs.ensures ∙ ap (λ (ks : List ℕ). sum_of ks c.deref-5.result.now) c.deref-4.ensures.value ∙ ap (sum_of n.outputs.items) c.deref-5.ensures.value ∙ kept-sum n.nodes.items c.in_ok-counts.counts.items n.outputs.items are in
    let whole = net-paths n c.requires in
    omega (arith, ports, outputs, whole, c.if-to_ports-to_outputs-gt-MAX_PATHS.false)
