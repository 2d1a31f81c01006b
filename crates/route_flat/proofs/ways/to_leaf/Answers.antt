use Rattle.std.proofs.Common.{◌≡◌, ℕ, ap, ◌∙◌, [], ◌++◌, get_or, length, arith}
use Rattle.model_leaves.specs.declared.path.TargetPort.TheVariants as target
use Rattle.route_flat.specs.Ways.{ways_at, ways_to_port}
use Rattle.route_flat.proofs.Steps.{ways-more}
use Rattle.route_flat.proofs.ways.to_leaf.Goals as goal

pub loop-port-preserved : goal.loop-port-preserved
loop-port-preserved c =
    let ports = get_or c.args.lists.now.ports c.args.leaf [] in
    let count : c.ports-port-end.result ≡ length ports = c.ports-port-end.ensures [] in
    let number : c.in_ok-narrow.field-0 ≡ c.loop-port.port = c.in_ok-narrow.ensures in
    let read : c.sources.result.now ≡ get_or ports c.loop-port.port [] =
    c.sources.ensures [] [] ∙ ap (λ (n : ℕ). get_or ports n []) number in
    let grown : c.to_port.new.into.items ≡ c.loop-port.into.items ++ ways_to_port c.args.leaf (c.loop-port.port, c.sources.result.now) =
    c.in_ok-to_port.ensures ∙ ap (λ (n : ℕ). c.loop-port.into.items ++ ways_at (target.Leaf c.args.leaf (record { 0 = n })) c.sources.result.now) number in
    ways-more (ways_to_port c.args.leaf) ports c.loop-port.port c.sources.result.now [] c.args.into.now.items c.loop-port.into.items c.to_port.new.into.items (omega (arith, count)) read c.loop-port.invariant grown
