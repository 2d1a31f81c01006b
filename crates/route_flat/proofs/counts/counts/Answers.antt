use Rattle.std.proofs.Common.{rules, ◌≡◌, ◌<◌, ◌++◌, ℕ, length, map, [], ◌∷◌, ap, ◌∙◌, arith}
use Rattle.std.specs.List.{range_with_len}
use Rattle.route_flat.specs.Counts.{count_of, kept_count}
use Rattle.route_flat.proofs.Stood.{counts-more}
use Rattle.route_flat.proofs.counts.counts.Goals as goal

pub loop-node-init : goal.loop-node-init
loop-node-init c = c.new-counts.ensures.items

pub loop-node-preserved : goal.loop-node-preserved
loop-node-preserved c =
    let within : c.loop-node.node-index < length c.args.nodes.now = c.loop-node-test.true in
    let count : c.count_of-count.result ≡ count_of c.node-item.result c.loop-node.counts.items = search rules in
    let pushed : c.push.new.self.items ≡ c.loop-node.counts.items ++ c.count_of-count.result ∷ [] = search rules in
    counts-more c.args.nodes.now c.loop-node.counts.items c.push.new.self.items c.loop-node.node-index c.count_of-count.result c.node-item.result within c.node-item.is c.loop-node.invariant count pushed

pub returns : goal.returns
returns c =
    let all : c.loop-node.node-index ≡ length c.args.nodes.now = omega arith in
    c.loop-node.invariant ∙ ap (λ (n : ℕ). map (kept_count c.args.nodes.now) (range_with_len 0 n)) all
