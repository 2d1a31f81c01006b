use Rattle.std.proofs.Common.{◌<◌, ◌+◌, List, length, arith, ap, sym, ◌∙◌, get_or, subst, []}
use Rattle.model_leaves.specs.declared.path.Source.{Source}
use Rattle.port_net.specs.Nodes.{part_in_span}
use Rattle.route_flat.proofs.Reading.{within-at, count-leaves, read-leaf, port-below, read-port}
use Rattle.route_flat.proofs.port_lists.PortLists.sources.Goals as goal

pub index-requires : goal.index-requires
index-requires c =
    let i = c.self.inside in
    let leaf : c.args.leaf < length i.leaves = omega (arith, count-leaves i.leaves i.ports.items i.outputs.items i.paths.items c.args.self.now c.self.view_is) in
    let at = read-leaf i.leaves i.ports.items i.outputs.items i.paths.items c.args.self.now c.args.leaf c.at-first.result [] c.self.view_is leaf c.at-first.ensures in
    let below = port-below i.ports.items i.paths.items c.at-first.result c.args.port.0 (subst (λ (ls : List (List Source)). c.args.port.0 < length ls) at (c.requires.port [])) in
    let within = within-at i.ports.items i.leaves c.args.leaf c.at-first.result c.self.invariant.leaves leaf c.at-first.ensures in
    omega (arith, below, within, i.ports.ok.0)

pub part-requires : goal.part-requires
part-requires c =
    let i = c.self.inside in
    let leaf : c.args.leaf < length i.leaves = omega (arith, count-leaves i.leaves i.ports.items i.outputs.items i.paths.items c.args.self.now c.self.view_is) in
    let at = read-leaf i.leaves i.ports.items i.outputs.items i.paths.items c.args.self.now c.args.leaf c.at-first.result [] c.self.view_is leaf c.at-first.ensures in
    let below = port-below i.ports.items i.paths.items c.at-first.result c.args.port.0 (subst (λ (ls : List (List Source)). c.args.port.0 < length ls) at (c.requires.port [])) in
    let within = within-at i.ports.items i.leaves c.args.leaf c.at-first.result c.self.invariant.leaves leaf c.at-first.ensures in
    let span = within-at i.paths.items i.ports.items (c.at-first.result.first + c.args.port.0) c.index.result.now c.self.invariant.ports (omega (arith, below, within)) c.index.ensures in
    omega (arith, span, ap length c.deref.ensures.value)

pub returns : goal.returns
returns c = λ d e.
    let i = c.self.inside in
    let leaf : c.args.leaf < length i.leaves = omega (arith, count-leaves i.leaves i.ports.items i.outputs.items i.paths.items c.args.self.now c.self.view_is) in
    let at = read-leaf i.leaves i.ports.items i.outputs.items i.paths.items c.args.self.now c.args.leaf c.at-first.result d c.self.view_is leaf c.at-first.ensures in
    let below = port-below i.ports.items i.paths.items c.at-first.result c.args.port.0 (subst (λ (ls : List (List Source)). c.args.port.0 < length ls) at (c.requires.port d)) in
    let within = within-at i.ports.items i.leaves c.args.leaf c.at-first.result c.self.invariant.leaves leaf c.at-first.ensures in
    c.part.ensures ∙ ap (λ (xs : List Source). part_in_span xs c.index.result.now) c.deref.ensures.value
    ∙ sym (ap (λ (ls : List (List Source)). get_or ls c.args.port.0 e) at ∙ read-port i.ports.items i.paths.items c.at-first.result c.index.result.now c.args.port.0 e below within c.index.ensures)
