use Rattle.std.proofs.Common.{◌≡◌, ℕ, ap, ◌∙◌, [], ◌++◌, get_or, arith, refl, ◌≤◌, List, sym, append-nil, length}
use Rattle.std.specs.List.{enumerate_from, flat_map}
use Rattle.std.proofs.lemmas.List.{take_all}
use Rattle.model_leaves.specs.declared.path.Source.{Source}
use Rattle.route_flat.specs.Ways.{ways_to_leaf}
use Rattle.route_flat.proofs.Steps.{ways-more}
use Rattle.route_flat.proofs.ways.to_leaves.Goals as goal

pub loop-leaf-preserved : goal.loop-leaf-preserved
loop-leaf-preserved c =
    let all = c.args.lists.now.ports in
    let number : c.in_ok-counted.field-0 ≡ c.loop-leaf.leaf = c.in_ok-counted.ensures.number in
    let grown : c.to_leaf.new.into.items ≡ c.loop-leaf.into.items ++ ways_to_leaf (c.loop-leaf.leaf, get_or all c.loop-leaf.leaf []) =
    c.in_ok-to_leaf.ensures [] ∙ ap (λ (n : ℕ). c.loop-leaf.into.items ++ ways_to_leaf (n, get_or all n [])) number in
    ways-more ways_to_leaf all c.loop-leaf.leaf (get_or all c.loop-leaf.leaf []) [] c.args.into.now.items c.loop-leaf.into.items c.to_leaf.new.into.items (omega arith) refl c.loop-leaf.invariant grown

pub loop-leaf-init : goal.loop-leaf-init
loop-leaf-init c = sym (append-nil c.args.into.now.items)

pub returns : goal.returns
returns c =
    let past : length c.args.lists.now.ports ≤ c.loop-leaf.leaf = omega arith in
    c.loop-leaf.invariant ∙ ap (λ (xs : List (List (List Source))). c.args.into.now.items ++ flat_map ways_to_leaf (enumerate_from 0 xs)) (take_all c.loop-leaf.leaf c.args.lists.now.ports past)
