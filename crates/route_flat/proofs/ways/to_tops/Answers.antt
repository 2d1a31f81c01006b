use Rattle.std.proofs.Common.{◌≡◌, ℕ, ap, ◌∙◌, [], ◌++◌, get_or, arith, ◌≤◌, List, sym, append-nil, length}
use Rattle.std.specs.List.{enumerate_from, flat_map}
use Rattle.std.proofs.lemmas.List.{take_all}
use Rattle.model_leaves.specs.declared.path.TargetPort.TheVariants as target
use Rattle.model_leaves.specs.declared.path.Source.{Source}
use Rattle.route_flat.specs.Ways.{ways_at, ways_to_top}
use Rattle.route_flat.proofs.Steps.{ways-more}
use Rattle.route_flat.proofs.ways.to_tops.Goals as goal

pub loop-out-preserved : goal.loop-out-preserved
loop-out-preserved c =
    let all = c.args.lists.now.tops in
    let number : c.in_ok-number.number ≡ c.loop-out.out = c.in_ok-number.ensures ∙ c.in_ok-counted.ensures.number in
    let read : c.top_sources.result.now ≡ get_or all c.loop-out.out [] =
    c.top_sources.ensures [] ∙ ap (λ (n : ℕ). get_or all n []) number in
    let grown : c.to_port.new.into.items ≡ c.loop-out.into.items ++ ways_to_top (c.loop-out.out, c.top_sources.result.now) =
    c.in_ok-to_port.ensures ∙ ap (λ (n : ℕ). c.loop-out.into.items ++ ways_at (target.TopOut n) c.top_sources.result.now) number in
    ways-more ways_to_top all c.loop-out.out c.top_sources.result.now [] c.args.into.now.items c.loop-out.into.items c.to_port.new.into.items (omega arith) read c.loop-out.invariant grown

pub loop-out-init : goal.loop-out-init
loop-out-init c = sym (append-nil c.args.into.now.items)

pub returns : goal.returns
returns c =
    let past : length c.args.lists.now.tops ≤ c.loop-out.out = omega arith in
    c.loop-out.invariant ∙ ap (λ (xs : List (List Source)). c.args.into.now.items ++ flat_map ways_to_top (enumerate_from 0 xs)) (take_all c.loop-out.out c.args.lists.now.tops past)
