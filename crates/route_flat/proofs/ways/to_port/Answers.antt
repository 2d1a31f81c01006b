use Rattle.std.proofs.Common.{rules, ◌≡◌, ℕ, ap, ◌∙◌, [], ◌∷◌, ◌++◌, get_or, arith, refl, ◌≤◌, List, sym, append-nil, length}
use Rattle.std.proofs.lemmas.List.{take_all}
use Rattle.model_leaves.specs.declared.path.Source.{Source}
use Rattle.model_leaves.specs.declared.path.Source.TheVariants.{Leaf}
use Rattle.route_flat.specs.Ways.{way_at, ways_at}
use Rattle.route_flat.proofs.Steps.{way-more}
use Rattle.route_flat.proofs.ways.to_port.Goals as goal

pub loop-place-preserved : goal.loop-place-preserved
loop-place-preserved c =
    let source : Source = get_or c.args.sources.now c.loop-place.place (Leaf 0) in
    let pushed : c.push.new.self.items ≡ c.loop-place.into.items ++ way_at c.args.to (c.in_ok-rank.rank, source) ∷ [] = search rules in
    let grown : c.push.new.self.items ≡ c.loop-place.into.items ++ way_at c.args.to (c.loop-place.place, source) ∷ [] =
    pushed ∙ ap (λ (n : ℕ). c.loop-place.into.items ++ way_at c.args.to (n, source) ∷ []) c.in_ok-rank.ensures.number in
    way-more c.args.to c.args.sources.now c.loop-place.place source (Leaf 0) c.args.into.now.items c.loop-place.into.items c.push.new.self.items (omega arith) refl c.loop-place.invariant grown

pub loop-place-init : goal.loop-place-init
loop-place-init c = sym (append-nil c.args.into.now.items)

pub returns : goal.returns
returns c =
    let past : length c.args.sources.now ≤ c.loop-place.place = omega arith in
    c.loop-place.invariant ∙ ap (λ (xs : List Source). c.args.into.now.items ++ ways_at c.args.to xs) (take_all c.loop-place.place c.args.sources.now past)
