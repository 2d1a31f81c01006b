use Rattle.std.proofs.Common.{◌≤◌, ℕ, length, ap, sym, ◌∙◌, List, [], ◌∷◌, ◌++◌, get_or, arith, refl}
use Rattle.std.proofs.lemmas.List.{take_all}
use Rattle.std.specs.Prelude.{if◌then◌else◌}
use Rattle.model_leaves.specs.declared.path.Source.TheVariants.{Leaf}
use Rattle.model_leaves.specs.declared.path.TargetPort.TheVariants as target
use Rattle.model_leaves.specs.declared.path.Target.{Target}
use Rattle.model_leaves.specs.Numbered.{same_source}
use Rattle.route_flat.specs.declared.way.Way.{Way}
use Rattle.route_flat.specs.Ways.{target_of, targets_among}
use Rattle.route_flat.specs.BySource.{list_from}
use Rattle.route_flat.proofs.Steps.{targets-more}
use Rattle.route_flat.proofs.ways.by_source.Goals as goal

pub loop-number-preserved : goal.loop-number-preserved
loop-number-preserved c = λ from.
    let none : Way = record { path = record { from = Leaf 0; to = target.Leaf 0 (record { 0 = 0 }) }; rank = 0 } in
    let way : Way = get_or c.args.ways.now c.loop-number.number none in
    c.in_ok-put.ensures from
    ∙ ap (λ (n : ℕ). if same_source from way.path.from then list_from c.loop-number.by from ++ target_of (n, way) ∷ [] else list_from c.loop-number.by from) c.in_ok-counted.ensures.number
    ∙ ap (λ (ts : List Target). if same_source from way.path.from then ts ++ target_of (c.loop-number.number, way) ∷ [] else ts) (c.loop-number.invariant from)
    ∙ sym (targets-more c.args.ways.now c.loop-number.number way none from (omega arith) refl)

pub loop-number-init : goal.loop-number-init
loop-number-init c = λ from. c.new-by.ensures from

pub returns : goal.returns
returns c = λ from.
    let past : length c.args.ways.now ≤ c.loop-number.number = omega arith in
    c.loop-number.invariant from ∙ ap (λ (ws : List Way). targets_among ws from) (take_all c.loop-number.number c.args.ways.now past)
