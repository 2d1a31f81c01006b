use Rattle.std.proofs.Common.{None, ◌∷◌, [], List, take, get_or, map, sym, ap, ◌∙◌, append-nil}
use Rattle.std.proofs.lemmas.List.{map_more}
use Rattle.std.specs.List.{flat_map}
use Rattle.model_text.specs.Keyed.{Item, least_refusal}
use Rattle.model_text.specs.Rules as R
use Rattle.model_walk.specs.Shown.{item_of}
use Rattle.model_walk.specs.Least.{earlier_refusal}
use Rattle.model_rules.proofs.Adds.{refused_both}
use Rattle.model_rules.proofs.named.absent.Goals as goal

pub loop-item-preserved : goal.loop-item-preserved
loop-item-preserved c =
    let f = R.absent c.args.sections.now in
    let is = c.args.items.now in
    let i = c.loop-item.item-index in
    let x = item_of (get_or is i _) in
    refused_both f (map item_of (take i is)) (x ∷ []) None _ _ c.loop-item.invariant (c.least-first.ensures ∙ ap (earlier_refusal _) (c.absent_item.ensures ∙ ap least_refusal (sym (append-nil (f x)))))
    ∙ ap (λ (us : List Item). least_refusal (flat_map f us)) (sym (map_more item_of is i _ c.loop-item-test.true))
