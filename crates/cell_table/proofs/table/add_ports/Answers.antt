use Rattle.std.proofs.Common.{◌≡◌, ◌∙◌, ◌++◌, [], ◌∷◌, ap, append_assoc, rules}
use Rattle.cell_table.proofs.table.add_ports.Goals as goal

pub returns : goal.returns
returns c =
    let old = c.args.values.now.items in
    let further = c.args.further.now in
    let pushed : c.push.new.self.items ≡ old ++ c.args.value.now ∷ [] = search rules in
    c.in_ok-extend_from_slice.ensures.items ∙ ap (λ vs. vs ++ further) pushed ∙ append_assoc old (c.args.value.now ∷ []) further
