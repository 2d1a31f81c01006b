use Rattle.std.proofs.Common.{rules, ◌≡◌, ◌++◌, ℕ, List, [], ◌∷◌, ap, sym, ◌∙◌}
use Rattle.tree_tables.proofs.Listed.{range-more}
use Rattle.tree_tables.proofs.sizes.numbers_from.Goals as goal

pub loop-i-preserved : goal.loop-i-preserved
loop-i-preserved c =
    let pushed : c.push.new.self.items ≡ c.loop-i.all.items ++ c.in_ok-number.number ∷ [] = search rules in
    pushed ∙ ap (λ (ns : List ℕ). ns ++ c.in_ok-number.number ∷ []) c.loop-i.invariant
    ∙ sym (range-more c.args.first c.loop-i.i c.in_ok-number.number c.in_ok-number.ensures)
