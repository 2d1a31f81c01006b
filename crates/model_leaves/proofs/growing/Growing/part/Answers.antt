use Rattle.std.proofs.Common.{rules, ◌≡◌, ◌++◌, [], ◌∷◌}
use Rattle.std.proofs.lemmas.Grind.{common_steps}
use Rattle.model_leaves.proofs.Shown.{grown-none, grown-same, grown-part, slice_get-next}
use Rattle.model_leaves.proofs.growing.Growing.part.Goals as goal

pub returns-in_err-number-clause-grows : goal.returns-in_err-number-clause-grows
returns-in_err-number-clause-grows c = grown-none c.args.self.now

pub returns-in_err-map_err-clause-grows : goal.returns-in_err-map_err-clause-grows
returns-in_err-map_err-clause-grows c = grown-same c.args.self.now c.push.new.self (search rules)

pub returns-clause-grows : goal.returns-clause-grows
returns-clause-grows c =
    let items : c.push.new.self.items ≡ c.args.self.now.parts.items ++ c.args.part ∷ [] = search rules in
    grown-part c.args.self.now c.push.new.self c.args.part items

pub returns-clause-part : goal.returns-clause-part
returns-clause-part c =
    let items : c.push.new.self.items ≡ c.args.self.now.parts.items ++ c.args.part ∷ [] = search rules in
    slice_get-next _ _ _ _ items (search (rules, common_steps))
