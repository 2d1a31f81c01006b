use Rattle.std.proofs.Common.{rules, ◌≡◌, ◌++◌, [], ◌∷◌, Some, map, ap, ◌∙◌}
use Rattle.std.proofs.lemmas.List.{map_push}
use Rattle.tree_tables.specs.Stations.{row_of, station_in}
use Rattle.tree_tables.proofs.growing.Growing.leaf.Goals as goal

pub returns-clause-entries : goal.returns-clause-entries
returns-clause-entries c =
    let pushed : c.push.new.self.items ≡ c.args.self.now.entries.items ++ record { parent = c.args.parent; children = c.new-children.result; leaf = Some c.args.self.now.leaves; outs = c.new-outs.result; ins = c.args.ins } ∷ [] = search rules in
    ap (map station_in) pushed
    ∙ map_push station_in c.args.self.now.entries.items (record { parent = c.args.parent; children = c.new-children.result; leaf = Some c.args.self.now.leaves; outs = c.new-outs.result; ins = c.args.ins })
    ∙ (λ i. map station_in c.args.self.now.entries.items ++ record { parent = c.args.parent; children = c.new-children.ensures.items i; leaf = Some c.args.self.now.leaves; outs = map row_of (c.new-outs.ensures.items i); ins = map row_of c.args.ins.items } ∷ [])
