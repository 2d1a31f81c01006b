use Rattle.std.proofs.Common.{rules, ◌≡◌, ◌++◌, [], ◌∷◌, None, map, ap, ◌∙◌}
use Rattle.std.proofs.lemmas.List.{map_push}
use Rattle.tree_tables.specs.Stations.{station_in}
use Rattle.tree_tables.proofs.growing.Growing.component.Goals as goal

pub returns-clause-entries : goal.returns-clause-entries
returns-clause-entries c =
    let pushed : c.push.new.self.items ≡ c.args.self.now.entries.items ++ record { parent = c.args.parent; children = c.args.children; leaf = None; outs = c.args.outs; ins = c.args.ins } ∷ [] = search rules in
    ap (map station_in) pushed
    ∙ map_push station_in c.args.self.now.entries.items (record { parent = c.args.parent; children = c.args.children; leaf = None; outs = c.args.outs; ins = c.args.ins })
