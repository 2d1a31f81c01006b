use Rattle.std.proofs.Common.{rules, ◌≡◌, ◌++◌, [], ◌∷◌, map, sym, ap, ◌∙◌}
use Rattle.std.specs.Option.{option_map}
use Rattle.std.proofs.lemmas.List.{map_push}
use Rattle.tree_tables.specs.Stations.{ref_of}
use Rattle.tree_tables.specs.Incoming.{one_of}
use Rattle.tree_tables.proofs.incoming.put_begin.Goals as goal

pub returns : goal.returns
returns c =
    let pushed : c.push.new.self.items ≡ c.args.row.now.items ++ c.in-Some.begin ∷ [] = search rules in
    ap (map ref_of) pushed ∙ map_push ref_of c.args.row.now.items c.in-Some.begin
    ∙ ap (λ o. map ref_of c.args.row.now.items ++ one_of (option_map ref_of o)) (sym c.in-Some.is)
