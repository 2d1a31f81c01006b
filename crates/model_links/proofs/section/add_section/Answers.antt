use Rattle.std.proofs.Common.{◌≡◌, ◌++◌, ◌∷◌, [], rules, map, ap, ◌∙◌, Vec, Global}
use Rattle.std.proofs.lemmas.List.{map_push}
use Rattle.model_tree.specs.declared.link.Link.{Link}
use Rattle.model_links.proofs.Judging.{section_links}
use Rattle.model_links.proofs.section.add_section.Goals as goal

pub refused_of-requires-clause-found : goal.refused_of-requires-clause-found
refused_of-requires-clause-found c = c.deref.ensures.value ∙ c.in_ok-found.ensures

pub returns-clause-links : goal.returns-clause-links
returns-clause-links c =
    let old = c.args.all.now.links.items in
    let shown = λ (list : Vec Link Global). list.items in
    let pushed : c.push.new.self.items ≡ old ++ c.in_ok-links.links ∷ [] = search rules in
    ap (map shown) pushed ∙ map_push shown old c.in_ok-links.links
    ∙ ap (λ ls. map shown old ++ ls ∷ []) (c.in_ok-links.ensures ∙ section_links c.args.section.now c.in_ok-found.found.items c.in_ok-found.ensures)
