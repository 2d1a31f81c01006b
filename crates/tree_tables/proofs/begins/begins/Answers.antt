use Rattle.std.proofs.Common.{rules, ◌≡◌, ◌<◌, ◌+◌, ◌++◌, [], ◌∷◌, List, map, take, length, sym, ap, ◌∙◌}
use Rattle.std.specs.Option.{option_map}
use Rattle.std.proofs.lemmas.List.{map_more, map_push, take_all}
use Rattle.model_tree.specs.declared.link.Link.{Link}
use Rattle.tree_tables.specs.Stations.{ref_of}
use Rattle.tree_tables.specs.Begins.{begin_in}
use Rattle.tree_tables.proofs.begins.begins.Goals as goal

pub loop-link-init : goal.loop-link-init
loop-link-init c = λ settings. ap (map (option_map ref_of)) c.new-all.ensures.items

pub loop-link-preserved : goal.loop-link-preserved
loop-link-preserved c = λ settings.
    let within : c.loop-link.link-index < length c.args.links.now = c.loop-link-test.true in
    let pushed : c.push.new.self.items ≡ c.loop-link.all.items ++ c.in_ok-begin.begin ∷ [] = search rules in
    let at = λ (k : Link). begin_in c.args.inside.now settings c.args.numbers.now c.args.ins.now k.from in
    let took : map at (take (c.loop-link.link-index + 1) c.args.links.now) ≡ map at (take c.loop-link.link-index c.args.links.now) ++ at c.link-item.result ∷ [] =
    map_more at c.args.links.now c.loop-link.link-index c.link-item.result within ∙ ap (λ (x : Link). map at (take c.loop-link.link-index c.args.links.now) ++ at x ∷ []) (sym c.link-item.is) in
    ap (map (option_map ref_of)) pushed
    ∙ map_push (option_map ref_of) c.loop-link.all.items c.in_ok-begin.begin
    ∙ (λ i. c.loop-link.invariant settings i ++ c.in_ok-begin.ensures settings i ∷ [])
    ∙ sym took

pub returns : goal.returns
returns c = λ settings.
    c.loop-link.invariant settings
    ∙ ap (λ (ls : List Link). map (λ (k : Link). begin_in c.args.inside.now settings c.args.numbers.now c.args.ins.now k.from) ls) (take_all c.loop-link.link-index c.args.links.now c.loop-link-test.false)
