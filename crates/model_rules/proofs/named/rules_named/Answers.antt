use Rattle.std.proofs.Common.{rules, ◌≡◌, ◌++◌, List, map, codes, subst}
use borrow.Author.Tests.{tests}
use Rattle.std.proofs.lemmas.Iterator.{YieldsList-from_slice, YieldsList-from_map_by}
use Rattle.std.proofs.lemmas.Iterator.Consumers.{YieldsList-from_filter, YieldsList-from_chain, YieldsList-at, map_from_collect}
use Rattle.std.specs.Result.{IfOk}
use Rattle.std.specs.Str.{bytes_eq}
use Rattle.ma_lines.specs.declared.section.Entry.{Entry}
use Rattle.ma_lines.specs.InCode.{section_of}
use Rattle.model_text.specs.Keyed.{Item, entries_of}
use Rattle.model_text.specs.Rules.{item_on_line}
use Rattle.model_walk.specs.Shown.{item_of}
use Rattle.model_walk.specs.Placed.{rule_shown}
use Rattle.model_rules.proofs.named.rules_named.Goals as goal

pub returns : goal.returns
returns c =
    let g = c.args.group.now in
    subst (λ (all : List Item). IfOk c.collect.result (λ items. map item_of items.items ≡ all))
    (λ k. map (λ (e : Entry). item_on_line e e.value) (entries_of (codes "localtransition") (section_of g.section.now)) ++ (c.requires k).zone_rules ++ (c.requires k).port_rules)
    (map_from_collect c.collect.result c.collect.ensures.ran
    (YieldsList-from_chain
    (YieldsList-at c.chain-2.ensures.first (YieldsList-from_chain
    (YieldsList-at c.chain.ensures.first (YieldsList-from_map_by _ item_of (λ (e : Entry). item_on_line e e.value)
    (YieldsList-at c.map-local.ensures.source (YieldsList-from_filter _ (λ (e : Entry). bytes_eq e.key (codes "localtransition")) (YieldsList-from_slice g.section.now.entries.items cc) c.filter.ensures.closure (λ x r q k. search (rules, tests))))
    c.map-local.ensures.closure (λ x r q k. search (rules, tests))))
    (YieldsList-at c.chain.ensures.second (YieldsList-from_map_by _ item_of item_of (YieldsList-from_slice g.zone_rules.items cc) c.map-zones.ensures.closure (λ x r q k. search (rules, tests))))
    c.chain.ensures.first_done c.chain.ensures.second_done))
    (YieldsList-at c.chain-2.ensures.second (YieldsList-from_map_by _ item_of rule_shown (YieldsList-from_slice g.port_rules.items cc) c.map-ports.ensures.closure (λ x r q k. search (rules, tests))))
    c.chain-2.ensures.first_done c.chain-2.ensures.second_done))
