use Rattle.std.proofs.Common.{◌≡◌, ◌++◌, ◌∷◌, [], rules, map, ap, ◌∙◌}
use Rattle.std.proofs.lemmas.List.{map_push}
use Rattle.std.specs.Prelude.{Vec}
use Rattle.std.specs.Global.{Global}
use Rattle.std.specs.Option.{option_map}
use Rattle.rule_tree.specs.declared.node.RuleTree.{RuleTree}
use Rattle.rule_syntax.specs.Shown as syntax
use Rattle.source_text.specs.Shown.{texts}
use Rattle.model_walk.specs.Shown.{item_of, refusal_of}
use Rattle.model_walk.specs.Least.{earlier_refusal}
use Rattle.model_walk.specs.Placed.{Placed}
use Rattle.model_walk.specs.Sets.{Sets, sets_shown}
use Rattle.model_rules.specs.Parts.{group_section, rules_shown}
use Rattle.model_rules.proofs.Whole.{named_by, refused_by, sets_by, last_kept}
use Rattle.model_rules.proofs.group.add_named.Goals as goal

pub returns-clause-added : goal.returns-clause-added
returns-clause-added c =
    let g = c.args.group.now in
    let s = group_section g in
    let old = c.args.read.now.rules.items in
    let found = c.in_ok-found.ensures in
    let made = c.in_ok-rules.ensures in
    let items : c.push.new.self.items ≡ old ++ c.in_ok-rules.rules ∷ [] = search rules in
    let names = named_by s c.args.items.now (texts c.args.named.keys) c.requires.items c.requires.named in
    record {
      refused = c.least-read.ensures
          ∙ ap (earlier_refusal (option_map refusal_of c.args.read.now.refused))
          (refused_by c.args.sections.now s (syntax.names_of g.names) (map item_of c.args.items.now) (texts c.args.named.keys) _ _ _ (ap (λ (x : Placed). x.names) c.requires.group) c.requires.items names c.absent.ensures found.refused c.least.ensures);
      items = ap (map sets_shown) items ∙ map_push sets_shown old c.in_ok-rules.rules
          ∙ ap (λ (x : Sets). map sets_shown old ++ x ∷ [])
          (sets_by c.args.sections.now g (texts c.args.named.keys) c.in_ok-found.found c.in_ok-rules.rules c.requires.group names found.sets made.sets made.zones made.ports);
    }

pub returns-clause-last : goal.returns-clause-last
returns-clause-last c =
    let items : c.push.new.self.items ≡ c.args.read.now.rules.items ++ c.in_ok-rules.rules ∷ [] = search rules in
    last_kept _ c.args.read.now.rules.items c.push.new.self.items c.in_ok-rules.rules items (record {
      refused = c.in_ok-found.ensures.refused;
      sets = ap (λ (v : Vec (Vec RuleTree Global) Global). map rules_shown v.items) c.in_ok-rules.ensures.sets ∙ c.in_ok-found.ensures.sets;
    })
