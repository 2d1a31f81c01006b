use Rattle.std.proofs.Common.{◌∷◌, [], List, sym, subst, ◌∙◌, codes}
use Rattle.std.proofs.lemmas.List.{take_all}
use Rattle.std.proofs.lemmas.List.Elements.{filter_map-append, filter-append}
use Rattle.std.specs.List.{filter_map, flat_map}
use Rattle.std.specs.Str.{bytes_eq}
use Rattle.rule_syntax.specs.Shown.{names_of}
use Rattle.ma_lines.specs.declared.section.Entry.{Entry}
use Rattle.model_text.specs.Rules as R
use Rattle.model_walk.specs.Least.{earlier_refusal}
use Rattle.model_walk.proofs.Orders.{least_of_both}
use Rattle.model_rules.specs.Parts.{AddsRules, HasRules, rule_entries, rule_at}
use Rattle.model_rules.proofs.Adds.{adds_more}
use Rattle.model_rules.proofs.rules_in.rules_in.Goals as goal

pub loop-entry-preserved : goal.loop-entry-preserved
loop-entry-preserved c =
    let names = names_of c.args.names.now in
    adds_more (R.rule_refused names) (filter_map (rule_at names)) rule_entries (filter_map-append (rule_at names)) (filter-append (λ (e : Entry). bytes_eq e.key (codes "rule")))
    c.deref-entry-items.result.now c.loop-entry.entry-index c.entry-item.result c.loop-entry-test.true
    (subst (λ (e : Entry). AddsRules names c.loop-entry.read c.add_entry.new.read (e ∷ [])) c.entry-item.is c.in_ok-add_entry.ensures) c.loop-entry.invariant

pub returns : goal.returns
returns c =
    let names = names_of c.args.names.now in
    let all = subst (λ (es : List Entry). HasRules names es c.loop-entry.read) (take_all c.loop-entry.entry-index c.deref-entry-items.result.now c.loop-entry-test.false ∙ c.deref-entry-items.ensures.value) c.loop-entry.invariant in
    let es = rule_entries c.args.section.now.entries.items in
    record {
      refused = c.least-read.ensures ∙ (λ k. earlier_refusal (all.refused k) (c.too_many.ensures k)) ∙ sym (least_of_both (flat_map (R.rule_refused names) es) (R.too_many es));
      rules = all.items;
    }
