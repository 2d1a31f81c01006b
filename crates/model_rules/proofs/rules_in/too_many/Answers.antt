use Rattle.std.proofs.Common.{◌≡◌, ◌∷◌, [], List, map, take, drop, ap, ◌∙◌}
use Rattle.ma_lines.specs.declared.section.Entry.{Entry}
use Rattle.model_text.specs.declared.kind.Kind.TheVariants.{TooLarge}
use Rattle.model_text.specs.Refusals.{refusal}
use Rattle.model_text.specs.Keyed.{least_refusal}
use Rattle.model_rules.specs.Parts.{rule_entries}
use Rattle.model_rules.proofs.rules_in.too_many.Goals as goal

abbrev past : List Entry → List Entry
past es = take 1 (drop 1024 (rule_entries es))

pub returns-in_default : goal.returns-in_default
returns-in_default c =
    let none : [] ≡ past c.args.section.now.entries.items = c.in_default.ensures ∙ ap past c.deref.ensures.value in
    ap (λ (es : List Entry). least_refusal (map (λ (e : Entry). refusal e.line TooLarge) es)) none

pub returns : goal.returns
returns c =
    let one : c.in-Some.entry.now ∷ [] ≡ past c.args.section.now.entries.items = c.in-Some.ensures ∙ ap past c.deref.ensures.value in
    ap (λ (es : List Entry). least_refusal (map (λ (e : Entry). refusal e.line TooLarge) es)) one
