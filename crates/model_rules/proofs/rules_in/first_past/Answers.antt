use Rattle.std.proofs.Common.{rules, codes, option_to_list, ap, sym, ◌∙◌}
use borrow.Author.Tests.{tests}
use Rattle.std.specs.Str.{bytes_eq}
use Rattle.std.proofs.lemmas.Iterator.{YieldsList-from_slice}
use Rattle.std.proofs.lemmas.Iterator.Consumers.{YieldsList-from_filter, nth_from_yields_List}
use Rattle.ma_lines.specs.declared.section.Entry.{Entry}
use Rattle.model_rules.specs.Parts.{rule_entries}
use Rattle.model_rules.proofs.Adds.{first_past}
use Rattle.model_rules.proofs.rules_in.first_past.Goals as goal

pub returns : goal.returns
returns c =
    ap option_to_list
    (nth_from_yields_List c.nth.result _ 1024 c.nth.ensures.ran
    (YieldsList-from_filter _ (λ (e : Entry). bytes_eq e.key (codes "rule")) (YieldsList-from_slice c.args.entries.now cc) c.filter.ensures.closure (λ x r q k. search (rules, tests))))
    ∙ sym (first_past 1024 (rule_entries c.args.entries.now))
