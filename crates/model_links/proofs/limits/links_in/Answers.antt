use Rattle.std.proofs.Common.{rules, ◌∙◌, ap, sym, length, not, codes}
use borrow.Author.Tests.{tests}
use Rattle.std.proofs.lemmas.Iterator.{YieldsList-from_slice}
use Rattle.std.proofs.lemmas.Iterator.Consumers.{YieldsList-from_filter, count_from_yields_List}
use Rattle.std.specs.Prelude.{◌&&◌}
use Rattle.std.specs.Str.{bytes_eq}
use Rattle.quantity.specs.Bytes.{is_empty}
use Rattle.ma_lines.specs.declared.section.Entry.{Entry}
use Rattle.model_links.proofs.Counted.{filter-both}
use Rattle.model_links.proofs.limits.links_in.Goals as goal

pub returns : goal.returns
returns c =
    let es = c.args.section.now.entries.items in
    count_from_yields_List c.filter.result _ c.count.ensures.ran
    (YieldsList-from_filter _ (λ (e : Entry). bytes_eq e.key (codes "link") && not (is_empty e.value)) (YieldsList-from_slice es cc) c.filter.ensures.closure (λ x r q k. search (rules, tests)))
    ∙ ap length (sym (filter-both (λ (e : Entry). bytes_eq e.key (codes "link")) (λ (e : Entry). not (is_empty e.value)) es))
