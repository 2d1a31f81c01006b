use Rattle.std.proofs.Common.{List, map, subst, Bor}
use Rattle.std.proofs.lemmas.List.{map-append, take_all}
use Rattle.quantity.specs.Bytes.{Bytes}
use Rattle.source_text.specs.Shown.{texts}
use Rattle.rule_syntax.specs.Shown.{names_of}
use Rattle.model_text.specs.Rules.{of_rules, rules_in, sections_named}
use Rattle.model_rules.specs.Parts.{HasSets}
use Rattle.model_rules.proofs.Adds.{adds_more, sections_joined}
use Rattle.model_rules.proofs.sets.sets.Goals as goal

pub loop-name-preserved : goal.loop-name-preserved
loop-name-preserved c =
    let names = names_of c.args.names.now in
    let ss = c.args.sections.now in
    adds_more (of_rules names) (map (rules_in names)) (λ (ns : List (Bor Bytes)). sections_named ss (texts ns)) (map-append (rules_in names)) (sections_joined ss)
    c.args.named.now c.loop-name.name-index _ c.loop-name-test.true c.in_ok-add_set.ensures c.loop-name.invariant

pub returns : goal.returns
returns c =
    let all = subst (λ (ns : List (Bor Bytes)). HasSets (names_of c.args.names.now) (sections_named c.args.sections.now (texts ns)) c.loop-name.read) (take_all c.loop-name.name-index c.args.named.now c.loop-name-test.false) c.loop-name.invariant in
    record { refused = all.refused; sets = all.items }
