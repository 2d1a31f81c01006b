use Rattle.std.proofs.Common.{◌≡◌, ◌∷◌, ◌++◌, [], ap, refl, rules}
use Rattle.std.specs.Prelude.{◌&&◌}
use Rattle.rule_syntax.specs.declared.named.NamedValue.{NamedValue}
use Rattle.rule_words.specs.Shown.{names_of}
use Rattle.rule_syntax.proofs.OneMore.{one_more_named, pushed}
use Rattle.rule_syntax.proofs.named.NamedValues.add.Goals as goal

pub returns : goal.returns
returns c =
    let names = names_of c.args.names.now in
    let old = c.args.self.now in
    let new : NamedValue = record { word = c.args.word; number = c.number.result; value = c.args.term.node } in
    let items : c.push.new.self.items ≡ old.list.items ++ new ∷ [] = search rules in
    λ xs x. one_more_named names c.args.kind c.args.word.now c.args.term old _ xs x
    (pushed names c.args.kind c.args.term old _ new items c.number.ensures refl
    (λ ns ms h k. c.and-self.ensures names _ ms (c.and.ensures names ns _ h c.lacks.ensures) k)
    (ap (λ b. old.are_numbers && b) c.is_number.ensures))
